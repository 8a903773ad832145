-- What keeps the objects of a router in their order.
use Rattle.std.proofs.Common.{◌≡◌, ℕ, Bool, true, false, not, ◌&&◌, List, [], ◌∷◌, ◌++◌, get_or, refl, arith}
use Rattle.std.specs.Prelude.{All, filter}
use Rattle.std.specs.List.{AllPairs, list_any, list_all}
use Rattle.std.proofs.lemmas.Bool.{and_parts, and_from, or_parts, not_from_false}
use Rattle.std.proofs.lemmas.List.Elements.{All-nil, All-cons}
use Rattle.std.proofs.lemmas.List.Quantifiers.{all_pairs_push}
use Rattle.std.proofs.lemmas.List.Kept.{AllPairs-cons, AllPairs-filter}
use Rattle.route_core.specs.declared.object.Node.{Node}
use Rattle.route_core.specs.declared.object.Object.{Object}
use Rattle.route_core.specs.Objects.{is_after, is_named, sort_of, has, number_of, rises}
use Rattle.route_core.specs.Routing.{Routing, object_named, stands, is_default, IsNext, predeclared}

abbrev pub InOrder : List Object → Type 0
InOrder objects = AllPairs (λ earlier later. is_after earlier later ≡ true) objects

none_pass : (test : Object → Bool) (objects : List Object) → list_any test objects ≡ false → All (λ o. test o ≡ false) objects
none_pass test [] h = All-nil _
none_pass test (o ∷ objects) h =
    let t = or_parts (test o) (list_any test objects) h in
    All-cons (λ (x : Object). test x ≡ false) o objects t.0 (none_pass test objects t.1)

pub order_push : (r : Routing) (name : List ℕ) (node : Node) → InOrder r.objects → stands (sort_of node) name r ≡ false → IsNext node r → InOrder (r.objects ++ object_named name node ∷ [])
order_push r name node order free next =
    let other : All (λ o. is_named (sort_of node) name o ≡ false) r.objects = none_pass (is_named (sort_of node) name) r.objects (or_parts (is_default (sort_of node) name) (has (sort_of node) name r.objects) free).1 in
    all_pairs_push (λ earlier later. is_after earlier later ≡ true) r.objects (object_named name node) order
    (λ k d lt. and_from (not (is_named (sort_of node) name (get_or r.objects k d))) (rises (number_of (get_or r.objects k d).node) (number_of node)) (not_from_false _ (other k d lt)) (next k d lt))

pub order_filter : (test : Object → Bool) (objects : List Object) → InOrder objects → InOrder (filter test objects)
order_filter test objects order = AllPairs-filter (λ earlier later. is_after earlier later ≡ true) test objects order

abbrev in_order : List Object → Bool
in_order [] = true
in_order (o ∷ objects) = list_all (is_after o) objects && in_order objects

all_pass : (test : Object → Bool) (objects : List Object) → list_all test objects ≡ true → All (λ o. test o ≡ true) objects
all_pass test [] h = All-nil _
all_pass test (o ∷ objects) h =
    let t = and_parts (test o) (list_all test objects) h in
    All-cons (λ (x : Object). test x ≡ true) o objects t.0 (all_pass test objects t.1)

order_from : (objects : List Object) → in_order objects ≡ true → InOrder objects
order_from [] h = λ i j d lt within. absurd (omega arith)
order_from (o ∷ objects) h =
    let t = and_parts (list_all (is_after o) objects) (in_order objects) h in
    AllPairs-cons (λ earlier later. is_after earlier later ≡ true) o objects (all_pass (is_after o) objects t.0) (order_from objects t.1)

pub order_first : InOrder predeclared
order_first = order_from predeclared refl
