-- What every place keeps: the numbers of its queues rise in the order of making, and an entry makes one object at most.
use Rattle.std.proofs.Common.{◌≡◌, ℕ, suc, ◌+◌, ◌≤◌, ◌<◌, List, [], ◌∷◌, ◌++◌, Bool, true, false, length, Option, Some, None, arith, refl, sym, subst, ap, ◌∙◌, length-append}
use Rattle.std.proofs.lemmas.List.{length-map}
use Rattle.std.specs.Prelude.{All, cond, fold, not, ◌&&◌, if◌then◌else◌, filter, map}
use Rattle.std.specs.List.{list_all}
use Rattle.std.proofs.lemmas.Bool.{and_parts, lt-ltb, ltb-true}
use Rattle.std.proofs.lemmas.List.Elements.{All-nil, All-cons, All-head, All-tail, All-push, All-filter, All-weaker}
use Rattle.route_core.specs.declared.object.Object.{Object}
use Rattle.route_core.specs.declared.object.Node.{Node}
use Rattle.route_core.specs.declared.object.Node.TheVariants as nodes
use Rattle.route_core.specs.declared.binding.Binding.{Binding}
use Rattle.route_core.specs.Objects.{sort_of, is_named, has, number_of, rises}
use Rattle.route_core.specs.declared.object.Sort.TheVariants as sorts
use Rattle.field_tables.specs.Tables.{IsTable}
use Rattle.route_core.specs.Bindings.{has_binding, is_same, ends_with}
use Rattle.route_core.specs.Routing.{Routing, stands, IsNext, with_object, without_object, with_binding, without_binding, object_named, predeclared, bound, unbound, has_ends}
use Rattle.fed_journal.specs.declared.place.Place.{Place}
use Rattle.fed_journal.specs.declared.entry.Entry.{Entry}
use Rattle.fed_journal.specs.declared.entry.Entry.TheVariants.{MadeQueue, MadeExchange, GoneQueue, Bound, Unbound}
use Rattle.amqp_props.specs.declared.message.Message.{Message}
use Rattle.route_core.specs.Routes.{routed, is_routed}
use Rattle.route_core.specs.Walks.{Publish, publish, headers_of}
use Rattle.fed_journal.specs.Copies.{IsFitting}
use Rattle.fed_journal.specs.Routes.{Site, routes, first_site, site_of, site, site_at, site_step, is_at, made, gone}

-- the next queue's number is above those of all queues
abbrev pub IsNumbering : Site → Type 0
IsNumbering s = IsNext (nodes.Queue s.queues) s.routing

-- ---- numbers

rises-more : (m : Option ℕ) (n : ℕ) → rises m (Some n) ≡ true → rises m (Some (n + 1)) ≡ true
rises-more None n h = refl
rises-more (Some k) n h = lt-ltb k (n + 1) (omega (arith, ltb-true k n h))

next-more : (n : ℕ) (r : Routing) → IsNext (nodes.Queue n) r → IsNext (nodes.Queue (n + 1)) r
next-more n r h = All-weaker (λ (o : Object). rises (number_of o.node) (Some n) ≡ true) (λ (o : Object). rises (number_of o.node) (Some (n + 1)) ≡ true) (λ o. rises-more (number_of o.node) n) r.objects h

made-next : (name : List ℕ) (node : Node) (n : ℕ) (r : Routing) → IsNext (nodes.Queue n) r → rises (number_of node) (Some n) ≡ true → IsNext (nodes.Queue n) (made name node r)
made-next name node n r h k =
    elim (stands (sort_of node) name r) as (λ b. IsNext (nodes.Queue n) (if b then r else with_object name node r)) [
      | true ↦ h
      | false ↦ All-push (λ (o : Object). rises (number_of o.node) (Some n) ≡ true) r.objects (object_named name node) h k
    ]

gone-next : (queue : List ℕ) (n : ℕ) (r : Routing) → IsNext (nodes.Queue n) r → IsNext (nodes.Queue n) (gone queue r)
gone-next queue n r h =
    elim (has sorts.Queue queue r.objects) as (λ b. IsNext (nodes.Queue n) (if b then without_object sorts.Queue queue r else r)) [
      | true ↦ All-filter (λ (o : Object). not (is_named sorts.Queue queue o)) (λ (o : Object). rises (number_of o.node) (Some n) ≡ true) r.objects h
      | false ↦ h
    ]

bound-next : (b : Binding) (n : ℕ) (r : Routing) → IsNext (nodes.Queue n) r → IsNext (nodes.Queue n) (bound b r)
bound-next b n r h = elim (has_ends b r && not (has_binding b r.bindings)) as (λ v. IsNext (nodes.Queue n) (if v then with_binding b r else r)) [ true ↦ h | false ↦ h ]

unbound-next : (b : Binding) (n : ℕ) (r : Routing) → IsNext (nodes.Queue n) r → IsNext (nodes.Queue n) (unbound b r)
unbound-next b n r h = elim (has_binding b r.bindings) as (λ v. IsNext (nodes.Queue n) (if v then without_binding b r else r)) [ true ↦ h | false ↦ h ]

site_at-numbering : (s : Site) (e : Entry) → IsNumbering s → IsNumbering (site_at s e)
site_at-numbering s (MadeQueue place queue options owner) h =
    made-next queue (nodes.Queue s.queues) (s.queues + 1) s.routing (next-more s.queues s.routing h) (lt-ltb s.queues (s.queues + 1) (omega arith))
site_at-numbering s (MadeExchange place exchange shape) h = made-next exchange (nodes.Exchange shape.kind) s.queues s.routing h refl
site_at-numbering s (GoneQueue place queue) h = gone-next queue s.queues s.routing h
site_at-numbering s (Bound place binding) h = bound-next binding s.queues s.routing h
site_at-numbering s (Unbound place binding) h = unbound-next binding s.queues s.routing h
site_at-numbering s _ h = h

pub site_step-numbering : (p : Place) (s : Site) (e : Entry) → IsNumbering s → IsNumbering (site_step p s e)
site_step-numbering p s e h = elim (is_at p e) as (λ b. IsNumbering (if b then site_at s e else s)) [ true ↦ site_at-numbering s e h | false ↦ h ]

fold-numbering : (p : Place) (s : Site) (J : List Entry) → IsNumbering s → IsNumbering (fold (site_step p) s J)
fold-numbering p s [] h = h
fold-numbering p s (e ∷ J) h = fold-numbering p (site_step p s e) J (site_step-numbering p s e h)

all-from : (test : Object → Bool) (objects : List Object) → list_all test objects ≡ true → All (λ o. test o ≡ true) objects
all-from test [] h = All-nil _
all-from test (o ∷ objects) h =
    let t = and_parts (test o) (list_all test objects) h in
    All-cons (λ (x : Object). test x ≡ true) o objects t.0 (all-from test objects t.1)

-- no queue is predeclared
first-numbering : IsNumbering first_site
first-numbering = all-from (λ o. rises (number_of o.node) (Some 0)) predeclared refl

pub site-numbering : (J : List Entry) (p : Place) → IsNumbering (site J p)
unfolding site
site-numbering J p = fold-numbering p first_site J first-numbering

-- ---- counts

-- how much is at a place
abbrev pub IsFew : ℕ → Site → Type 0
IsFew n s = (length s.routing.objects ≤ n + 5) × (s.queues ≤ n)

few-step : {X : Type 0} (b : Bool) (x : X) (ys : List X) (n : ℕ) → length ys ≤ n → length (cond b (x ∷ ys) ys) ≤ suc n
few-step true x ys n h = omega (arith, h)
few-step false x ys n h = omega (arith, h)

filter-few : {X : Type 0} (p : X → Bool) (xs : List X) → length (filter p xs) ≤ length xs
filter-few p [] = omega arith
filter-few p (x ∷ xs) = few-step (p x) x (filter p xs) (length xs) (filter-few p xs)

made-few : (name : List ℕ) (node : Node) (r : Routing) (n : ℕ) → length r.objects ≤ n → length (made name node r).objects ≤ n + 1
made-few name node r n h =
    elim (stands (sort_of node) name r) as (λ b. length (if b then r else with_object name node r).objects ≤ n + 1) [
      | true ↦ omega arith
      | false ↦ simp length-append (omega arith)
    ]

gone-few : (queue : List ℕ) (r : Routing) (n : ℕ) → length r.objects ≤ n → length (gone queue r).objects ≤ n + 1
gone-few queue r n h =
    elim (has sorts.Queue queue r.objects) as (λ b. length (if b then without_object sorts.Queue queue r else r).objects ≤ n + 1) [
      | true ↦ omega (arith, h, filter-few (λ o. not (is_named sorts.Queue queue o)) r.objects)
      | false ↦ omega (arith, h)
    ]

bound-few : (b : Binding) (r : Routing) (n : ℕ) → length r.objects ≤ n → length (bound b r).objects ≤ n + 1
bound-few b r n h = elim (has_ends b r && not (has_binding b r.bindings)) as (λ v. length (if v then with_binding b r else r).objects ≤ n + 1) [ true ↦ omega arith | false ↦ omega arith ]

unbound-few : (b : Binding) (r : Routing) (n : ℕ) → length r.objects ≤ n → length (unbound b r).objects ≤ n + 1
unbound-few b r n h = elim (has_binding b r.bindings) as (λ v. length (if v then without_binding b r else r).objects ≤ n + 1) [ true ↦ omega arith | false ↦ omega arith ]

more-few : (n : ℕ) (s : Site) → IsFew n s → IsFew (n + 1) s
more-few n s h = (omega (arith, h.0), omega (arith, h.1))

six : (n m : ℕ) → m ≤ n + 5 + 1 → m ≤ n + 1 + 5
six n m h = omega (arith, h)

site_at-few : (n : ℕ) (s : Site) (e : Entry) → IsFew n s → IsFew (n + 1) (site_at s e)
site_at-few n s (MadeQueue place queue options owner) h = (six n _ (made-few queue (nodes.Queue s.queues) s.routing (n + 5) h.0), omega (arith, h.1))
site_at-few n s (MadeExchange place exchange shape) h = (six n _ (made-few exchange (nodes.Exchange shape.kind) s.routing (n + 5) h.0), omega (arith, h.1))
site_at-few n s (GoneQueue place queue) h = (six n _ (gone-few queue s.routing (n + 5) h.0), omega (arith, h.1))
site_at-few n s (Bound place binding) h = (six n _ (bound-few binding s.routing (n + 5) h.0), omega (arith, h.1))
site_at-few n s (Unbound place binding) h = (six n _ (unbound-few binding s.routing (n + 5) h.0), omega (arith, h.1))
site_at-few n s _ h = more-few n s h

pub site_step-few : (p : Place) (n : ℕ) (s : Site) (e : Entry) → IsFew n s → IsFew (n + 1) (site_step p s e)
site_step-few p n s e h = elim (is_at p e) as (λ b. IsFew (n + 1) (if b then site_at s e else s)) [ true ↦ site_at-few n s e h | false ↦ more-few n s h ]

fold-few : (p : Place) (n : ℕ) (s : Site) (J : List Entry) → IsFew n s → IsFew (n + length J) (fold (site_step p) s J)
fold-few p n s [] h = (omega (arith, h.0), omega (arith, h.1))
fold-few p n s (e ∷ J) h =
    let rest = fold-few p (n + 1) (site_step p s e) J (site_step-few p n s e h) in
    (omega (arith, rest.0), omega (arith, rest.1))

-- a place has no more objects than its journal has entries, but for the predeclared ones
pub site-few : (J : List Entry) (p : Place) → IsFew (length J) (site J p)
unfolding site
site-few J p = let few = fold-few p 0 first_site J (omega arith, omega arith) in (omega (arith, few.0), omega (arith, few.1))

-- a message reaches no more queues than that
pub routes-few : (J : List Entry) (p : Place) (m : Message) → length (routes J p m) ≤ length J + 5
unfolding routes routed
routes-few J p m =
    let r : Routing = (site J p).routing in
    let publication : Publish = publish m.exchange m.key (headers_of m) in
    omega (arith, filter-few (is_routed r publication) r.objects, length-map (filter (is_routed r publication) r.objects) (λ (o : Object). o.name), (site-few J p).0)

-- ---- arguments

-- the arguments of its bindings are tables
abbrev pub AreTables : Site → Type 0
AreTables s = All (λ b. IsTable b.args) s.routing.bindings

made-tables : (name : List ℕ) (node : Node) (r : Routing) → All (λ b. IsTable b.args) r.bindings → All (λ b. IsTable b.args) (made name node r).bindings
made-tables name node r h = elim (stands (sort_of node) name r) as (λ v. All (λ b. IsTable b.args) (if v then r else with_object name node r).bindings) [ true ↦ h | false ↦ h ]

gone-tables : (queue : List ℕ) (r : Routing) → All (λ b. IsTable b.args) r.bindings → All (λ b. IsTable b.args) (gone queue r).bindings
gone-tables queue r h =
    elim (has sorts.Queue queue r.objects) as (λ v. All (λ b. IsTable b.args) (if v then without_object sorts.Queue queue r else r).bindings) [
      | true ↦ All-filter (λ b. not (ends_with sorts.Queue queue b)) (λ (b : Binding). IsTable b.args) r.bindings h
      | false ↦ h
    ]

bound-tables : (b : Binding) (r : Routing) → IsTable b.args → All (λ b. IsTable b.args) r.bindings → All (λ b. IsTable b.args) (bound b r).bindings
bound-tables b r t h =
    elim (has_ends b r && not (has_binding b r.bindings)) as (λ v. All (λ b. IsTable b.args) (if v then with_binding b r else r).bindings) [
      | true ↦ All-push (λ (b : Binding). IsTable b.args) r.bindings b h t
      | false ↦ h
    ]

unbound-tables : (b : Binding) (r : Routing) → All (λ b. IsTable b.args) r.bindings → All (λ b. IsTable b.args) (unbound b r).bindings
unbound-tables b r h =
    elim (has_binding b r.bindings) as (λ v. All (λ b. IsTable b.args) (if v then without_binding b r else r).bindings) [
      | true ↦ All-filter (λ other. not (is_same b other)) (λ (b : Binding). IsTable b.args) r.bindings h
      | false ↦ h
    ]

site_at-tables : (s : Site) (e : Entry) → IsFitting e → AreTables s → AreTables (site_at s e)
site_at-tables s (MadeQueue place queue options owner) t h = made-tables queue (nodes.Queue s.queues) s.routing h
site_at-tables s (MadeExchange place exchange shape) t h = made-tables exchange (nodes.Exchange shape.kind) s.routing h
site_at-tables s (GoneQueue place queue) t h = gone-tables queue s.routing h
site_at-tables s (Bound place binding) t h = bound-tables binding s.routing t h
site_at-tables s (Unbound place binding) t h = unbound-tables binding s.routing h
site_at-tables s _ t h = h

site_step-tables : (p : Place) (s : Site) (e : Entry) → IsFitting e → AreTables s → AreTables (site_step p s e)
site_step-tables p s e t h = elim (is_at p e) as (λ b. AreTables (if b then site_at s e else s)) [ true ↦ site_at-tables s e t h | false ↦ h ]

fold-tables : (p : Place) (s : Site) (J : List Entry) → All IsFitting J → AreTables s → AreTables (fold (site_step p) s J)
fold-tables p s [] t h = h
fold-tables p s (e ∷ J) t h = fold-tables p (site_step p s e) J (All-tail IsFitting e J t) (site_step-tables p s e (All-head IsFitting e J t) h)

pub site-tables : (J : List Entry) (p : Place) → All IsFitting J → AreTables (site J p)
unfolding site
site-tables J p t = fold-tables p first_site J t (All-nil (λ (b : Binding). IsTable b.args))
