-- What the router knows of the queues and exchanges that stand.
use Rattle.std.proofs.Common.{◌≡◌, ℕ, ◌+◌, Bool, true, false, List, [], ◌∷◌, ◌++◌, Option, Some, None, is_some, refl, ap, sym, ◌∙◌, arith}
use Rattle.std.specs.Prelude.{◌||◌, if◌then◌else◌, codes, nat_lt}
use Rattle.std.specs.Str.{bytes_eq}
use Rattle.std.specs.Option.{option_map, option_or}
use Rattle.std.proofs.lemmas.Bool.{true≢false, false≢true}
use Rattle.std.proofs.lemmas.Bool.Decides.{nat_tests}
use Rattle.std.proofs.lemmas.List.Elements.{All-push, All-weaker, All-from_recursion}
use Rattle.route_core.specs.declared.object.Sort.TheVariants as sorts
use Rattle.route_core.specs.declared.object.Node.TheVariants as nodes
use Rattle.route_core.specs.Objects.{has, is_named, number_of, rises}
use Rattle.route_core.specs.Routing.{Routing, predeclared, object_named, with_object, stands}
use Rattle.amqp_props.specs.declared.link.ExchangeKind.{ExchangeKind}
use Rattle.amqp_props.specs.declared.link.ExchangeKind.TheVariants.{Direct, Fanout, Headers, Topic}
use Rattle.client_rules.specs.declared.client.ExchangeShape.{ExchangeShape}
use Rattle.route_core.specs.Predeclared.{predeclared_shape}
use Rattle.amqp_props.specs.declared.message.Message.{Message}
use Rattle.broker_store.specs.Queues.{Standing, Named, queue_of, changed, all_changed, SameNames}
use Rattle.broker_store.specs.Exchanges.{NamedShape, shape_of, declared_shape}
use Rattle.mini_broker.specs.State.{AreRouted}
use Rattle.broker_store.proofs.NameLemmas.{either_way, or_false, any_push, lookup_push, stands_changed, stands_mapped}

-- the type, by which of the names it is
abbrev predeclared_by : Bool → Bool → Bool → Bool → Bool → Option ExchangeKind
predeclared_by direct fanout headers match topic =
    if direct then Some Direct else if fanout then Some Fanout else if headers then Some Headers else if match then Some Headers else
    if topic then Some Topic else None

abbrev as_predeclared : ExchangeKind → ExchangeShape
as_predeclared kind = record { kind = kind; durable = true; internal = false }

five : (a b c d e : Bool) → (a || (b || (c || (d || (e || false))))) ≡ is_some (option_map as_predeclared (predeclared_by a b c d e))
five true b c d e = refl
five false true c d e = refl
five false false true d e = refl
five false false false true e = refl
five false false false false true = refl
five false false false false false = refl

ten : (name : List ℕ) → has sorts.Exchange name predeclared ≡ is_some (predeclared_shape name)
ten name =
    rw (either_way (codes "amq.direct") name, either_way (codes "amq.fanout") name, either_way (codes "amq.headers") name, either_way (codes "amq.match") name, either_way (codes "amq.topic") name)
    (five (bytes_eq name (codes "amq.direct")) (bytes_eq name (codes "amq.fanout")) (bytes_eq name (codes "amq.headers")) (bytes_eq name (codes "amq.match")) (bytes_eq name (codes "amq.topic")))

-- at first the router knows the predeclared exchanges
pub bare_routed : (r : Routing) (queues : List (Named Message)) (exchanges : List NamedShape) → r.objects ≡ predeclared → queues ≡ [] → exchanges ≡ [] → AreRouted r queues exchanges 0
bare_routed r queues exchanges objects none no_exchanges = record {
  queue_names = λ name. rw (objects, none) refl;
  exchange_names = λ name. rw (objects, no_exchanges) (ten name);
  numbers = rw objects (All-from_recursion (λ o. rises (number_of o.node) (Some 0) ≡ true) predeclared (refl, (refl, (refl, (refl, (refl, tt))))));
}

later : (n : Option ℕ) (made : ℕ) → rises n (Some made) ≡ true → rises n (Some (made + 1)) ≡ true
later None made e = refl
later (Some k) made e = grind (arith, nat_tests, e)

-- a queue is made
pub routed_queue : (r : Routing) (queues : List (Named Message)) (exchanges : List NamedShape) (made : ℕ) (name : List ℕ) (queue : Standing Message) → AreRouted r queues exchanges made → AreRouted (with_object name (nodes.Queue made) r) (queues ++ (name, queue) ∷ []) exchanges (made + 1)
routed_queue r queues exchanges made name queue known = record {
  queue_names = λ other. any_push (is_named sorts.Queue other) r.objects (object_named name (nodes.Queue made)) ∙ ap (λ b. b || bytes_eq name other) (known.queue_names other) ∙ ap (λ b. is_some (queue_of other queues) || b) (either_way name other) ∙ sym (lookup_push other queues (name, queue));
  exchange_names = λ other. any_push (is_named sorts.Exchange other) r.objects (object_named name (nodes.Queue made)) ∙ or_false (has sorts.Exchange other r.objects) ∙ known.exchange_names other;
  numbers = All-push (λ o. rises (number_of o.node) (Some (made + 1)) ≡ true) r.objects (object_named name (nodes.Queue made)) (All-weaker (λ o. rises (number_of o.node) (Some made) ≡ true) (λ o. rises (number_of o.node) (Some (made + 1)) ≡ true) (λ o e. later (number_of o.node) made e) r.objects known.numbers) (above made);
}
  where
    above : (n : ℕ) → nat_lt n (n + 1) ≡ true
    above n = grind (arith, nat_tests)

shape_push : (other : List ℕ) (exchanges : List NamedShape) (name : List ℕ) (shape : ExchangeShape) → is_some (shape_of other (exchanges ++ (name, shape) ∷ [])) ≡ (is_some (shape_of other exchanges) || bytes_eq name other)
shape_push other exchanges name shape =
    either (declared_shape other (exchanges ++ (name, shape) ∷ [])) (declared_shape other exchanges) (predeclared_shape other) (bytes_eq name other) (lookup_push other exchanges (name, shape) ∙ ap (λ b. is_some (declared_shape other exchanges) || b) (either_way other name))
  where
    either : (now was rest : Option ExchangeShape) (here : Bool) → is_some now ≡ (is_some was || here) → is_some (option_or now rest) ≡ (is_some (option_or was rest) || here)
    either (Some a) (Some b) rest here e = refl
    either (Some a) None (Some r) here e = refl
    either (Some a) None None here e = e
    either None (Some b) rest here e = absurd (false≢true e)
    either None None (Some r) here e = refl
    either None None None here e = e

-- an exchange is made
pub routed_exchange : (r : Routing) (queues : List (Named Message)) (exchanges : List NamedShape) (made : ℕ) (name : List ℕ) (shape : ExchangeShape) → AreRouted r queues exchanges made → AreRouted (with_object name (nodes.Exchange shape.kind) r) queues (exchanges ++ (name, shape) ∷ []) made
routed_exchange r queues exchanges made name shape known = record {
  queue_names = λ other. any_push (is_named sorts.Queue other) r.objects (object_named name (nodes.Exchange shape.kind)) ∙ or_false (has sorts.Queue other r.objects) ∙ known.queue_names other;
  exchange_names = λ other. any_push (is_named sorts.Exchange other) r.objects (object_named name (nodes.Exchange shape.kind)) ∙ ap (λ b. b || bytes_eq name other) (known.exchange_names other) ∙ sym (shape_push other exchanges name shape);
  numbers = All-push (λ o. rises (number_of o.node) (Some made) ≡ true) r.objects (object_named name (nodes.Exchange shape.kind)) known.numbers refl;
}

-- a queue that isn't in the table isn't in the router
pub free_queue : (r : Routing) (queues : List (Named Message)) (exchanges : List NamedShape) (made : ℕ) (name : List ℕ) → AreRouted r queues exchanges made → queue_of name queues ≡ None → stands sorts.Queue name r ≡ false
free_queue r queues exchanges made name known none = known.queue_names name ∙ ap is_some none

pub free_exchange : (r : Routing) (queues : List (Named Message)) (exchanges : List NamedShape) (made : ℕ) (name : List ℕ) → AreRouted r queues exchanges made → shape_of name exchanges ≡ None → bytes_eq name [] ≡ false → stands sorts.Exchange name r ≡ false
free_exchange r queues exchanges made name known none named = ap (λ b. b || has sorts.Exchange name r.objects) named ∙ known.exchange_names name ∙ ap is_some none

pub not_declared : (name : List ℕ) (exchanges : List NamedShape) → shape_of name exchanges ≡ None → declared_shape name exchanges ≡ None
not_declared name exchanges none = first (declared_shape name exchanges) (predeclared_shape name) none
  where
    first : (a b : Option ExchangeShape) → option_or a b ≡ None → a ≡ None
    first None b e = refl
    first (Some a) b e = absurd (true≢false (ap is_some e))

pub routed_same : (r : Routing) (was now : List (Named Message)) (exchanges : List NamedShape) (made : ℕ) → SameNames was now → AreRouted r was exchanges made → AreRouted r now exchanges made
routed_same r was now exchanges made same known = record {
  queue_names = λ other. known.queue_names other ∙ sym (same other);
  exchange_names = known.exchange_names;
  numbers = known.numbers;
}

pub routed_changed : (r : Routing) (queues : List (Named Message)) (exchanges : List NamedShape) (made : ℕ) (name : List ℕ) (change : Standing Message → Standing Message) → AreRouted r queues exchanges made → AreRouted r (changed name change queues) exchanges made
routed_changed r queues exchanges made name change known = record {
  queue_names = λ other. known.queue_names other ∙ sym (stands_changed other name change queues);
  exchange_names = known.exchange_names;
  numbers = known.numbers;
}

pub routed_mapped : (r : Routing) (queues : List (Named Message)) (exchanges : List NamedShape) (made : ℕ) (change : Standing Message → Standing Message) → AreRouted r queues exchanges made → AreRouted r (all_changed change queues) exchanges made
routed_mapped r queues exchanges made change known = record {
  queue_names = λ other. known.queue_names other ∙ sym (stands_mapped other change queues);
  exchange_names = known.exchange_names;
  numbers = known.numbers;
}
