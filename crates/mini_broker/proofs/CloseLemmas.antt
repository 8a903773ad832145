-- Queues that go, and connections that end.
use Rattle.std.proofs.Common.{◌≡◌, ℕ, ◌+◌, ◌==◌, Bool, true, false, cond, not, List, [], ◌∷◌, Some, is_some, refl, ap, sym, ◌∙◌}
use Rattle.std.specs.Prelude.{◌&&◌, ◌||◌, filter}
use Rattle.std.specs.List.{list_any}
use Rattle.std.specs.Str.{bytes_eq}
use Rattle.std.proofs.lemmas.Bool.{true≢false, false≢true}
use Rattle.std.proofs.lemmas.Slice.Eq.{bytes_eq-Decides}
use Rattle.std.proofs.lemmas.List.Elements.{All-filter}
use Rattle.route_core.specs.declared.object.Sort.{Sort}
use Rattle.route_core.specs.declared.object.Sort.TheVariants as sorts
use Rattle.route_core.specs.declared.object.Object.{Object}
use Rattle.route_core.specs.Objects.{has, is_named, same_sort, sort_of, number_of, rises}
use Rattle.route_core.specs.Routing.{Routing, without_object}
use Rattle.client_rules.specs.declared.client.Client.{Client}
use Rattle.broker_store.specs.Mail.{released_from}
use Rattle.amqp_props.specs.declared.message.Message.{Message}
use Rattle.broker_store.specs.Queues.{Named, queue_of, all_changed, with_mail, SameNames, others, StandInTurn}
use Rattle.broker_store.specs.Exchanges.{NamedShape}
use Rattle.mini_broker.specs.State.{AreRouted}
use Rattle.mini_broker.specs.Close.{freed_from}
use Rattle.broker_store.proofs.NameLemmas.{stands_mapped}

and_false : (a : Bool) → (a && false) ≡ false
and_false true = refl
and_false false = refl

and_true : (a : Bool) → (a && true) ≡ a
and_true true = refl
and_true false = refl

first_half : (a b : Bool) → (a && b) ≡ true → a ≡ true
first_half true b e = refl
first_half false b e = absurd (false≢true e)

second_half : (a b : Bool) → (a && b) ≡ true → b ≡ true
second_half true b e = e
second_half false b e = absurd (false≢true e)

-- those that pass the one test all pass the other
any_stay : {X : Type 0} (p test : X → Bool) → ((x : X) → p x ≡ true → test x ≡ true) → (xs : List X) → list_any p (filter test xs) ≡ list_any p xs
any_stay p test stay [] = refl
any_stay p test stay (x ∷ xs) =
    elim (test x) as (λ b. test x ≡ b → list_any p (cond b (x ∷ filter test xs) (filter test xs)) ≡ (p x || list_any p xs)) [
      | true ↦ (λ _. ap (λ b. p x || b) (any_stay p test stay xs))
      | false ↦ (λ off. elim (p x) as (λ c. p x ≡ c → list_any p (filter test xs) ≡ (c || list_any p xs)) [
        | true ↦ (λ on. absurd (true≢false (sym (stay x on) ∙ off)))
        | false ↦ (λ _. any_stay p test stay xs)
      ] refl)
    ] refl

-- those that pass the one test all fail the other
any_gone : {X : Type 0} (p test : X → Bool) → ((x : X) → p x ≡ true → test x ≡ false) → (xs : List X) → list_any p (filter test xs) ≡ false
any_gone p test gone [] = refl
any_gone p test gone (x ∷ xs) =
    elim (test x) as (λ b. test x ≡ b → list_any p (cond b (x ∷ filter test xs) (filter test xs)) ≡ false) [
      | true ↦ (λ on. elim (p x) as (λ c. p x ≡ c → (c || list_any p (filter test xs)) ≡ false) [
        | true ↦ (λ is. absurd (true≢false (sym on ∙ gone x is)))
        | false ↦ (λ _. any_gone p test gone xs)
      ] refl)
      | false ↦ (λ _. any_gone p test gone xs)
    ] refl

any_some : {M : Type 0} (name : List ℕ) (queues : List (Named M)) → is_some (queue_of name queues) ≡ list_any (λ q. bytes_eq name q.0) queues
any_some name [] = refl
any_some name (q ∷ queues) =
    elim (bytes_eq name q.0) as (λ b. is_some (cond b (Some q.1) (queue_of name queues)) ≡ (b || list_any (λ q. bytes_eq name q.0) queues)) [ true ↦ refl | false ↦ any_some name queues ]

-- what stands once a queue is gone
pub stands_others : {M : Type 0} (other name : List ℕ) (queues : List (Named M)) → is_some (queue_of other (others name queues)) ≡ (is_some (queue_of other queues) && not (bytes_eq other name))
stands_others {M = M} other name queues =
    any_some other (others name queues)
    ∙ elim (bytes_eq other name) as (λ b. bytes_eq other name ≡ b → list_any (λ q. bytes_eq other q.0) (others name queues) ≡ (list_any (λ q. bytes_eq other q.0) queues && not b)) [
      | true ↦ (λ is. any_gone (λ q. bytes_eq other q.0) (λ q. not (bytes_eq q.0 name)) (λ q on. tested q on ∙ ap not is) queues ∙ sym (and_false (list_any (λ q. bytes_eq other q.0) queues)))
      | false ↦ (λ is. any_stay (λ q. bytes_eq other q.0) (λ q. not (bytes_eq q.0 name)) (λ q on. tested q on ∙ ap not is) queues ∙ sym (and_true (list_any (λ q. bytes_eq other q.0) queues)))
    ] refl
    ∙ ap (λ b. b && not (bytes_eq other name)) (sym (any_some other queues))
  where
    tested : (q : Named M) → bytes_eq other q.0 ≡ true → not (bytes_eq q.0 name) ≡ not (bytes_eq other name)
    tested q on = ap (λ n. not (bytes_eq n name)) (sym ((bytes_eq-Decides other q.0).0 on))

-- what the router knows once a queue is gone
known_others : (other name : List ℕ) (objects : List Object) → has sorts.Queue other (filter (λ o. not (is_named sorts.Queue name o)) objects) ≡ (has sorts.Queue other objects && not (bytes_eq other name))
known_others other name objects =
    elim (bytes_eq other name) as (λ b. bytes_eq other name ≡ b → has sorts.Queue other (filter (λ o. not (is_named sorts.Queue name o)) objects) ≡ (has sorts.Queue other objects && not b)) [
      | true ↦ (λ is. any_gone (is_named sorts.Queue other) (λ o. not (is_named sorts.Queue name o)) (λ o on. tested o on ∙ ap not is) objects ∙ sym (and_false (has sorts.Queue other objects)))
      | false ↦ (λ is. any_stay (is_named sorts.Queue other) (λ o. not (is_named sorts.Queue name o)) (λ o on. tested o on ∙ ap not is) objects ∙ sym (and_true (has sorts.Queue other objects)))
    ] refl
  where
    tested : (o : Object) → is_named sorts.Queue other o ≡ true → not (is_named sorts.Queue name o) ≡ not (bytes_eq other name)
    tested o on =
        ap (λ b. not (b && bytes_eq o.name name)) (first_half (same_sort (sort_of o.node) sorts.Queue) (bytes_eq o.name other) on)
        ∙ ap (λ n. not (bytes_eq n name)) ((bytes_eq-Decides o.name other).0 (second_half (same_sort (sort_of o.node) sorts.Queue) (bytes_eq o.name other) on))

-- it knows each exchange still
known_exchanges : (other name : List ℕ) (objects : List Object) → has sorts.Exchange other (filter (λ o. not (is_named sorts.Queue name o)) objects) ≡ has sorts.Exchange other objects
known_exchanges other name objects =
    any_stay (is_named sorts.Exchange other) (λ o. not (is_named sorts.Queue name o)) (λ o on. differs (sort_of o.node) (bytes_eq o.name other) (bytes_eq o.name name) on) objects
  where
    differs : (sort : Sort) (a b : Bool) → (same_sort sort sorts.Exchange && a) ≡ true → not (same_sort sort sorts.Queue && b) ≡ true
    differs sorts.Queue a b e = absurd (false≢true e)
    differs sorts.Exchange a b e = refl

-- a queue goes
pub routed_others : (r : Routing) (queues : List (Named Message)) (exchanges : List NamedShape) (made : ℕ) (name : List ℕ) → AreRouted r queues exchanges made → AreRouted (without_object sorts.Queue name r) (others name queues) exchanges made
routed_others r queues exchanges made name known = record {
  queue_names = λ other. known_others other name r.objects ∙ ap (λ b. b && not (bytes_eq other name)) (known.queue_names other) ∙ sym (stands_others other name queues);
  exchange_names = λ other. known_exchanges other name r.objects ∙ known.exchange_names other;
  numbers = All-filter (λ o. not (is_named sorts.Queue name o)) (λ o. rises (number_of o.node) (Some made) ≡ true) r.objects known.numbers;
}

-- no queue comes or goes as a connection lets go of its copies
pub freed_names : {M : Type 0} (connection number : ℕ) (clients : List Client) (queues : List (Named M)) → SameNames queues (freed_from connection number clients queues)
freed_names connection number [] queues = λ name. refl
freed_names connection number (client ∷ clients) queues =
    λ name. freed_names connection (number + 1) clients (cond (client.connection == connection) (all_changed (with_mail (released_from number)) queues) queues) name
    ∙ elim (client.connection == connection) as (λ b. is_some (queue_of name (cond b (all_changed (with_mail (released_from number)) queues) queues)) ≡ is_some (queue_of name queues)) [
      | true ↦ stands_mapped name (with_mail (released_from number)) queues
      | false ↦ refl
    ]

-- ---- queues that go one after the other

pub turn_same : {M : Type 0} (names : List (List ℕ)) (was now : List (Named M)) → SameNames was now → StandInTurn names was → StandInTurn names now
turn_same [] was now same h = tt
turn_same (name ∷ names) was now same h =
    (same name ∙ h.0, turn_same names (others name was) (others name now) (λ other. stands_others other name now ∙ ap (λ b. b && not (bytes_eq other name)) (same other) ∙ sym (stands_others other name was)) h.1)
