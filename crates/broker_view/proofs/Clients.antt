-- What entries do to the clients and consumers of a virtual host.
use Rattle.std.proofs.Common.{◌≡◌, ℕ, ◌≤◌, Bool, true, false, cond, List, [], ◌∷◌, ◌++◌, Option, Some, position, length, refl, sym, ap, ◌∙◌, arith}
use Rattle.std.specs.List.{list_any}
use Rattle.std.proofs.lemmas.List.Quantifiers.{position-Some}
use Rattle.fed_journal.specs.declared.place.Place.{Place}
use Rattle.client_rules.specs.declared.client.Client.{Client}
use Rattle.fed_journal.specs.declared.entry.Entry.{Entry}
use Rattle.fed_journal.specs.declared.entry.Entry.TheVariants.{MadeQueue, MadeExchange, GoneQueue, Bound, Unbound, Published, Flushed, Consumed, Cancelled, Delivered, Purged, Closed}
use Rattle.fed_journal.specs.Names.{same_text, same_place}
use Rattle.route_core.specs.Routing.{bound, unbound}
use Rattle.fed_journal.specs.Consumers as journal
use Rattle.broker_store.specs.declared.consumer.Consumer.{Consumer}
use Rattle.broker_store.specs.declared.mailbox.Sweep.TheVariants as sweeps
use Rattle.broker_store.specs.Consumers.{is_client, registered, client_number}
use Rattle.mini_broker.specs.State.{VhostState}
use Rattle.mini_broker.specs.Declare.{with_queue, with_exchange}
use Rattle.mini_broker.specs.Bind.{with_routing}
use Rattle.mini_broker.specs.Consume.{new_consumer, with_consumer, without_consumer}
use Rattle.mini_broker.specs.Settle.{with_purged, all_swept}
use Rattle.mini_broker.specs.Close.{disconnected, without_queue}
use Rattle.mini_broker.specs.Record.{with_entered, with_handed}
use Rattle.broker_view.specs.Recorded.{recorded}
use Rattle.broker_view.specs.View.{IsNumbered}
use Rattle.broker_view.proofs.Alike.{same_client-true, same_client-refl}
use Rattle.broker_view.proofs.Finds.{position-longer, position-some, position-push}

-- the clients and consumers stay as they are
pub record SameClients (v w : VhostState) : Type 0 where
  pub clients : w.clients ≡ v.clients
  pub consumers : w.consumers ≡ v.consumers
  pub begun : w.begun ≡ v.begun

pub same-clients : (v : VhostState) → SameClients v v
same-clients v = record { clients = refl; consumers = refl; begun = refl }

same-if : (b : Bool) (w v : VhostState) → SameClients v w → SameClients v (cond b w v)
same-if true w v h = h
same-if false w v h = same-clients v

-- entries that begin and end no consumer, and hand no copy to a client
abbrev pub IsPlain : Entry → Type 0
IsPlain (Consumed place client queue tag no_ack prefetch) = ⊥
IsPlain (Cancelled place client tag) = ⊥
IsPlain (Closed place connection) = ⊥
IsPlain (GoneQueue place queue) = ⊥
IsPlain (Delivered place client tag queue copy no_ack) = ⊥
IsPlain _ = Unit {0}

pub plain-same : (p : Place) (e : Entry) (v : VhostState) → IsPlain e → SameClients v (recorded p e v)
plain-same p (Consumed place client queue tag no_ack prefetch) v plain = absurd plain
plain-same p (Cancelled place client tag) v plain = absurd plain
plain-same p (Closed place connection) v plain = absurd plain
plain-same p (GoneQueue place queue) v plain = absurd plain
plain-same p (Delivered place client tag queue copy no_ack) v plain = absurd plain
plain-same p (MadeQueue place queue options owner) v plain =
    same-if (same_place place p) (with_queue queue options owner v) v (record { clients = refl; consumers = refl; begun = refl })
plain-same p (MadeExchange place exchange shape) v plain =
    same-if (same_place place p) (with_exchange exchange shape v) v (record { clients = refl; consumers = refl; begun = refl })
plain-same p (Bound place binding) v plain =
    same-if (same_place place p) (with_routing (bound binding v.routing) v) v (record { clients = refl; consumers = refl; begun = refl })
plain-same p (Unbound place binding) v plain =
    same-if (same_place place p) (with_routing (unbound binding v.routing) v) v (record { clients = refl; consumers = refl; begun = refl })
plain-same p (Published x) v plain =
    same-if (same_place x.place p) (with_entered x.queues x.first x.message v) v (record { clients = refl; consumers = refl; begun = refl })
plain-same p (Flushed broker) v plain =
    same-if (same_text broker p.broker) (all_swept sweeps.Store v) v (record { clients = refl; consumers = refl; begun = refl })
plain-same p (Purged place queue) v plain =
    same-if (same_place place p) (with_purged queue v) v (record { clients = refl; consumers = refl; begun = refl })
plain-same p _ v plain = record { clients = refl; consumers = refl; begun = refl }

pub plain-consumer : (p : Place) (k : Client) (t : List ℕ) (was : Option journal.Consumer) (e : Entry) → IsPlain e → journal.consumer_step p k t was e ≡ was
plain-consumer p k t was (Consumed place client queue tag no_ack prefetch) plain = absurd plain
plain-consumer p k t was (Cancelled place client tag) plain = absurd plain
plain-consumer p k t was (Closed place connection) plain = absurd plain
plain-consumer p k t was (GoneQueue place queue) plain = absurd plain
plain-consumer p k t was (Delivered place client tag queue copy no_ack) plain = absurd plain
plain-consumer p k t was _ plain = refl

pub plain-handed : (p : Place) (k : Client) (t : List ℕ) (was : List ℕ) (e : Entry) → IsPlain e → journal.handed_step p k t was e ≡ was
plain-handed p k t was (Consumed place client queue tag no_ack prefetch) plain = absurd plain
plain-handed p k t was (Delivered place client tag queue copy no_ack) plain = absurd plain
plain-handed p k t was _ plain = refl

-- ---- clients keep their numbers

-- clients keep their numbers, and so many consumers began or more
pub record Grows (v w : VhostState) : Type 0 where
  pub clients : (k : Client) (i : ℕ) → position (is_client k) v.clients ≡ Some i → position (is_client k) w.clients ≡ Some i
  pub begun : v.begun ≤ w.begun

pub same-grows : (v w : VhostState) → SameClients v w → Grows v w
same-grows v w same = record {
  clients = λ k i h. ap (position (is_client k)) same.clients ∙ h;
  begun = let begun : w.begun ≡ v.begun = same.begun in omega arith;
}

pub registered-longer : (who k : Client) (clients : List Client) (i : ℕ) → position (is_client k) clients ≡ Some i → position (is_client k) (registered who clients) ≡ Some i
registered-longer who k clients i h =
    elim (list_any (is_client who) clients) as (λ b. position (is_client k) (cond b clients (clients ++ who ∷ [])) ≡ Some i) [
      | true ↦ h
      | false ↦ position-longer (is_client k) i clients (who ∷ []) h
    ]

registered-by : (who : Client) (clients : List Client) (b : Bool) → list_any (is_client who) clients ≡ b → position (is_client who) (cond b clients (clients ++ who ∷ [])) ≡ Some (client_number who clients)
registered-by who clients true some = position-some (is_client who) (length clients) clients some
registered-by who clients false none = position-push (is_client who) clients who none (same_client-refl who)

-- the client has its number
pub registered-number : (who : Client) (clients : List Client) → position (is_client who) (registered who clients) ≡ Some (client_number who clients)
registered-number who clients = registered-by who clients (list_any (is_client who) clients) refl

-- two clients of one number are the same
pub number-once : (a b : Client) (clients : List Client) (i : ℕ) → position (is_client a) clients ≡ Some i → position (is_client b) clients ≡ Some i → a ≡ b
number-once a b clients i at_a at_b =
    sym (same_client-true _ a (position-Some (is_client a) clients i a at_a).1) ∙ same_client-true _ b (position-Some (is_client b) clients i a at_b).1

grows-if : (b : Bool) (w v : VhostState) → Grows v w → Grows v (cond b w v)
grows-if true w v h = h
grows-if false w v h = same-grows v v (same-clients v)

pub recorded-grows : (p : Place) (e : Entry) (v : VhostState) → Grows v (recorded p e v)
recorded-grows p (Consumed place client queue tag no_ack prefetch) v =
    grows-if (same_place place p) (with_consumer (new_consumer client queue tag no_ack prefetch v) v) v (record { clients = λ k i h. registered-longer client k v.clients i h; begun = omega arith })
recorded-grows p (Delivered place client tag queue copy no_ack) v =
    grows-if (same_place place p) (with_handed client tag queue copy no_ack v) v (record { clients = λ k i h. registered-longer client k v.clients i h; begun = omega arith })
recorded-grows p (Cancelled place client tag) v =
    grows-if (same_place place p) (without_consumer client tag v) v (record { clients = λ k i h. h; begun = omega arith })
recorded-grows p (Closed place connection) v =
    grows-if (same_place place p) (disconnected connection v) v (record { clients = λ k i h. h; begun = omega arith })
recorded-grows p (GoneQueue place queue) v =
    grows-if (same_place place p) (without_queue queue v) v (record { clients = λ k i h. h; begun = omega arith })
recorded-grows p e v = same-grows v (recorded p e v) (plain-same p e v tt)

pub numbered-grown : (v w : VhostState) (consumer : Consumer) → Grows v w → IsNumbered v consumer → IsNumbered w consumer
numbered-grown v w consumer grown h =
    let begun : v.begun ≤ w.begun = grown.begun in
    let last : consumer.holder.part ≤ v.begun = h.last in
    record {
      client' = h.client';
      number = grown.clients consumer.client consumer.holder.number h.number;
      first = h.first;
      last = omega arith;
    }
