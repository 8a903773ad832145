-- Who consumes in a virtual host is who consumes by the journal.
use Rattle.std.proofs.Common.{◌≡◌, ℕ, ◌+◌, ◌<◌, ◌≤◌, ◌==◌, Bool, true, false, cond, not, ◌&&◌, List, [], ◌∷◌, ◌++◌, Option, Some, None, All, filter, find, refl, sym, ap, subst, ◌∙◌, arith}
use Rattle.std.specs.List.{list_any}
use Rattle.std.specs.Option.{option_map, option_or}
use Rattle.std.proofs.lemmas.Bool.{true≢false, and_parts, and_from, false_from_ne_true}
use Rattle.std.proofs.lemmas.Option.{none-some}
use Rattle.std.proofs.lemmas.List.Elements.{All-nil, All-head, All-tail, All-push, All-filter, All-weaker}
use Rattle.std.proofs.lemmas.List.Folds.{find-append}
use Rattle.std.proofs.lemmas.List.Sums.{fold-append}
use Rattle.fed_journal.specs.declared.place.Place.{Place}
use Rattle.client_rules.specs.declared.client.Client.{Client}
use Rattle.fed_journal.specs.declared.entry.Entry.{Entry}
use Rattle.fed_journal.specs.declared.entry.Entry.TheVariants.{GoneQueue, Consumed, Cancelled, Delivered, Closed}
use Rattle.fed_journal.specs.Names.{same_text, same_place}
use Rattle.fed_journal.specs.Holders.{same_client}
use Rattle.fed_journal.specs.Consumers as journal
use Rattle.broker_store.specs.declared.consumer.Consumer.{Consumer}
use Rattle.broker_store.specs.Consumers.{is_client, is_consumer}
use Rattle.mini_broker.specs.State.{VhostState}
use Rattle.mini_broker.specs.Consume.{new_consumer, with_consumer, without_consumer}
use Rattle.mini_broker.specs.Close.{is_on, consumes_from, disconnected, without_queue}
use Rattle.mini_broker.specs.Record.{with_handed}
use Rattle.broker_view.specs.Recorded.{recorded}
use Rattle.broker_view.specs.Suits.{Suits}
use Rattle.broker_view.specs.View.{asked, AreSingle, Rise, IsNumbered, HasConsumers}
use Rattle.broker_view.proofs.Names.{same_text-true, same_text-refl, same_text-sym, same_place-true}
use Rattle.broker_view.proofs.Alike.{same_client-true, same_client-refl, same_client-turned}
use Rattle.broker_view.proofs.Finds.{find-any, any-all, found-passes, Once, unless_it, find-filtered}
use Rattle.broker_view.proofs.Clients.{SameClients, same-clients, plain-same, plain-consumer, Grows, same-grows, recorded-grows, numbered-grown, registered-number}
use Rattle.broker_view.proofs.Tables.{none-push, none-filter}

-- ---- consumers by their client and tag

pub consumer-same : (k : Client) (t : List ℕ) (consumer : Consumer) → is_consumer k t consumer ≡ true → (consumer.client ≡ k) × (consumer.tag ≡ t)
consumer-same k t consumer h =
    let parts : (is_client k consumer.client ≡ true) × (same_text consumer.tag t ≡ true) = and_parts (is_client k consumer.client) (same_text consumer.tag t) h in
    (same_client-true consumer.client k parts.0, same_text-true consumer.tag t parts.1)

pub consumer-own : (consumer : Consumer) → is_consumer consumer.client consumer.tag consumer ≡ true
consumer-own consumer = and_from (is_client consumer.client consumer.client) (same_text consumer.tag consumer.tag) (same_client-refl consumer.client) (same_text-refl consumer.tag)

-- two consumers that differ differ either way
turned-other : (a b : Consumer) → is_consumer b.client b.tag a ≡ false → is_consumer a.client a.tag b ≡ false
turned-other a b h = false_from_ne_true (is_consumer a.client a.tag b) (λ same.
    let parts : (b.client ≡ a.client) × (b.tag ≡ a.tag) = consumer-same a.client a.tag b same in
    true≢false (sym (consumer-own a) ∙ ap (λ k. is_consumer k a.tag a) (sym parts.0) ∙ ap (λ t. is_consumer b.client t a) (sym parts.1) ∙ h))

pub single-once : (k : Client) (t : List ℕ) (consumers : List Consumer) → AreSingle consumers → Once (is_consumer k t) consumers
single-once k t [] single = tt
single-once k t (consumer ∷ consumers) single = (
  λ on.
      let same : (consumer.client ≡ k) × (consumer.tag ≡ t) = consumer-same k t consumer on in
      ap (λ client. list_any (is_consumer client t) consumers) (sym same.0) ∙ ap (λ tag. list_any (is_consumer consumer.client tag) consumers) (sym same.1) ∙ single.0,
  single-once k t consumers single.1,
)

single-push : (consumers : List Consumer) (new : Consumer) → AreSingle consumers → All (λ consumer. is_consumer new.client new.tag consumer ≡ false) consumers → AreSingle (consumers ++ new ∷ [])
single-push [] new single others = (refl, tt)
single-push (consumer ∷ consumers) new single others = (
  none-push (is_consumer consumer.client consumer.tag) consumers new single.0 (turned-other consumer new (All-head (λ c. is_consumer new.client new.tag c ≡ false) consumer consumers others)),
  single-push consumers new single.1 (All-tail (λ c. is_consumer new.client new.tag c ≡ false) consumer consumers others),
)

single-filter : (test : Consumer → Bool) (consumers : List Consumer) → AreSingle consumers → AreSingle (filter test consumers)
single-filter test [] single = tt
single-filter test (consumer ∷ consumers) single =
    elim (test consumer) as (λ b. AreSingle (cond b (consumer ∷ filter test consumers) (filter test consumers))) [
      | true ↦ (none-filter (is_consumer consumer.client consumer.tag) test consumers single.0, single-filter test consumers single.1)
      | false ↦ single-filter test consumers single.1
    ]

rise-push : (consumers : List Consumer) (new : Consumer) → Rise consumers → All (λ consumer. consumer.holder.part < new.holder.part) consumers → Rise (consumers ++ new ∷ [])
rise-push [] new rise below = (All-nil (λ later. new.holder.part < later.holder.part), tt)
rise-push (consumer ∷ consumers) new rise below = (
  All-push (λ later. consumer.holder.part < later.holder.part) consumers new rise.0 (All-head (λ c. c.holder.part < new.holder.part) consumer consumers below),
  rise-push consumers new rise.1 (All-tail (λ c. c.holder.part < new.holder.part) consumer consumers below),
)

rise-filter : (test : Consumer → Bool) (consumers : List Consumer) → Rise consumers → Rise (filter test consumers)
rise-filter test [] rise = tt
rise-filter test (consumer ∷ consumers) rise =
    elim (test consumer) as (λ b. Rise (cond b (consumer ∷ filter test consumers) (filter test consumers))) [
      | true ↦ (All-filter test (λ later. consumer.holder.part < later.holder.part) consumers rise.0, rise-filter test consumers rise.1)
      | false ↦ rise-filter test consumers rise.1
    ]

-- ---- the journal's consumers

pub consumer-push : (J : List Entry) (e : Entry) (p : Place) (k : Client) (t : List ℕ) → journal.consumer (J ++ e ∷ []) p k t ≡ journal.consumer_step p k t (journal.consumer J p k t) e
unfolding journal.consumer
consumer-push J e p k t = fold-append (journal.consumer_step p k t) None J (e ∷ [])

-- the clients and consumers stay as they are, and what the journal says of them
stays : (J K : List Entry) (p : Place) (v w : VhostState) → HasConsumers J p v → SameClients v w → ((k : Client) (t : List ℕ) → journal.consumer K p k t ≡ journal.consumer J p k t) → HasConsumers K p w
stays J K p v w h same said = record {
  consumers = λ k t. ap (λ cs. option_map asked (find (is_consumer k t) cs)) same.consumers ∙ h.consumers k t ∙ sym (said k t);
  single = subst AreSingle (sym same.consumers) h.single;
  rise = subst Rise (sym same.consumers) h.rise;
  numbered = subst (All (IsNumbered w)) (sym same.consumers) (All-weaker (IsNumbered v) (IsNumbered w) (λ c. numbered-grown v w c (same-grows v w same)) v.consumers h.numbered);
}

-- consumers end
fewer : (K : List Entry) (J : List Entry) (p : Place) (v w : VhostState) (test : Consumer → Bool) → HasConsumers J p v → Grows v w → w.consumers ≡ filter test v.consumers → ((k : Client) (t : List ℕ) → option_map asked (find (is_consumer k t) (filter test v.consumers)) ≡ journal.consumer K p k t) → HasConsumers K p w
fewer K J p v w test h grown left said = record {
  consumers = λ k t. ap (λ cs. option_map asked (find (is_consumer k t) cs)) left ∙ said k t;
  single = subst AreSingle (sym left) (single-filter test v.consumers h.single);
  rise = subst Rise (sym left) (rise-filter test v.consumers h.rise);
  numbered = subst (All (IsNumbered w)) (sym left) (All-filter test (IsNumbered w) v.consumers (All-weaker (IsNumbered v) (IsNumbered w) (λ c. numbered-grown v w c grown) v.consumers h.numbered));
}

-- ---- which consumers end

ended : (q : Consumer → Bool) (o : Option Consumer) (b : Bool) → ((consumer : Consumer) → o ≡ Some consumer → q consumer ≡ b) → option_map asked (unless_it q o) ≡ cond b None (option_map asked o)
ended q None true h = refl
ended q None false h = refl
ended q (Some consumer) true h = ap (λ b. option_map asked (cond b None (Some consumer))) (h consumer refl)
ended q (Some consumer) false h = ap (λ b. option_map asked (cond b None (Some consumer))) (h consumer refl)

-- where the test tells by the client and tag alone
ended-of : (J : List Entry) (p : Place) (v : VhostState) (q : Consumer → Bool) (k : Client) (t : List ℕ) (b : Bool) → HasConsumers J p v → ((consumer : Consumer) → consumer.client ≡ k → consumer.tag ≡ t → q consumer ≡ b) → option_map asked (find (is_consumer k t) (filter (λ consumer. not (q consumer)) v.consumers)) ≡ cond b None (journal.consumer J p k t)
ended-of J p v q k t b h told =
    ap (option_map asked) (find-filtered (is_consumer k t) q v.consumers (single-once k t v.consumers h.single))
    ∙ ended q (find (is_consumer k t) v.consumers) b (λ consumer is.
    let same : (consumer.client ≡ k) × (consumer.tag ≡ t) = consumer-same k t consumer (found-passes (is_consumer k t) v.consumers consumer is) in
    told consumer same.0 same.1)
    ∙ ap (cond b None) (h.consumers k t)

from-queue : (queue : List ℕ) (o : Option Consumer) → option_map asked (unless_it (consumes_from queue) o) ≡ cond (journal.is_from queue (option_map asked o)) None (option_map asked o)
from-queue queue None = refl
from-queue queue (Some consumer) =
    elim (same_text consumer.queue queue) as (λ b. option_map asked (cond b None (Some consumer)) ≡ cond b None (Some (asked consumer))) [ true ↦ refl | false ↦ refl ]

-- the entry is of another place
elsewhere : (J : List Entry) (p : Place) (e : Entry) (v : VhostState) → HasConsumers J p v → ((k : Client) (t : List ℕ) → journal.consumer_step p k t (journal.consumer J p k t) e ≡ journal.consumer J p k t) → HasConsumers (J ++ e ∷ []) p v
elsewhere J p e v h said = stays J (J ++ e ∷ []) p v v h (same-clients v) (λ k t. consumer-push J e p k t ∙ said k t)

pub is_same-here : (p place : Place) (k client : Client) (t tag : List ℕ) (b : Bool) → same_place place p ≡ b → journal.is_same p k t place client tag ≡ ((b && same_client client k) && same_text tag t)
is_same-here p place k client t tag b h = ap (λ here. (here && same_client client k) && same_text tag t) h

cancelled : (J : List Entry) (p place : Place) (client : Client) (tag : List ℕ) (v : VhostState) (b : Bool) → same_place place p ≡ b → HasConsumers J p v → HasConsumers (J ++ Cancelled place client tag ∷ []) p (cond b (without_consumer client tag v) v)
cancelled J p place client tag v true here h =
    fewer (J ++ Cancelled place client tag ∷ []) J p v (without_consumer client tag v) (λ consumer. not (is_consumer client tag consumer)) h (record { clients = λ k i at. at; begun = omega arith }) refl (λ k t.
    ended-of J p v (is_consumer client tag) k t (same_client client k && same_text tag t) h (λ consumer same_k same_t.
    ap (λ c. same_client c client && same_text consumer.tag tag) same_k ∙ ap (λ x. same_client k client && same_text x tag) same_t
    ∙ ap (λ c. c && same_text t tag) (same_client-turned k client) ∙ ap (λ x. same_client client k && x) (same_text-sym t tag))
    ∙ sym (ap (λ c. cond c None (journal.consumer J p k t)) (is_same-here p place k client t tag true here))
    ∙ sym (consumer-push J (Cancelled place client tag) p k t))
cancelled J p place client tag v false away h =
    elsewhere J p (Cancelled place client tag) v h (λ k t. ap (λ c. cond c None (journal.consumer J p k t)) (is_same-here p place k client t tag false away))

closed : (J : List Entry) (p place : Place) (connection : ℕ) (v : VhostState) (b : Bool) → same_place place p ≡ b → HasConsumers J p v → HasConsumers (J ++ Closed place connection ∷ []) p (cond b (disconnected connection v) v)
closed J p place connection v true here h =
    fewer (J ++ Closed place connection ∷ []) J p v (disconnected connection v) (λ consumer. not (is_on connection consumer)) h (record { clients = λ k i at. at; begun = omega arith }) refl (λ k t.
    ended-of J p v (is_on connection) k t (k.connection == connection) h (λ consumer same_k same_t. ap (λ c. c.connection == connection) same_k)
    ∙ sym (ap (λ c. cond (c && k.connection == connection) None (journal.consumer J p k t)) here)
    ∙ sym (consumer-push J (Closed place connection) p k t))
closed J p place connection v false away h =
    elsewhere J p (Closed place connection) v h (λ k t. ap (λ c. cond (c && k.connection == connection) None (journal.consumer J p k t)) away)

gone : (J : List Entry) (p place : Place) (queue : List ℕ) (v : VhostState) (b : Bool) → same_place place p ≡ b → HasConsumers J p v → HasConsumers (J ++ GoneQueue place queue ∷ []) p (cond b (without_queue queue v) v)
gone J p place queue v true here h =
    fewer (J ++ GoneQueue place queue ∷ []) J p v (without_queue queue v) (λ consumer. not (consumes_from queue consumer)) h (record { clients = λ k i at. at; begun = omega arith }) refl (λ k t.
    ap (option_map asked) (find-filtered (is_consumer k t) (consumes_from queue) v.consumers (single-once k t v.consumers h.single))
    ∙ from-queue queue (find (is_consumer k t) v.consumers)
    ∙ ap (λ o. cond (journal.is_from queue o) None o) (h.consumers k t)
    ∙ sym (ap (λ c. cond (c && journal.is_from queue (journal.consumer J p k t)) None (journal.consumer J p k t)) here)
    ∙ sym (consumer-push J (GoneQueue place queue) p k t))
gone J p place queue v false away h =
    elsewhere J p (GoneQueue place queue) v h (λ k t. ap (λ c. cond (c && journal.is_from queue (journal.consumer J p k t)) None (journal.consumer J p k t)) away)

delivered : (J : List Entry) (p place : Place) (client : Client) (tag queue : List ℕ) (copy : ℕ) (no_ack b : Bool) (v : VhostState) → Grows v (cond b (with_handed client tag queue copy no_ack v) v) → HasConsumers J p v → HasConsumers (J ++ Delivered place client tag queue copy no_ack ∷ []) p (cond b (with_handed client tag queue copy no_ack v) v)
delivered J p place client tag queue copy no_ack true v grown h = record {
  consumers = λ k t. h.consumers k t ∙ sym (consumer-push J (Delivered place client tag queue copy no_ack) p k t);
  single = h.single;
  rise = h.rise;
  numbered = All-weaker (IsNumbered v) (IsNumbered (with_handed client tag queue copy no_ack v)) (λ c. numbered-grown v (with_handed client tag queue copy no_ack v) c grown) v.consumers h.numbered;
}
delivered J p place client tag queue copy no_ack false v grown h = elsewhere J p (Delivered place client tag queue copy no_ack) v h (λ k t. refl)

-- ---- a consumer begins

map-none : (o : Option Consumer) → option_map asked o ≡ None → o ≡ None
map-none None h = refl
map-none (Some consumer) h = absurd (none-some (asked consumer) (sym h))

-- no consumer has the tag that is new by the journal
pub is-free : (J : List Entry) (p place : Place) (client : Client) (tag : List ℕ) (v : VhostState) → same_place place p ≡ true → HasConsumers J p v → journal.consumer J place client tag ≡ None → find (is_consumer client tag) v.consumers ≡ None
is-free J p place client tag v here h new =
    map-none (find (is_consumer client tag) v.consumers) (h.consumers client tag ∙ ap (λ at. journal.consumer J at client tag) (sym (same_place-true place p here)) ∙ new)

begun-by : (o : Option Consumer) (b : Bool) (new : Consumer) → (b ≡ true → o ≡ None) → option_map asked (option_or o (cond b (Some new) None)) ≡ cond b (Some (asked new)) (option_map asked o)
begun-by None true new free = refl
begun-by None false new free = refl
begun-by (Some consumer) true new free = absurd (none-some consumer (sym (free refl)))
begun-by (Some consumer) false new free = refl

-- what is found once one more began
pub find-push : (k : Client) (t : List ℕ) (consumers : List Consumer) (new : Consumer) → find (is_consumer k t) (consumers ++ new ∷ []) ≡ option_or (find (is_consumer k t) consumers) (cond (is_consumer k t new) (Some new) None)
find-push k t consumers new = find-append (is_consumer k t) consumers (new ∷ [])

-- where the tag is that of the consumer that begins, it is free
pub free-of : (k : Client) (t : List ℕ) (consumers : List Consumer) (new : Consumer) → find (is_consumer new.client new.tag) consumers ≡ None → is_consumer k t new ≡ true → find (is_consumer k t) consumers ≡ None
free-of k t consumers new free is =
    let same : (new.client ≡ k) × (new.tag ≡ t) = consumer-same k t new is in
    ap (λ client. find (is_consumer client t) consumers) (sym same.0) ∙ ap (λ tag. find (is_consumer new.client tag) consumers) (sym same.1) ∙ free

new-numbered : (client : Client) (queue tag : List ℕ) (no_ack : Bool) (prefetch : ℕ) (v : VhostState) → IsNumbered (with_consumer (new_consumer client queue tag no_ack prefetch v) v) (new_consumer client queue tag no_ack prefetch v)
new-numbered client queue tag no_ack prefetch v = record {
  client' = refl;
  number = registered-number client v.clients;
  first = omega arith;
  last = omega arith;
}

part-below : (v : VhostState) (consumer : Consumer) → IsNumbered v consumer → consumer.holder.part < v.begun + 1
part-below v consumer h = let last : consumer.holder.part ≤ v.begun = h.last in omega arith

consumed-here : (J : List Entry) (p place : Place) (client : Client) (queue tag : List ℕ) (no_ack : Bool) (prefetch : ℕ) (v : VhostState) → same_place place p ≡ true → Grows v (with_consumer (new_consumer client queue tag no_ack prefetch v) v) → HasConsumers J p v → journal.consumer J place client tag ≡ None → HasConsumers (J ++ Consumed place client queue tag no_ack prefetch ∷ []) p (with_consumer (new_consumer client queue tag no_ack prefetch v) v)
consumed-here J p place client queue tag no_ack prefetch v here grown h new =
    let begins : Consumer = new_consumer client queue tag no_ack prefetch v in
    let w : VhostState = with_consumer begins v in
    let free : find (is_consumer client tag) v.consumers ≡ None = is-free J p place client tag v here h new in
    record {
      consumers = λ k t.
          ap (option_map asked) (find-push k t v.consumers begins)
          ∙ begun-by (find (is_consumer k t) v.consumers) (is_consumer k t begins) begins (free-of k t v.consumers begins free)
          ∙ ap (cond (is_consumer k t begins) (Some (asked begins))) (h.consumers k t)
          ∙ sym (ap (λ c. cond c (Some (asked begins)) (journal.consumer J p k t)) (is_same-here p place k client t tag true here))
          ∙ sym (consumer-push J (Consumed place client queue tag no_ack prefetch) p k t);
      single = single-push v.consumers begins h.single (any-all (is_consumer client tag) v.consumers (find-any (is_consumer client tag) v.consumers free));
      rise = rise-push v.consumers begins h.rise (All-weaker (IsNumbered v) (λ c. c.holder.part < v.begun + 1) (part-below v) v.consumers h.numbered);
      numbered = All-push (IsNumbered w) v.consumers begins (All-weaker (IsNumbered v) (IsNumbered w) (λ c. numbered-grown v w c grown) v.consumers h.numbered) (new-numbered client queue tag no_ack prefetch v);
    }

consumed : (J : List Entry) (p place : Place) (client : Client) (queue tag : List ℕ) (no_ack : Bool) (prefetch : ℕ) (v : VhostState) (b : Bool) → same_place place p ≡ b → Grows v (cond b (with_consumer (new_consumer client queue tag no_ack prefetch v) v) v) → HasConsumers J p v → journal.consumer J place client tag ≡ None → HasConsumers (J ++ Consumed place client queue tag no_ack prefetch ∷ []) p (cond b (with_consumer (new_consumer client queue tag no_ack prefetch v) v) v)
consumed J p place client queue tag no_ack prefetch v true here grown h new = consumed-here J p place client queue tag no_ack prefetch v here grown h new
consumed J p place client queue tag no_ack prefetch v false away grown h new =
    elsewhere J p (Consumed place client queue tag no_ack prefetch) v h (λ k t. ap (λ c. cond c (Some (asked (new_consumer client queue tag no_ack prefetch v))) (journal.consumer J p k t)) (is_same-here p place k client t tag false away))

-- each entry keeps who consumes as the journal has it
pub consuming-step : (J : List Entry) (p : Place) (e : Entry) (v : VhostState) → HasConsumers J p v → Suits J e → HasConsumers (J ++ e ∷ []) p (recorded p e v)
consuming-step J p (Consumed place client queue tag no_ack prefetch) v h suits =
    consumed J p place client queue tag no_ack prefetch v (same_place place p) refl (recorded-grows p (Consumed place client queue tag no_ack prefetch) v) h suits
consuming-step J p (Cancelled place client tag) v h suits = cancelled J p place client tag v (same_place place p) refl h
consuming-step J p (Closed place connection) v h suits = closed J p place connection v (same_place place p) refl h
consuming-step J p (GoneQueue place queue) v h suits = gone J p place queue v (same_place place p) refl h
consuming-step J p (Delivered place client tag queue copy no_ack) v h suits =
    delivered J p place client tag queue copy no_ack (same_place place p) v (recorded-grows p (Delivered place client tag queue copy no_ack) v) h
consuming-step J p e v h suits =
    stays J (J ++ e ∷ []) p v (recorded p e v) h (plain-same p e v tt) (λ k t. consumer-push J e p k t ∙ plain-consumer p k t (journal.consumer J p k t) e tt)
