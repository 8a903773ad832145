-- Who holds a copy as the journal has it keeps it so, and counts for its consumer as there.
use Rattle.std.proofs.Common.{◌≡◌, ℕ, ◌<◌, ◌≤◌, ◌==◌, Bool, true, false, cond, not, ◌&&◌, ◌||◌, List, [], ◌∷◌, ◌++◌, Option, Some, None, All, filter, find, position, refl, sym, ap, ◌∙◌, arith, eq-eqb, eqb-true, ne_eqb}
use Rattle.std.specs.Bool.{beq}
use Rattle.std.specs.List.{list_any}
use Rattle.std.specs.Option.{option_map, option_map_or, option_or}
use Rattle.std.proofs.lemmas.Bool.{true≢false, and_right, false_from_ne_true}
use Rattle.std.proofs.lemmas.Option.{none-some, same_Some}
use Rattle.std.proofs.lemmas.List.Sums.{fold-append}
use Rattle.queue_core.specs.declared.rows.Holder.{Holder}
use Rattle.queue_core.specs.Rows.{same_holder}
use Rattle.fed_journal.specs.declared.place.Place.{Place}
use Rattle.client_rules.specs.declared.client.Client.{Client}
use Rattle.fed_journal.specs.declared.entry.Entry.{Entry}
use Rattle.fed_journal.specs.declared.entry.Entry.TheVariants.{GoneQueue, Consumed, Cancelled, Delivered, Closed}
use Rattle.fed_journal.specs.Names.{same_text, same_place}
use Rattle.fed_journal.specs.Holders as holders
use Rattle.fed_journal.specs.Holders.{same_client}
use Rattle.fed_journal.specs.Consumers as journal
use Rattle.broker_store.specs.declared.consumer.Consumer.{Consumer}
use Rattle.broker_store.specs.Consumers.{is_client, is_consumer, registered}
use Rattle.mini_broker.specs.State.{VhostState}
use Rattle.mini_broker.specs.Consume.{consumer_of, holder_for, new_consumer, with_consumer, without_consumer}
use Rattle.mini_broker.specs.Close.{is_on, consumes_from, disconnected, without_queue}
use Rattle.mini_broker.specs.Record.{with_handed, holder_as}
use Rattle.broker_view.specs.Recorded.{recorded}
use Rattle.broker_view.specs.Suits.{Suits}
use Rattle.broker_view.specs.View.{AreSingle, Rise, IsNumbered, HasConsumers, part_of, CountsFor, IsChannel, IsHolder}
use Rattle.broker_view.proofs.Names.{same_text-true, same_text-refl, same_place-refl}
use Rattle.broker_view.proofs.Alike.{same_client-true, same_client-refl}
use Rattle.broker_view.proofs.Copies.{NotHanded}
use Rattle.broker_view.proofs.Finds.{found, unless_it, find-filtered}
use Rattle.broker_view.proofs.Clients.{plain-same, plain-handed, Grows, recorded-grows, registered-longer, registered-number, number-once}
use Rattle.broker_view.proofs.Consuming.{consumer-same, single-once, is_same-here, is-free, find-push, free-of}

pub handed-push : (J : List Entry) (e : Entry) (p : Place) (k : Client) (t : List ℕ) → journal.handed_since (J ++ e ∷ []) p k t ≡ journal.handed_step p k t (journal.handed_since J p k t) e
unfolding journal.handed_since
handed-push J e p k t = fold-append (journal.handed_step p k t) [] J (e ∷ [])

-- the clients keep their numbers, and the copy counts as it did
channel-kept : (J K : List Entry) (p : Place) (v w : VhostState) (c : ℕ) (place : Place) (client : Client) (tag : List ℕ) (r : Holder) → Grows v w → IsChannel J p v c place client tag r → CountsFor K p w.consumers client tag c r.part → IsChannel K p w c place client tag r
channel-kept J K p v w c place client tag r grown h counts =
    let begun : v.begun ≤ w.begun = grown.begun in
    let last : r.part ≤ v.begun = h.last in
    record {
      here = h.here;
      client' = h.client';
      number = grown.clients client r.number h.number;
      last = omega arith;
      counts = counts;
    }

-- it counts for the consumers that are left as it did, where the journal says the same of what was handed
counts-fewer : (J K : List Entry) (p : Place) (cs ds : List Consumer) (k : Client) (tag : List ℕ) (c part : ℕ) → CountsFor J p cs k tag c part → ((t : List ℕ) (n : ℕ) → part_of k t ds ≡ Some n → part_of k t cs ≡ Some n) → ((t : List ℕ) → journal.handed_since K p k t ≡ journal.handed_since J p k t) → CountsFor K p ds k tag c part
counts-fewer J K p cs ds k tag c part counts left said t n at =
    counts t n (left t n at) ∙ sym (ap (λ ns. same_text tag t && list_any (λ m. m == c) ns) (said t))

unless-part : (q : Consumer → Bool) (o : Option Consumer) (n : ℕ) → option_map (λ consumer. consumer.holder.part) (unless_it q o) ≡ Some n → option_map (λ (consumer : Consumer). consumer.holder.part) o ≡ Some n
unless-part q None n h = h
unless-part q (Some consumer) n h =
    elim (q consumer) as (λ b. option_map (λ (consumer : Consumer). consumer.holder.part) (cond b None (Some consumer)) ≡ Some n → Some consumer.holder.part ≡ Some n) [
      | true ↦ (λ none. absurd (none-some n none))
      | false ↦ (λ same. same)
    ] h

left-part : (v w : VhostState) (q : Consumer → Bool) (b : Bool) → AreSingle v.consumers → w.consumers ≡ filter (λ consumer. not (q consumer)) v.consumers → (k : Client) (t : List ℕ) (n : ℕ) → part_of k t (cond b w v).consumers ≡ Some n → part_of k t v.consumers ≡ Some n
left-part v w q false single left k t n at = at
left-part v w q true single left k t n at =
    unless-part q (find (is_consumer k t) v.consumers) n
    (sym (ap (option_map (λ (consumer : Consumer). consumer.holder.part)) (ap (find (is_consumer k t)) left ∙ find-filtered (is_consumer k t) q v.consumers (single-once k t v.consumers single))) ∙ at)

-- ---- a copy is handed to a client

any-other : {X : Type 0} (p : X → Bool) (xs : List X) (y : X) → p y ≡ false → list_any p (xs ++ y ∷ []) ≡ list_any p xs
any-other p [] y off = ap (λ b. b || false) off
any-other p (x ∷ xs) y off = ap (λ b. p x || b) (any-other p xs y off)

any-handed : (b : Bool) (was : List ℕ) (copy c : ℕ) → (copy ≡ c → ⊥) → list_any (λ n. n == c) (cond b (was ++ copy ∷ []) was) ≡ list_any (λ n. n == c) was
any-handed true was copy c other = any-other (λ n. n == c) was copy (ne_eqb copy c other)
any-handed false was copy c other = refl

same-consumers-if : (v w : VhostState) (b : Bool) → w.consumers ≡ v.consumers → (cond b w v).consumers ≡ v.consumers
same-consumers-if v w true same = same
same-consumers-if v w false same = refl

counts-handed : (J : List Entry) (p place : Place) (client : Client) (tag queue : List ℕ) (copy : ℕ) (no_ack : Bool) (v : VhostState) (k : Client) (under : List ℕ) (c part : ℕ) → (copy ≡ c → ⊥) → CountsFor J p v.consumers k under c part → CountsFor (J ++ Delivered place client tag queue copy no_ack ∷ []) p (recorded p (Delivered place client tag queue copy no_ack) v).consumers k under c part
counts-handed J p place client tag queue copy no_ack v k under c part other counts t n at =
    let same : (recorded p (Delivered place client tag queue copy no_ack) v).consumers ≡ v.consumers = same-consumers-if v (with_handed client tag queue copy no_ack v) (same_place place p) refl in
    counts t n (ap (part_of k t) (sym same) ∙ at)
    ∙ ap (λ b. same_text under t && b) (sym (ap (list_any (λ m. m == c)) (handed-push J (Delivered place client tag queue copy no_ack) p k t) ∙ any-handed (journal.is_same p k t place client tag) (journal.handed_since J p k t) copy c other))

-- ---- a consumer begins

new-counts : (o : Option Consumer) (b : Bool) (new : Consumer) (n part c : ℕ) (under t was : List ℕ) → (b ≡ true → o ≡ None) → part < new.holder.part → (option_map (λ (consumer : Consumer). consumer.holder.part) o ≡ Some n → (n == part) ≡ (same_text under t && list_any (λ m. m == c) was)) → option_map (λ (consumer : Consumer). consumer.holder.part) (option_or o (cond b (Some new) None)) ≡ Some n → (n == part) ≡ (same_text under t && list_any (λ m. m == c) (cond b [] was))
new-counts None true new n part c under t was free below counts at =
    let last : new.holder.part ≡ n = same_Some new.holder.part n at in
    ne_eqb n part (λ same. omega (arith, same, last, below)) ∙ sym (and_right (same_text under t) false refl)
new-counts None false new n part c under t was free below counts at = absurd (none-some n at)
new-counts (Some consumer) true new n part c under t was free below counts at = absurd (none-some consumer (sym (free refl)))
new-counts (Some consumer) false new n part c under t was free below counts at = counts at

counts-begun : (J : List Entry) (p place : Place) (client : Client) (queue tag : List ℕ) (no_ack : Bool) (prefetch : ℕ) (v : VhostState) (k : Client) (under : List ℕ) (c part : ℕ) (b : Bool) → same_place place p ≡ b → HasConsumers J p v → journal.consumer J place client tag ≡ None → part ≤ v.begun → CountsFor J p v.consumers k under c part → CountsFor (J ++ Consumed place client queue tag no_ack prefetch ∷ []) p (cond b (with_consumer (new_consumer client queue tag no_ack prefetch v) v) v).consumers k under c part
counts-begun J p place client queue tag no_ack prefetch v k under c part true here h new last counts t n at =
    let begins : Consumer = new_consumer client queue tag no_ack prefetch v in
    let free : find (is_consumer client tag) v.consumers ≡ None = is-free J p place client tag v here h new in
    new-counts (find (is_consumer k t) v.consumers) (is_consumer k t begins) begins n part c under t (journal.handed_since J p k t) (free-of k t v.consumers begins free) (omega arith) (counts t n)
    (sym (ap (option_map (λ (consumer : Consumer). consumer.holder.part)) (find-push k t v.consumers begins)) ∙ at)
    ∙ sym (ap (λ ns. same_text under t && list_any (λ m. m == c) ns)
    (handed-push J (Consumed place client queue tag no_ack prefetch) p k t ∙ ap (λ d. cond d [] (journal.handed_since J p k t)) (is_same-here p place k client t tag true here)))
counts-begun J p place client queue tag no_ack prefetch v k under c part false away h new last counts t n at =
    counts t n at
    ∙ sym (ap (λ ns. same_text under t && list_any (λ m. m == c) ns)
    (handed-push J (Consumed place client queue tag no_ack prefetch) p k t ∙ ap (λ d. cond d [] (journal.handed_since J p k t)) (is_same-here p place k client t tag false away)))

-- ---- each entry

counts-step : (J : List Entry) (p : Place) (e : Entry) (v : VhostState) (k : Client) (under : List ℕ) (c part : ℕ) → HasConsumers J p v → Suits J e → NotHanded e c → part ≤ v.begun → CountsFor J p v.consumers k under c part → CountsFor (J ++ e ∷ []) p (recorded p e v).consumers k under c part
counts-step J p (Consumed place client queue tag no_ack prefetch) v k under c part h suits other last counts =
    counts-begun J p place client queue tag no_ack prefetch v k under c part (same_place place p) refl h suits last counts
counts-step J p (Delivered place client tag queue copy no_ack) v k under c part h suits other last counts =
    counts-handed J p place client tag queue copy no_ack v k under c part other counts
counts-step J p (Cancelled place client tag) v k under c part h suits other last counts =
    counts-fewer J (J ++ Cancelled place client tag ∷ []) p v.consumers (recorded p (Cancelled place client tag) v).consumers k under c part counts (left-part v (without_consumer client tag v) (is_consumer client tag) (same_place place p) h.single refl k) (handed-push J (Cancelled place client tag) p k)
counts-step J p (Closed place connection) v k under c part h suits other last counts =
    counts-fewer J (J ++ Closed place connection ∷ []) p v.consumers (recorded p (Closed place connection) v).consumers k under c part counts (left-part v (disconnected connection v) (is_on connection) (same_place place p) h.single refl k) (handed-push J (Closed place connection) p k)
counts-step J p (GoneQueue place queue) v k under c part h suits other last counts =
    counts-fewer J (J ++ GoneQueue place queue ∷ []) p v.consumers (recorded p (GoneQueue place queue) v).consumers k under c part counts (left-part v (without_queue queue v) (consumes_from queue) (same_place place p) h.single refl k) (handed-push J (GoneQueue place queue) p k)
counts-step J p e v k under c part h suits other last counts =
    counts-fewer J (J ++ e ∷ []) p v.consumers (recorded p e v).consumers k under c part counts
    (λ t m at. ap (part_of k t) (sym (plain-same p e v tt).consumers) ∙ at)
    (λ t. handed-push J e p k t ∙ plain-handed p k t (journal.handed_since J p k t) e tt)

-- who holds a copy keeps it as the journal has it
pub holder-step : (J : List Entry) (p : Place) (e : Entry) (v : VhostState) (c : ℕ) (h : holders.Holder) (r : Holder) → HasConsumers J p v → Suits J e → NotHanded e c → IsHolder J p v c h r → IsHolder (J ++ e ∷ []) p (recorded p e v) c h r
holder-step J p e v c (holders.Session link session) r consumers suits other h = h
holder-step J p e v c (holders.Channel place client tag) r consumers suits other h =
    channel-kept J (J ++ e ∷ []) p v (recorded p e v) c place client tag r (recorded-grows p e v) h
    (counts-step J p e v client tag c r.part consumers suits other h.last h.counts)

-- ---- who is handed a copy

-- consumers of one number are one
one-by : (a b : Bool) (p q : Consumer → Bool) (z x y : Consumer) (consumers : List Consumer) → All (λ later. z.holder.part < later.holder.part) consumers → cond a (Some z) (find p consumers) ≡ Some x → cond b (Some z) (find q consumers) ≡ Some y → x.holder.part ≡ y.holder.part → (find p consumers ≡ Some x → find q consumers ≡ Some y → x ≡ y) → x ≡ y
one-by true true p q z x y consumers later is_x is_y same rest = sym (same_Some z x is_x) ∙ same_Some z y is_y
one-by true false p q z x y consumers later is_x is_y same rest =
    let first : z.holder.part ≡ x.holder.part = ap (λ (c : Consumer). c.holder.part) (same_Some z x is_x) in
    let below : z.holder.part < y.holder.part = (found (λ later. z.holder.part < later.holder.part) q consumers y later is_y).1 in
    absurd (omega arith)
one-by false true p q z x y consumers later is_x is_y same rest =
    let first : z.holder.part ≡ y.holder.part = ap (λ (c : Consumer). c.holder.part) (same_Some z y is_y) in
    let below : z.holder.part < x.holder.part = (found (λ later. z.holder.part < later.holder.part) p consumers x later is_x).1 in
    absurd (omega arith)
one-by false false p q z x y consumers later is_x is_y same rest = rest is_x is_y

one-of : (p q : Consumer → Bool) (x y : Consumer) (consumers : List Consumer) → Rise consumers → find p consumers ≡ Some x → find q consumers ≡ Some y → x.holder.part ≡ y.holder.part → x ≡ y
one-of p q x y [] rise is_x is_y same = absurd (none-some x is_x)
one-of p q x y (z ∷ consumers) rise is_x is_y same =
    one-by (p z) (q z) p q z x y consumers rise.0 is_x is_y same (λ at_x at_y. one-of p q x y consumers rise.1 at_x at_y same)

-- who was found by its client and tag
pub record IsFound (v : VhostState) (k : Client) (t : List ℕ) (consumer : Consumer) : Type 0 where
  pub client : consumer.client ≡ k
  pub tag : consumer.tag ≡ t
  pub numbered : IsNumbered v consumer

pub found-consumer : (J : List Entry) (p : Place) (v : VhostState) (k : Client) (t : List ℕ) (consumer : Consumer) → HasConsumers J p v → consumer_of k t v ≡ Some consumer → IsFound v k t consumer
found-consumer J p v k t consumer h is =
    let at : (is_consumer k t consumer ≡ true) × IsNumbered v consumer = found (IsNumbered v) (is_consumer k t) v.consumers consumer h.numbered is in
    let same : (consumer.client ≡ k) × (consumer.tag ≡ t) = consumer-same k t consumer at.0 in
    record { client = same.0; tag = same.1; numbered = at.1 }

pub found-number : (v : VhostState) (k : Client) (t : List ℕ) (consumer : Consumer) → IsFound v k t consumer → position (is_client k) v.clients ≡ Some consumer.holder.number
found-number v k t consumer h = ap (λ client. position (is_client client) v.clients) (sym h.client) ∙ h.numbered.number

-- the client has a number and the part is no more than the consumers that began
pub record IsClients (clients : List Client) (begun : ℕ) (k : Client) (r : Holder) : Type 0 where
  pub client' : r.link ≡ false
  pub number : position (is_client k) clients ≡ Some r.number
  pub last : r.part ≤ begun

as-client : (v : VhostState) (k : Client) (tag : List ℕ) (o : Option Consumer) → ((consumer : Consumer) → o ≡ Some consumer → IsFound v k tag consumer) → IsClients (registered k v.clients) v.begun k (option_map_or (λ consumer. consumer.holder) o (holder_for k 0 v))
as-client v k tag None h = record { client' = refl; number = registered-number k v.clients; last = omega arith }
as-client v k tag (Some consumer) h =
    let is : IsFound v k tag consumer = h consumer refl in
    record { client' = is.numbered.client'; number = registered-longer k k v.clients consumer.holder.number (found-number v k tag consumer is); last = is.numbered.last }

as-part : (o : Option Consumer) (r : Holder) (n : ℕ) → option_map (λ (consumer : Consumer). consumer.holder.part) o ≡ Some n → n ≡ (option_map_or (λ (consumer : Consumer). consumer.holder) o r).part
as-part None r n h = absurd (none-some n h)
as-part (Some consumer) r n h = sym (same_Some consumer.holder.part n h)

-- consumers of other tags have other numbers
other-part : (J : List Entry) (p : Place) (v : VhostState) (k : Client) (tag t : List ℕ) (n : ℕ) (x y : Option Consumer) → HasConsumers J p v → same_text tag t ≡ false → find (is_consumer k t) v.consumers ≡ x → find (is_consumer k tag) v.consumers ≡ y → option_map (λ (consumer : Consumer). consumer.holder.part) x ≡ Some n → (n == (option_map_or (λ (consumer : Consumer). consumer.holder) y (holder_for k 0 v)).part) ≡ false
other-part J p v k tag t n None y h other is_x is_y at = absurd (none-some n at)
other-part J p v k tag t n (Some x) None h other is_x is_y at =
    let first : 1 ≤ x.holder.part = (found-consumer J p v k t x h is_x).numbered.first in
    let part : x.holder.part ≡ n = same_Some x.holder.part n at in
    ne_eqb n 0 (λ none. omega (arith, first, part, none))
other-part J p v k tag t n (Some x) (Some y) h other is_x is_y at =
    false_from_ne_true (n == y.holder.part) (λ equal.
    let same : x ≡ y = one-of (is_consumer k t) (is_consumer k tag) x y v.consumers h.rise is_x is_y (same_Some x.holder.part n at ∙ eqb-true n y.holder.part equal) in
    let tags : t ≡ tag = sym (found-consumer J p v k t x h is_x).tag ∙ ap (λ (c : Consumer). c.tag) same ∙ (found-consumer J p v k tag y h is_y).tag in
    true≢false (sym (same_text-refl tag) ∙ ap (same_text tag) (sym tags) ∙ other))

any-last : (was : List ℕ) (c : ℕ) → list_any (λ n. n == c) (was ++ c ∷ []) ≡ true
any-last [] c = ap (λ b. b || false) (eq-eqb c c refl)
any-last (n ∷ was) c = elim (n == c) as (λ b. (b || list_any (λ n. n == c) (was ++ c ∷ [])) ≡ true) [ true ↦ refl | false ↦ any-last was c ]

fresh-counts : (J : List Entry) (p : Place) (k : Client) (tag t : List ℕ) (c n : ℕ) (was : List ℕ) (v : VhostState) (b : Bool) → same_text tag t ≡ b → HasConsumers J p v → part_of k t v.consumers ≡ Some n → (n == (holder_as k tag v).part) ≡ (b && list_any (λ m. m == c) (cond b (was ++ c ∷ []) was))
fresh-counts J p k tag t c n was v true same h at =
    eq-eqb n (holder_as k tag v).part (as-part (find (is_consumer k tag) v.consumers) (holder_for k 0 v) n (ap (λ s. part_of k s v.consumers) (same_text-true tag t same) ∙ at))
    ∙ sym (any-last was c)
fresh-counts J p k tag t c n was v false other h at =
    other-part J p v k tag t n (find (is_consumer k t) v.consumers) (find (is_consumer k tag) v.consumers) h other refl refl at

fresh-by : (J : List Entry) (p : Place) (k : Client) (tag q : List ℕ) (c : ℕ) (no_ack : Bool) (v : VhostState) (b : Bool) → b ≡ true → HasConsumers J p v → IsChannel (J ++ Delivered p k tag q c no_ack ∷ []) p (cond b (with_handed k tag q c no_ack v) v) c p k tag (holder_as k tag v)
fresh-by J p k tag q c no_ack v false here h = absurd (true≢false (sym here))
fresh-by J p k tag q c no_ack v true here h =
    let client : IsClients (registered k v.clients) v.begun k (holder_as k tag v) = as-client v k tag (find (is_consumer k tag) v.consumers) (λ consumer is. found-consumer J p v k tag consumer h is) in
    record {
      here = refl;
      client' = client.client';
      number = client.number;
      last = client.last;
      counts = λ t n at.
          fresh-counts J p k tag t c n (journal.handed_since J p k t) v (same_text tag t) refl h at
          ∙ sym (ap (λ ns. same_text tag t && list_any (λ m. m == c) ns)
          (handed-push J (Delivered p k tag q c no_ack) p k t
          ∙ ap (λ d. cond d (journal.handed_since J p k t ++ c ∷ []) (journal.handed_since J p k t))
          (is_same-here p p k k t tag true (same_place-refl p) ∙ ap (λ d. d && same_text tag t) (same_client-refl k))));
    }

-- who is handed a copy holds it as the journal has it
pub holder-fresh : (J : List Entry) (p : Place) (k : Client) (tag q : List ℕ) (c : ℕ) (no_ack : Bool) (v : VhostState) → HasConsumers J p v → IsChannel (J ++ Delivered p k tag q c no_ack ∷ []) p (recorded p (Delivered p k tag q c no_ack) v) c p k tag (holder_as k tag v)
holder-fresh J p k tag q c no_ack v h = fresh-by J p k tag q c no_ack v (same_place p p) (same_place-refl p) h

-- ---- what counts for a prefetch

counts-by : (J : List Entry) (p : Place) (v : VhostState) (k : Client) (t : List ℕ) (consumer : Consumer) (c : ℕ) (place : Place) (client : Client) (tag : List ℕ) (r : Holder) (b : Bool) → same_client client k ≡ b → IsFound v k t consumer → consumer_of k t v ≡ Some consumer → IsChannel J p v c place client tag r → ((consumer.holder.number == r.number) && (consumer.holder.part == r.part)) ≡ ((b && same_text tag t) && list_any (λ n. n == c) (journal.handed_since J p k t))
counts-by J p v k t consumer c place client tag r true same at is h =
    let clients : client ≡ k = same_client-true client k same in
    let numbers : Some consumer.holder.number ≡ Some r.number = sym (found-number v k t consumer at) ∙ ap (λ a. position (is_client a) v.clients) (sym clients) ∙ h.number in
    ap (λ b. b && (consumer.holder.part == r.part)) (eq-eqb consumer.holder.number r.number (same_Some consumer.holder.number r.number numbers))
    ∙ h.counts t consumer.holder.part (ap (λ a. part_of a t v.consumers) clients ∙ ap (option_map (λ (x : Consumer). x.holder.part)) is)
    ∙ ap (λ a. same_text tag t && list_any (λ n. n == c) (journal.handed_since J p a t)) clients
counts-by J p v k t consumer c place client tag r false other at is h =
    ap (λ b. b && (consumer.holder.part == r.part)) (false_from_ne_true (consumer.holder.number == r.number) (λ equal.
    let clients : client ≡ k = number-once client k v.clients r.number h.number (found-number v k t consumer at ∙ ap Some (eqb-true consumer.holder.number r.number equal)) in
    true≢false (sym (same_client-refl client) ∙ ap (same_client client) clients ∙ other)))

-- a copy counts for the consumer's prefetch where the journal has it held for the consumer (RabbitMQ, Consumer Prefetch)
pub counts-as : (J : List Entry) (p : Place) (v : VhostState) (k : Client) (t : List ℕ) (consumer : Consumer) (c : ℕ) (h : holders.Holder) (r : Holder) → HasConsumers J p v → consumer_of k t v ≡ Some consumer → IsHolder J p v c h r → same_holder consumer.holder r ≡ (journal.is_consumer_of p k t (Some h) && list_any (λ n. n == c) (journal.handed_since J p k t))
counts-as J p v k t consumer c (holders.Session link session) r consumers is h =
    ap (λ b. (beq b r.link && (consumer.holder.number == r.number)) && (consumer.holder.part == r.part)) (found-consumer J p v k t consumer consumers is).numbered.client'
    ∙ ap (λ b. (beq false b && (consumer.holder.number == r.number)) && (consumer.holder.part == r.part)) (ap (λ (x : Holder). x.link) h)
counts-as J p v k t consumer c (holders.Channel place client tag) r consumers is h =
    let at : IsFound v k t consumer = found-consumer J p v k t consumer consumers is in
    ap (λ b. (beq b r.link && (consumer.holder.number == r.number)) && (consumer.holder.part == r.part)) at.numbered.client'
    ∙ ap (λ b. (beq false b && (consumer.holder.number == r.number)) && (consumer.holder.part == r.part)) h.client'
    ∙ counts-by J p v k t consumer c place client tag r (same_client client k) refl at is h
    ∙ sym (ap (λ b. ((b && same_client client k) && same_text tag t) && list_any (λ n. n == c) (journal.handed_since J p k t)) (ap (λ a. same_place a p) h.here ∙ same_place-refl p))

-- ---- as the laws state them

not-handed : (e : Entry) (c : ℕ) → ((place : Place) (client : Client) (tag queue : List ℕ) (no_ack : Bool) → e ≡ Delivered place client tag queue c no_ack → ⊥) → NotHanded e c
not-handed (Delivered place client tag queue copy no_ack) c h = λ same. h place client tag queue no_ack (ap (λ n. Delivered place client tag queue n no_ack) same)
not-handed _ c h = tt

pub holder-kept : (J : List Entry) (p : Place) (e : Entry) (v : VhostState) (c : ℕ) (h : holders.Holder) (r : Holder) → HasConsumers J p v → Suits J e → ((place : Place) (client : Client) (tag queue : List ℕ) (no_ack : Bool) → e ≡ Delivered place client tag queue c no_ack → ⊥) → IsHolder J p v c h r → IsHolder (J ++ e ∷ []) p (recorded p e v) c h r
holder-kept J p e v c h r consumers suits other = holder-step J p e v c h r consumers suits (not-handed e c other)
