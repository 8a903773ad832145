-- What each entry does to the rows of the queues.
use Rattle.std.proofs.Common.{◌≡◌, ℕ, ◌-◌, List, [], ◌∷◌, ◌++◌, Bool, true, false, cond, not, Option, Some, None, arith, refl, sym, ap, subst, ◌∙◌, map}
use Rattle.std.specs.Prelude.{◌==◌, ◌&&◌, All, filter, find, slice_get}
use Rattle.std.proofs.lemmas.Bool.{true≢false, false≢true, and_parts, and_from, and_left, and_right}
use Rattle.std.proofs.lemmas.Option.{none-some, same_Some}
use Rattle.std.proofs.lemmas.List.Elements.{All-head, All-tail}
use Rattle.queue_core.specs.declared.rows.Holder.{Holder}
use Rattle.queue_core.specs.declared.rows.Hold.{Hold}
use Rattle.queue_core.specs.declared.rows.Hold.TheVariants as numbers
use Rattle.queue_core.specs.declared.rows.Row.{Row}
use Rattle.queue_core.specs.Rows as rows
use Rattle.fed_journal.specs.declared.place.Place.{Place}
use Rattle.client_rules.specs.declared.client.Client.{Client}
use Rattle.fed_journal.specs.declared.entry.Publication.{Publication}
use Rattle.fed_journal.specs.declared.entry.Entry.{Entry}
use Rattle.fed_journal.specs.declared.entry.Entry.TheVariants.{GoneQueue, Purged, Closed}
use Rattle.fed_journal.specs.Names.{same_text, same_place}
use Rattle.fed_journal.specs.Holders as holders
use Rattle.fed_journal.specs.Holders.{is_connection}
use Rattle.fed_journal.specs.Copies.{Standing, Unknown, Ready, Held, Left, is_waiting, is_home, is_name_of, publication_of, entered, standing, closed}
use Rattle.fed_journal.specs.Holds.{is_ready, first_ready}
use Rattle.mini_broker.specs.State.{VhostState}
use Rattle.broker_view.specs.View.{HasHome, HaveHomes, IsHolder, IsChannel, StandsAs, RowStands, rows_in}
use Rattle.broker_view.proofs.Names.{same_text-true, same_text-refl, same_place-true, same_place-refl}
use Rattle.broker_view.proofs.Matching.{Follows, all-changed, some-kept, none-changed, none-kept}
use Rattle.broker_view.proofs.FreedRows.{freed_row, freed_hold, freed-ready, freed-session, freed-channel}
use Rattle.broker_view.proofs.Copies.{Keeps, IsStep, row-stays, row-becomes, row-leaves}

-- ---- homes

name-same : (n q : List ℕ) (o : Option (List ℕ)) → is_name_of n o ≡ true → is_name_of q o ≡ true → n ≡ q
name-same n q None h k = absurd (false≢true h)
name-same n q (Some name) h k = sym (same_text-true name n h) ∙ same_text-true name q k

-- a publication's copy has one home
pub one-home : (x : Publication) (c : ℕ) (p r : Place) (q n : List ℕ) → is_home x c p q ≡ true → is_home x c r n ≡ true → (p ≡ r) × (q ≡ n)
one-home x c p r q n h k =
    let a : (same_place x.place p ≡ true) × (is_name_of q (slice_get x.queues (c - x.first)) ≡ true) = and_parts (same_place x.place p) (is_name_of q (slice_get x.queues (c - x.first))) h in
    let b : (same_place x.place r ≡ true) × (is_name_of n (slice_get x.queues (c - x.first)) ≡ true) = and_parts (same_place x.place r) (is_name_of n (slice_get x.queues (c - x.first))) k in
    (sym (same_place-true x.place p a.0) ∙ same_place-true x.place r b.0, name-same q n (slice_get x.queues (c - x.first)) a.1 b.1)

-- so does a copy
pub same-home : (J : List Entry) (p r : Place) (q n : List ℕ) (c d : ℕ) → HasHome J p q c → HasHome J r n d → d ≡ c → (p ≡ r) × (q ≡ n)
same-home J p r q n c d h k is =
    let same : h.publication ≡ k.publication = same_Some h.publication k.publication (sym h.of_copy ∙ ap (λ x. publication_of x J) (sym is) ∙ k.of_copy) in
    one-home h.publication c p r q n h.home (subst (λ y. is_home y c r n ≡ true) (sym same) (subst (λ x. is_home k.publication x r n ≡ true) is k.home))

elsewhere : (x : Publication) (c : ℕ) (p r : Place) (q n : List ℕ) (b : Bool) → is_home x c r n ≡ b → is_home x c p q ≡ true → ((p ≡ r) × (q ≡ n) → ⊥) → b ≡ false
elsewhere x c p r q n true h home other = absurd (other (one-home x c p r q n home h))
elsewhere x c p r q n false h home other = refl

-- a copy of another queue isn't at home in this one
pub not-home : (J : List Entry) (p r : Place) (q n : List ℕ) (c : ℕ) (h : HasHome J p q c) → ((p ≡ r) × (q ≡ n) → ⊥) → is_home h.publication c r n ≡ false
not-home J p r q n c h other = elsewhere h.publication c p r q n (is_home h.publication c r n) refl h.home other

pub other-place : (place p : Place) (q n : List ℕ) → same_place place p ≡ false → (p ≡ place) × (q ≡ n) → ⊥
other-place place p q n off same = true≢false (sym (same_place-refl p) ∙ ap (λ x. same_place x p) same.0 ∙ off)

pub other-queue : (p r : Place) (q n : List ℕ) → same_text q n ≡ false → (p ≡ r) × (q ≡ n) → ⊥
other-queue p r q n off same = true≢false (sym (same_text-refl q) ∙ ap (same_text q) same.1 ∙ off)

find-by : (P : ℕ → Type 0) (test : ℕ → Bool) (x : ℕ) (xs : List ℕ) (c : ℕ) (b : Bool) → cond b (Some x) (find test xs) ≡ Some c → P x → (find test xs ≡ Some c → P c) → P c
find-by P test x xs c true h here later = subst P (same_Some x c h) here
find-by P test x xs c false h here later = later h

find-all : (P : ℕ → Type 0) (test : ℕ → Bool) (xs : List ℕ) (c : ℕ) → find test xs ≡ Some c → All P xs → P c
find-all P test [] c h all = absurd (none-some c h)
find-all P test (x ∷ xs) c h all = find-by P test x xs c (test x) h (All-head P x xs all) (λ k. find-all P test xs c k (All-tail P x xs all))

-- the copy that a queue would hand out entered there
pub first-home : (J : List Entry) (p : Place) (q : List ℕ) (c : ℕ) → HaveHomes J → first_ready J p q ≡ Some c → HasHome J p q c
unfolding first_ready
first-home J p q c homes h = find-all (HasHome J p q) (is_ready J) (entered J p q) c h (homes p q)

-- ---- a hold and a standing

-- a copy is ready in the queue where it is ready in the journal
pub ready-as : (J : List Entry) (p : Place) (v : VhostState) (c : ℕ) (t : Standing) (hold : Hold) → StandsAs J p v c t hold → rows.is_ready_hold hold ≡ is_waiting t
ready-as J p v c Ready numbers.Ready k = refl
ready-as J p v c (Held holder) (numbers.Held r) k = refl
ready-as J p v c Ready (numbers.Held r) k = absurd k
ready-as J p v c (Held holder) numbers.Ready k = absurd k
ready-as J p v c Unknown hold k = absurd k
ready-as J p v c Left hold k = absurd k

-- ---- purge

purged-by : (J : List Entry) (p : Place) (q : List ℕ) (v w : VhostState) (row : Row) (b : Bool) (h : HasHome J p q row.copy) → is_waiting (standing row.copy J) ≡ b → Keeps J p v (Purged p q) w → RowStands J p v row → Follows (J ++ Purged p q ∷ []) p w row (cond (not b) (Some row) None)
purged-by J p q v w row true h waits keeps k =
    row-leaves J (Purged p q) p q v w row h k (ap (λ b. cond b Left (standing row.copy J)) (and_from (is_waiting (standing row.copy J)) (is_home h.publication row.copy p q) waits h.home))
purged-by J p q v w row false h held keeps k =
    row-stays J (Purged p q) p q v w row row h tt keeps k (ap (λ b. cond b Left (standing row.copy J)) (and_left (is_waiting (standing row.copy J)) (is_home h.publication row.copy p q) held)) refl refl

pub purged-step : (J : List Entry) (p : Place) (q : List ℕ) (v w : VhostState) → Keeps J p v (Purged p q) w → rows_in q w.queues ≡ filter rows.is_held (rows_in q v.queues) → IsStep J (Purged p q) p v w q
purged-step J p q v w keeps same = record {
  change = λ row. cond (not (rows.is_ready row)) (Some row) None;
  rows = same ∙ sym (some-kept rows.is_held (rows_in q v.queues));
  follows = λ row h k. subst (λ b. Follows (J ++ Purged p q ∷ []) p w row (cond (not b) (Some row) None)) (sym (ready-as J p v row.copy (standing row.copy J) row.hold k)) (purged-by J p q v w row (is_waiting (standing row.copy J)) h refl keeps k);
}

pub unpurged-step : (J : List Entry) (place p : Place) (queue q : List ℕ) (v w : VhostState) → ((p ≡ place) × (q ≡ queue) → ⊥) → Keeps J p v (Purged place queue) w → rows_in q w.queues ≡ rows_in q v.queues → IsStep J (Purged place queue) p v w q
unpurged-step J place p queue q v w other keeps same = record {
  change = λ row. Some row;
  rows = same ∙ sym (none-changed (rows_in q v.queues));
  follows = λ row h k. row-stays J (Purged place queue) p q v w row row h tt keeps k (ap (λ b. cond b Left (standing row.copy J)) (and_right (is_waiting (standing row.copy J)) (is_home h.publication row.copy place queue) (not-home J p place q queue row.copy h other))) refl refl;
}

-- ---- a queue that is gone

pub gone-step : (J : List Entry) (p : Place) (q : List ℕ) (v w : VhostState) → rows_in q w.queues ≡ [] → IsStep J (GoneQueue p q) p v w q
gone-step J p q v w none = record {
  change = λ row. None;
  rows = none ∙ sym (none-kept (rows_in q v.queues));
  follows = λ row h k. row-leaves J (GoneQueue p q) p q v w row h k (ap (λ b. cond b Left (standing row.copy J)) h.home);
}

pub ungone-step : (J : List Entry) (place p : Place) (queue q : List ℕ) (v w : VhostState) → ((p ≡ place) × (q ≡ queue) → ⊥) → Keeps J p v (GoneQueue place queue) w → rows_in q w.queues ≡ rows_in q v.queues → IsStep J (GoneQueue place queue) p v w q
ungone-step J place p queue q v w other keeps same = record {
  change = λ row. Some row;
  rows = same ∙ sym (none-changed (rows_in q v.queues));
  follows = λ row h k. row-stays J (GoneQueue place queue) p q v w row row h tt keeps k (ap (λ b. cond b Left (standing row.copy J)) (not-home J p place q queue row.copy h other)) refl refl;
}

-- ---- a connection that ends

-- the row as the connection's end leaves it
abbrev freed : ℕ → VhostState → Row → Row
freed n v row = freed_row n 0 v.clients row

channel-stands : (J K : List Entry) (p : Place) (v w : VhostState) (n c : ℕ) (k : Client) (tag : List ℕ) (r : Holder) (b : Bool) → IsHolder K p w c (holders.Channel p k tag) r → StandsAs K p w c (cond b Ready (Held (holders.Channel p k tag))) (cond b numbers.Ready (numbers.Held r))
channel-stands J K p v w n c k tag r true h = tt
channel-stands J K p v w n c k tag r false h = h

connected : (p : Place) (n : ℕ) (k : Client) (tag : List ℕ) → is_connection p n (holders.Channel p k tag) ≡ (k.connection == n)
connected p n k tag = ap (λ b. b && (k.connection == n)) (same_place-refl p)

-- what a channel held
channel-freed : (J : List Entry) (p : Place) (q : List ℕ) (v w : VhostState) (n : ℕ) (c : ℕ) (place : Place) (k : Client) (tag : List ℕ) (r : Holder) → place ≡ p → IsChannel J p v c place k tag r → IsHolder (J ++ Closed p n ∷ []) p w c (holders.Channel place k tag) r → StandsAs (J ++ Closed p n ∷ []) p w c (closed p n (Held (holders.Channel place k tag))) (freed_hold n 0 v.clients (numbers.Held r))
channel-freed J p q v w n c place k tag r here is keeps =
    subst (λ hold. StandsAs (J ++ Closed p n ∷ []) p w c (closed p n (Held (holders.Channel place k tag))) hold) (sym (freed-channel n 0 k v.clients r r.number is.number is.client' (omega arith)))
    (subst (λ pl. StandsAs (J ++ Closed p n ∷ []) p w c (closed p n (Held (holders.Channel pl k tag))) (cond (k.connection == n) numbers.Ready (numbers.Held r))) (sym here)
    (subst (λ b. StandsAs (J ++ Closed p n ∷ []) p w c (cond b Ready (Held (holders.Channel p k tag))) (cond (k.connection == n) numbers.Ready (numbers.Held r))) (sym (connected p n k tag))
    (channel-stands J (J ++ Closed p n ∷ []) p v w n c k tag r (k.connection == n) (subst (λ pl. IsHolder (J ++ Closed p n ∷ []) p w c (holders.Channel pl k tag) r) here keeps))))

freed-stands : (J : List Entry) (p : Place) (q : List ℕ) (v w : VhostState) (n c : ℕ) (t : Standing) (hold : Hold) → Keeps J p v (Closed p n) w → StandsAs J p v c t hold → StandsAs (J ++ Closed p n ∷ []) p w c (closed p n t) (freed_hold n 0 v.clients hold)
freed-stands J p q v w n c Ready numbers.Ready keeps k = subst (λ hold. StandsAs (J ++ Closed p n ∷ []) p w c Ready hold) (sym (freed-ready n 0 v.clients)) tt
freed-stands J p q v w n c (Held (holders.Session l s)) (numbers.Held r) keeps k =
    subst (λ hold. StandsAs (J ++ Closed p n ∷ []) p w c (Held (holders.Session l s)) hold) (sym (freed-session n 0 v.clients r (ap (λ (x : Holder). x.link) k))) k
freed-stands J p q v w n c (Held (holders.Channel place client tag)) (numbers.Held r) keeps k =
    channel-freed J p q v w n c place client tag r k.here k (keeps c (holders.Channel place client tag) r tt k)
freed-stands J p q v w n c Ready (numbers.Held r) keeps k = absurd k
freed-stands J p q v w n c (Held holder) numbers.Ready keeps k = absurd k
freed-stands J p q v w n c Unknown hold keeps k = absurd k
freed-stands J p q v w n c Left hold keeps k = absurd k

pub closed-step : (J : List Entry) (p : Place) (q : List ℕ) (v w : VhostState) (n : ℕ) → Keeps J p v (Closed p n) w → rows_in q w.queues ≡ map (freed_row n 0 v.clients) (rows_in q v.queues) → IsStep J (Closed p n) p v w q
closed-step J p q v w n keeps same = record {
  change = λ row. Some (freed_row n 0 v.clients row);
  rows = same ∙ sym (all-changed (freed_row n 0 v.clients) (rows_in q v.queues));
  follows = λ row h k. row-becomes J (Closed p n) p q v w row (freed_row n 0 v.clients row) h (closed p n (standing row.copy J)) k refl refl (freed-stands J p q v w n row.copy (standing row.copy J) row.hold keeps k);
}

-- elsewhere nothing ends
unclosed : (J : List Entry) (p place : Place) (v : VhostState) (n c : ℕ) (t : Standing) (hold : Hold) → same_place place p ≡ false → StandsAs J p v c t hold → closed place n t ≡ t
unclosed J p place v n c Ready hold off k = refl
unclosed J p place v n c (Held (holders.Session l s)) (numbers.Held r) off k = refl
unclosed J p place v n c (Held (holders.Channel at client tag)) (numbers.Held r) off k =
    ap (λ b. cond b Ready (Held (holders.Channel at client tag))) (and_left (same_place at place) (client.connection == n) (elsewhere-by at place p (same_place at place) refl k.here off))
  where
    elsewhere-by : (at place p : Place) (b : Bool) → same_place at place ≡ b → at ≡ p → same_place place p ≡ false → b ≡ false
    elsewhere-by at place p true is here off = absurd (true≢false (sym (same_place-refl p) ∙ ap (λ x. same_place x p) (sym here ∙ same_place-true at place is) ∙ off))
    elsewhere-by at place p false is here off = refl
unclosed J p place v n c (Held holder) numbers.Ready off k = absurd k
unclosed J p place v n c Unknown hold off k = refl
unclosed J p place v n c Left hold off k = refl

pub unclosed-step : (J : List Entry) (p place : Place) (q : List ℕ) (v w : VhostState) (n : ℕ) → same_place place p ≡ false → Keeps J p v (Closed place n) w → rows_in q w.queues ≡ rows_in q v.queues → IsStep J (Closed place n) p v w q
unclosed-step J p place q v w n off keeps same = record {
  change = λ row. Some row;
  rows = same ∙ sym (none-changed (rows_in q v.queues));
  follows = λ row h k. row-stays J (Closed place n) p q v w row row h tt keeps k (unclosed J p place v n row.copy (standing row.copy J) row.hold off k) refl refl;
}
