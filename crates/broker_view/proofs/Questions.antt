-- What the queues answer is what the journal says.
use Rattle.std.proofs.Common.{◌≡◌, ℕ, ◌+◌, List, [], ◌∷◌, Bool, true, false, cond, not, Option, Some, None, arith, refl, sym, ap, ◌∙◌, inl, inr}
use Rattle.std.specs.Prelude.{◌==◌, ◌&&◌, find, count_by}
use Rattle.std.specs.List.{list_any}
use Rattle.std.specs.Option.{option_map, option_map_or, option_and_then}
use Rattle.std.proofs.lemmas.Bool.{true≢false}
use Rattle.std.proofs.lemmas.List.Sums.{sum_by-append}
use Rattle.queue_core.specs.declared.rows.Holder.{Holder}
use Rattle.queue_core.specs.declared.rows.Hold.{Hold}
use Rattle.queue_core.specs.declared.rows.Hold.TheVariants as numbers
use Rattle.queue_core.specs.declared.rows.Row.{Row}
use Rattle.queue_core.specs.Rows as rows
use Rattle.fed_journal.specs.declared.place.Place.{Place}
use Rattle.client_rules.specs.declared.client.Client.{Client}
use Rattle.fed_journal.specs.declared.entry.Entry.{Entry}
use Rattle.fed_journal.specs.Holders as holders
use Rattle.fed_journal.specs.Holders.{same_client}
use Rattle.fed_journal.specs.Copies.{Standing, Unknown, Ready, Held, Left, is_left, is_waiting, entered, standing}
use Rattle.fed_journal.specs.Holds.{holder, holder_in, is_ready, first_ready, ready_count}
use Rattle.fed_journal.specs.Consumers.{is_held_for, is_consumer_of, handed_since, held_count}
use Rattle.amqp_props.specs.declared.message.Message.{Message}
use Rattle.broker_store.specs.Queues.{Standing as QueueOf, Named, queue_of}
use Rattle.broker_store.specs.declared.consumer.Consumer.{Consumer}
use Rattle.broker_store.specs.Queues as queues
use Rattle.mini_broker.specs.Deliver as deliver
use Rattle.mini_broker.specs.State.{VhostState}
use Rattle.broker_view.specs.View.{HasCopies, StandsAs, RowStands, IsHolder, is_there, rows_in}
use Rattle.broker_view.proofs.Matching.{Matches, matches-cases, no_rows}
use Rattle.broker_view.proofs.CopySteps.{ready-as}

-- ---- tests of rows and of copies

-- the test of a row says what the one of its copy says, and copies that are away don't pass
pub record SaySame (J : List Entry) (p : Place) (v : VhostState) (test : Row → Bool) (says : ℕ → Bool) : Type 0 where
  pub rows : (row : Row) → RowStands J p v row → test row ≡ says row.copy
  pub away : (c : ℕ) → is_there J c ≡ false → says c ≡ false

find-row : (says : ℕ → Bool) (test : Row → Bool) (row : Row) (rest : List Row) (c : ℕ) (cs : List ℕ) (b : Bool) → test row ≡ b → test row ≡ says c → row.copy ≡ c → option_map (λ (r : Row). r.copy) (find test rest) ≡ find says cs → option_map (λ (r : Row). r.copy) (cond b (Some row) (find test rest)) ≡ cond (says c) (Some c) (find says cs)
find-row says test row rest c cs true on same is later = ap (λ n. Some n) is ∙ sym (ap (λ b. cond b (Some c) (find says cs)) (sym same ∙ on))
find-row says test row rest c cs false off same is later = later ∙ sym (ap (λ b. cond b (Some c) (find says cs)) (sym same ∙ off))

pub find-as : (J : List Entry) (p : Place) (v : VhostState) (test : Row → Bool) (says : ℕ → Bool) → SaySame J p v test says → (cs : List ℕ) (rs : List Row) → Matches J p v rs cs → option_map (λ (r : Row). r.copy) (find test rs) ≡ find says cs
find-as J p v test says say [] rs m = ap (λ x. option_map (λ (r : Row). r.copy) (find test x)) (no_rows J p v rs m)
find-as J p v test says say (c ∷ cs) rs m = elim (matches-cases J p v rs c cs m) [
  | inl r ↦ ap (λ x. option_map (λ (y : Row). y.copy) (find test x)) r.rows'
      ∙ find-row says test r.row r.rest c cs (test r.row) refl (say.rows r.row r.stands ∙ ap says r.copy) r.copy (find-as J p v test says say cs r.rest r.matches)
  | inr a ↦ find-as J p v test says say cs rs a.matches ∙ sym (ap (λ b. cond b (Some c) (find says cs)) (say.away c a.away))
]

count-cons : {X : Type 0} (test : X → Bool) (x : X) (xs : List X) → count_by test (x ∷ xs) ≡ cond (test x) 1 0 + count_by test xs
count-cons test x xs = sum_by-append (λ x. cond (test x) 1 0) (x ∷ []) xs ∙ omega arith

pub count-as : (J : List Entry) (p : Place) (v : VhostState) (test : Row → Bool) (says : ℕ → Bool) → SaySame J p v test says → (cs : List ℕ) (rs : List Row) → Matches J p v rs cs → count_by test rs ≡ count_by says cs
count-as J p v test says say [] rs m = ap (count_by test) (no_rows J p v rs m)
count-as J p v test says say (c ∷ cs) rs m = elim (matches-cases J p v rs c cs m) [
  | inl r ↦ ap (count_by test) r.rows'
      ∙ count-cons test r.row r.rest
      ∙ ap (λ b. cond b 1 0 + count_by test r.rest) (say.rows r.row r.stands ∙ ap says r.copy)
      ∙ ap (λ n. cond (says c) 1 0 + n) (count-as J p v test says say cs r.rest r.matches)
      ∙ sym (count-cons says c cs)
  | inr a ↦ count-as J p v test says say cs rs a.matches
      ∙ sym (count-cons says c cs ∙ ap (λ b. cond b 1 0 + count_by says cs) (say.away c a.away) ∙ omega arith)
]

matches-of : (J : List Entry) (p : Place) (v : VhostState) (q : List ℕ) → HasCopies J p v → Matches J p v (rows_in q v.queues) (entered J p q)
matches-of J p v q has = record { numbers = has.numbers q; stand = has.rows q }

-- ---- what is ready

waiting-away : (t : Standing) → not (is_left t) ≡ false → is_waiting t ≡ false
waiting-away Left h = refl
waiting-away Ready h = absurd (true≢false h)
waiting-away Unknown h = absurd (true≢false h)
waiting-away (Held h) k = absurd (true≢false k)

say-ready : (J : List Entry) (p : Place) (v : VhostState) → SaySame J p v rows.is_ready (is_ready J)
say-ready J p v = record { rows = λ row k. ready-as J p v row.copy (standing row.copy J) row.hold k; away = λ c h. waiting-away (standing c J) h }

ready-in : (o : Option (QueueOf Message)) → option_and_then (λ (s : QueueOf Message). rows.first_ready s.mail.rows) o ≡ rows.first_ready (option_map_or (λ (s : QueueOf Message). s.mail.rows) o [])
ready-in None = refl
ready-in (Some s) = refl

-- a queue hands out what the journal has as its first ready copy
pub first_ready-is : (J : List Entry) (p : Place) (v : VhostState) (q : List ℕ) → HasCopies J p v → queues.ready_in q v.queues ≡ first_ready J p q
unfolding first_ready
first_ready-is J p v q has = ready-in (queue_of q v.queues) ∙ find-as J p v rows.is_ready (is_ready J) (say-ready J p v) (entered J p q) (rows_in q v.queues) (matches-of J p v q has)

count-in : (test : Row → Bool) (o : Option (QueueOf Message)) → option_map_or (λ (s : QueueOf Message). count_by test s.mail.rows) o 0 ≡ count_by test (option_map_or (λ (s : QueueOf Message). s.mail.rows) o [])
count-in test None = refl
count-in test (Some s) = refl

-- as many copies are ready
pub ready_count-is : (J : List Entry) (p : Place) (v : VhostState) (q : List ℕ) → HasCopies J p v → queues.ready_count q v.queues ≡ ready_count J p q
unfolding ready_count
ready_count-is J p v q has = count-in rows.is_ready (queue_of q v.queues) ∙ count-as J p v rows.is_ready (is_ready J) (say-ready J p v) (entered J p q) (rows_in q v.queues) (matches-of J p v q has)

-- ---- what a consumer holds

-- the holder of a consumer holds what the journal counts for it
abbrev pub CountsAs : List Entry → Place → VhostState → Client → List ℕ → Consumer → Type 0
CountsAs J p v k t consumer = (c : ℕ) (h : holders.Holder) (r : Holder) → IsHolder J p v c h r → rows.same_holder consumer.holder r ≡ (is_consumer_of p k t (Some h) && list_any (λ n. n == c) (handed_since J p k t))

held-as : (J : List Entry) (p : Place) (v : VhostState) (k : Client) (t : List ℕ) (consumer : Consumer) (c : ℕ) (s : Standing) (hold : Hold) → CountsAs J p v k t consumer → StandsAs J p v c s hold → rows.is_hold_of consumer.holder hold ≡ (is_consumer_of p k t (holder_in s) && list_any (λ n. n == c) (handed_since J p k t))
held-as J p v k t consumer c Ready numbers.Ready counts h = refl
held-as J p v k t consumer c (Held holder) (numbers.Held r) counts h = counts c holder r h
held-as J p v k t consumer c Ready (numbers.Held r) counts h = absurd h
held-as J p v k t consumer c (Held holder) numbers.Ready counts h = absurd h
held-as J p v k t consumer c Unknown hold counts h = absurd h
held-as J p v k t consumer c Left hold counts h = absurd h

nobody : (p : Place) (k : Client) (t : List ℕ) (s : Standing) (b : Bool) → not (is_left s) ≡ false → (is_consumer_of p k t (holder_in s) && b) ≡ false
nobody p k t Left b h = refl
nobody p k t Ready b h = absurd (true≢false h)
nobody p k t Unknown b h = absurd (true≢false h)
nobody p k t (Held holder) b h = absurd (true≢false h)

say-held : (J : List Entry) (p : Place) (v : VhostState) (k : Client) (t : List ℕ) (consumer : Consumer) → CountsAs J p v k t consumer → SaySame J p v (rows.is_held_by consumer.holder) (is_held_for J p k t)
say-held J p v k t consumer counts = record {
  rows = λ row h. held-as J p v k t consumer row.copy (standing row.copy J) row.hold counts h;
  away = λ c h. nobody p k t (standing c J) (list_any (λ n. n == c) (handed_since J p k t)) h;
}

-- a consumer holds as many copies
pub held_count-is : (J : List Entry) (p : Place) (v : VhostState) (k : Client) (t q : List ℕ) (consumer : Consumer) → HasCopies J p v → CountsAs J p v k t consumer → deliver.held_count q consumer.holder v.queues ≡ held_count J p k t q
unfolding held_count
held_count-is J p v k t q consumer has counts =
    count-in (rows.is_held_by consumer.holder) (queue_of q v.queues) ∙ count-as J p v (rows.is_held_by consumer.holder) (is_held_for J p k t) (say-held J p v k t consumer counts) (entered J p q) (rows_in q v.queues) (matches-of J p v q has)
