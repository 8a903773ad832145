-- Which copies are in the queues, and who holds them, in a journal that is one entry longer.
use Rattle.std.proofs.Common.{◌≡◌, ℕ, List, [], ◌∷◌, ◌++◌, Bool, true, false, cond, not, Option, Some, None, refl, sym, ap, subst, ◌∙◌, map}
use Rattle.std.specs.Prelude.{◌==◌, filter_map}
use Rattle.std.proofs.lemmas.Bool.{true≢false, eqb-true, eq-eqb, ne_eqb}
use Rattle.queue_core.specs.declared.rows.Holder.{Holder}
use Rattle.queue_core.specs.declared.rows.Hold.{Hold}
use Rattle.queue_core.specs.declared.rows.Hold.TheVariants as numbers
use Rattle.queue_core.specs.declared.rows.Row.{Row}
use Rattle.queue_core.specs.Rows as rows
use Rattle.fed_journal.specs.declared.place.Place.{Place}
use Rattle.fed_journal.specs.declared.entry.Publication.{Publication}
use Rattle.fed_journal.specs.declared.entry.Entry.{Entry}
use Rattle.fed_journal.specs.declared.entry.Entry.TheVariants.{Delivered}
use Rattle.fed_journal.specs.Holders as holders
use Rattle.fed_journal.specs.Holders.{is_connection}
use Rattle.fed_journal.specs.Copies.{Standing, Unknown, Ready, Held, Left, is_left, entered, entered_by, standing, moved}
use Rattle.mini_broker.specs.State.{VhostState}
use Rattle.broker_view.specs.View.{HasHome, HaveHomes, AreHeldAtHome, HasCopies, IsHolder, StandsAs, RowStands, is_there, rows_in}
use Rattle.broker_view.proofs.Names.{number-sym}
use Rattle.broker_view.proofs.Publications.{standing-push, entered-same}
use Rattle.broker_view.proofs.Matching.{Matches, Follows, stands-there, change-all, all-changed, some-kept, none-changed}

-- ---- the frame of each step

-- the copy isn't the one that the entry hands out
abbrev pub NotHanded : Entry → ℕ → Type 0
NotHanded (Delivered place client tag queue copy no_ack) c = copy ≡ c → ⊥
NotHanded _ c = Unit {0}

-- who holds a copy goes on to hold it under the same number
abbrev pub Keeps : List Entry → Place → VhostState → Entry → VhostState → Type 0
Keeps J p v e w = (c : ℕ) (h : holders.Holder) (r : Holder) → NotHanded e c → IsHolder J p v c h r → IsHolder (J ++ e ∷ []) p w c h r

away-by : (t m : Standing) → not (is_left t) ≡ false → not (is_left (cond (is_left t) Left m)) ≡ false
away-by Left m h = refl
away-by Ready m h = absurd (true≢false h)
away-by Unknown m h = absurd (true≢false h)
away-by (Held holder) m h = absurd (true≢false h)

-- what has left stays away
pub away : (J : List Entry) (e : Entry) (p : Place) (q : List ℕ) (c : ℕ) → HasHome J p q c → is_there J c ≡ false → is_there (J ++ e ∷ []) c ≡ false
away J e p q c h gone =
    ap (λ t. not (is_left t)) (standing-push c h.publication J e h.of_copy) ∙ away-by (standing c J) (moved c h.publication (standing c J) e) gone

-- what is there is moved
standing-moved : (J : List Entry) (e : Entry) (p : Place) (q : List ℕ) (v : VhostState) (c : ℕ) (hold : Hold) (h : HasHome J p q c) → StandsAs J p v c (standing c J) hold → standing c (J ++ e ∷ []) ≡ moved c h.publication (standing c J) e
standing-moved J e p q v c hold h k =
    standing-push c h.publication J e h.of_copy ∙ ap (λ b. cond b Left (moved c h.publication (standing c J) e)) (stands-there J p v c (standing c J) hold k)

-- the rows of each queue are changed as the journal says
pub record IsStep (J : List Entry) (e : Entry) (p : Place) (v w : VhostState) (q : List ℕ) : Type 0 where
  pub change : Row → Option Row
  pub rows : rows_in q w.queues ≡ filter_map change (rows_in q v.queues)
  pub follows : (row : Row) → HasHome J p q row.copy → RowStands J p v row → Follows (J ++ e ∷ []) p w row (change row)

step-matches : (J : List Entry) (e : Entry) (p : Place) (v w : VhostState) (q : List ℕ) → HasCopies J p v → entered_by p q e ≡ None → IsStep J e p v w q → Matches (J ++ e ∷ []) p w (rows_in q w.queues) (entered (J ++ e ∷ []) p q)
step-matches J e p v w q has none step =
    subst (λ rs. Matches (J ++ e ∷ []) p w rs (entered (J ++ e ∷ []) p q)) (sym step.rows)
    (subst (λ cs. Matches (J ++ e ∷ []) p w (filter_map step.change (rows_in q v.queues)) cs) (sym (entered-same J e p q none))
    (change-all J (J ++ e ∷ []) p q v w step.change (record { follows = step.follows; away = away J e p q }) (entered J p q) (rows_in q v.queues) (has.homes p q) (record { numbers = has.numbers q; stand = has.rows q })))

-- each queue's step is that of all
pub copies-from : (J : List Entry) (e : Entry) (p : Place) (v w : VhostState) → HasCopies J p v → ((q : List ℕ) → entered_by p q e ≡ None) → HaveHomes (J ++ e ∷ []) → AreHeldAtHome (J ++ e ∷ []) → ((q : List ℕ) → IsStep J e p v w q) → HasCopies (J ++ e ∷ []) p w
copies-from J e p v w has none homes held steps = record {
  homes = homes;
  held = held;
  numbers = λ q. (step-matches J e p v w q has (none q) (steps q)).numbers;
  rows = λ q. (step-matches J e p v w q has (none q) (steps q)).stand;
}

-- ---- a row that stays as it is

held-stays : (J : List Entry) (e : Entry) (p : Place) (v w : VhostState) (c : ℕ) (t : Standing) (hold : Hold) → NotHanded e c → Keeps J p v e w → StandsAs J p v c t hold → StandsAs (J ++ e ∷ []) p w c t hold
held-stays J e p v w c Ready numbers.Ready other keeps k = k
held-stays J e p v w c (Held holder) (numbers.Held r) other keeps k = keeps c holder r other k
held-stays J e p v w c Ready (numbers.Held r) other keeps k = absurd k
held-stays J e p v w c (Held holder) numbers.Ready other keeps k = absurd k
held-stays J e p v w c Unknown hold other keeps k = absurd k
held-stays J e p v w c Left hold other keeps k = absurd k

-- the journal has it as before
pub row-stays : (J : List Entry) (e : Entry) (p : Place) (q : List ℕ) (v w : VhostState) (row now : Row) (h : HasHome J p q row.copy) → NotHanded e row.copy → Keeps J p v e w → RowStands J p v row → moved row.copy h.publication (standing row.copy J) e ≡ standing row.copy J → now.copy ≡ row.copy → now.hold ≡ row.hold → Follows (J ++ e ∷ []) p w row (Some now)
row-stays J e p q v w row now h other keeps k same copy hold = (
  copy,
  subst (λ c. StandsAs (J ++ e ∷ []) p w c (standing c (J ++ e ∷ [])) now.hold) (sym copy)
      (subst (λ t. StandsAs (J ++ e ∷ []) p w row.copy t now.hold) (sym (standing-moved J e p q v row.copy row.hold h k ∙ same))
      (subst (λ x. StandsAs (J ++ e ∷ []) p w row.copy (standing row.copy J) x) (sym hold) (held-stays J e p v w row.copy (standing row.copy J) row.hold other keeps k))),
)

-- its standing and its hold are new
pub row-becomes : (J : List Entry) (e : Entry) (p : Place) (q : List ℕ) (v w : VhostState) (row now : Row) (h : HasHome J p q row.copy) (t : Standing) → RowStands J p v row → moved row.copy h.publication (standing row.copy J) e ≡ t → now.copy ≡ row.copy → StandsAs (J ++ e ∷ []) p w row.copy t now.hold → Follows (J ++ e ∷ []) p w row (Some now)
row-becomes J e p q v w row now h t k same copy stands = (
  copy,
  subst (λ c. StandsAs (J ++ e ∷ []) p w c (standing c (J ++ e ∷ [])) now.hold) (sym copy)
      (subst (λ s. StandsAs (J ++ e ∷ []) p w row.copy s now.hold) (sym (standing-moved J e p q v row.copy row.hold h k ∙ same)) stands),
)

-- it leaves
pub row-leaves : (J : List Entry) (e : Entry) (p : Place) (q : List ℕ) (v w : VhostState) (row : Row) (h : HasHome J p q row.copy) → RowStands J p v row → moved row.copy h.publication (standing row.copy J) e ≡ Left → Follows (J ++ e ∷ []) p w row None
row-leaves J e p q v w row h k left = ap (λ t. not (is_left t)) (standing-moved J e p q v row.copy row.hold h k ∙ left)

-- ---- entries that move no copy

abbrev pub Moves_nothing : Entry → Type 0
Moves_nothing e = (c : ℕ) (x : Publication) (t : Standing) → moved c x t e ≡ t

abbrev pub Hands_nothing : Entry → Type 0
Hands_nothing e = (c : ℕ) → NotHanded e c

-- the rows stay, or only what isn't seen of them changes
pub still-step : (J : List Entry) (e : Entry) (p : Place) (v w : VhostState) (q : List ℕ) (f : Row → Row) → Moves_nothing e → Hands_nothing e → Keeps J p v e w → ((row : Row) → (f row).copy ≡ row.copy) → ((row : Row) → (f row).hold ≡ row.hold) → rows_in q w.queues ≡ map f (rows_in q v.queues) → IsStep J e p v w q
still-step J e p v w q f still other keeps copy hold same = record {
  change = λ row. Some (f row);
  rows = same ∙ sym (all-changed f (rows_in q v.queues));
  follows = λ row h k. row-stays J e p q v w row (f row) h (other row.copy) keeps k (still row.copy h.publication (standing row.copy J)) (copy row) (hold row);
}

map-id : (rs : List Row) → rs ≡ map (λ (row : Row). row) rs
map-id [] = refl
map-id (row ∷ rs) = ap (λ x. row ∷ x) (map-id rs)

pub still-all : (J : List Entry) (e : Entry) (p : Place) (v w : VhostState) → Moves_nothing e → Hands_nothing e → Keeps J p v e w → ((q : List ℕ) → rows_in q w.queues ≡ rows_in q v.queues) → (q : List ℕ) → IsStep J e p v w q
still-all J e p v w still other keeps same q =
    still-step J e p v w q (λ row. row) still other keeps (λ row. refl) (λ row. refl) (same q ∙ map-id (rows_in q v.queues))

-- ---- a copy that changes by its number

-- the copy becomes that, and no other one changes
abbrev pub Becomes : ℕ → Standing → Entry → Type 0
Becomes copy to e = (c : ℕ) (x : Publication) (t : Standing) → moved c x t e ≡ cond (copy == c) to t

-- only that copy is handed out
abbrev pub Spares_others : ℕ → Entry → Type 0
Spares_others copy e = (c : ℕ) → (copy ≡ c → ⊥) → NotHanded e c

unlike : (copy c : ℕ) → (copy == c) ≡ false → copy ≡ c → ⊥
unlike copy c isn't is = true≢false (sym (eq-eqb copy c is) ∙ isn't)

without-by : (J : List Entry) (e : Entry) (p : Place) (q : List ℕ) (v w : VhostState) (row : Row) (copy : ℕ) (b : Bool) → (copy == row.copy) ≡ b → Becomes copy Left e → Spares_others copy e → Keeps J p v e w → HasHome J p q row.copy → RowStands J p v row → Follows (J ++ e ∷ []) p w row (cond (not b) (Some row) None)
without-by J e p q v w row copy true is leaves other keeps h k =
    row-leaves J e p q v w row h k (leaves row.copy h.publication (standing row.copy J) ∙ ap (λ b. cond b Left (standing row.copy J)) is)
without-by J e p q v w row copy false isn't leaves other keeps h k =
    row-stays J e p q v w row row h (other row.copy (unlike copy row.copy isn't)) keeps k (leaves row.copy h.publication (standing row.copy J) ∙ ap (λ b. cond b Left (standing row.copy J)) isn't) refl refl

without-follows : (J : List Entry) (e : Entry) (p : Place) (q : List ℕ) (v w : VhostState) (row : Row) (copy : ℕ) → Becomes copy Left e → Spares_others copy e → Keeps J p v e w → HasHome J p q row.copy → RowStands J p v row → Follows (J ++ e ∷ []) p w row (cond (not (row.copy == copy)) (Some row) None)
without-follows J e p q v w row copy leaves other keeps h k =
    subst (λ b. Follows (J ++ e ∷ []) p w row (cond (not b) (Some row) None)) (number-sym copy row.copy) (without-by J e p q v w row copy (copy == row.copy) refl leaves other keeps h k)

-- it leaves
pub without-step : (J : List Entry) (e : Entry) (p : Place) (v w : VhostState) (copy : ℕ) (q : List ℕ) → Becomes copy Left e → Spares_others copy e → Keeps J p v e w → rows_in q w.queues ≡ rows.without copy (rows_in q v.queues) → IsStep J e p v w q
without-step J e p v w copy q leaves other keeps same = record {
  change = λ row. cond (not (row.copy == copy)) (Some row) None;
  rows = same ∙ sym (some-kept (λ row. not (row.copy == copy)) (rows_in q v.queues));
  follows = λ row h k. without-follows J e p q v w row copy leaves other keeps h k;
}

with_hold-by : (J : List Entry) (e : Entry) (p : Place) (q : List ℕ) (v w : VhostState) (row : Row) (copy : ℕ) (to : Standing) (hold : Hold) (b : Bool) → (copy == row.copy) ≡ b → Becomes copy to e → Spares_others copy e → Keeps J p v e w → StandsAs (J ++ e ∷ []) p w copy to hold → HasHome J p q row.copy → RowStands J p v row → Follows (J ++ e ∷ []) p w row (Some (record row { hold = cond b hold row.hold }))
with_hold-by J e p q v w row copy to hold true is becomes other keeps stands h k =
    row-becomes J e p q v w row (record row { hold = hold }) h to k (becomes row.copy h.publication (standing row.copy J) ∙ ap (λ b. cond b to (standing row.copy J)) is) refl (subst (λ c. StandsAs (J ++ e ∷ []) p w c to hold) (eqb-true copy row.copy is) stands)
with_hold-by J e p q v w row copy to hold false isn't becomes other keeps stands h k =
    row-stays J e p q v w row (record row { hold = row.hold }) h (other row.copy (unlike copy row.copy isn't)) keeps k (becomes row.copy h.publication (standing row.copy J) ∙ ap (λ b. cond b to (standing row.copy J)) isn't) refl refl

with_hold-follows : (J : List Entry) (e : Entry) (p : Place) (q : List ℕ) (v w : VhostState) (row : Row) (copy : ℕ) (to : Standing) (hold : Hold) → Becomes copy to e → Spares_others copy e → Keeps J p v e w → StandsAs (J ++ e ∷ []) p w copy to hold → HasHome J p q row.copy → RowStands J p v row → Follows (J ++ e ∷ []) p w row (Some (rows.with_hold copy hold row))
with_hold-follows J e p q v w row copy to hold becomes other keeps stands h k =
    subst (λ b. Follows (J ++ e ∷ []) p w row (Some (record row { hold = cond b hold row.hold }))) (number-sym copy row.copy) (with_hold-by J e p q v w row copy to hold (copy == row.copy) refl becomes other keeps stands h k)

-- its hold changes
pub with_hold-step : (J : List Entry) (e : Entry) (p : Place) (v w : VhostState) (copy : ℕ) (to : Standing) (hold : Hold) (q : List ℕ) → Becomes copy to e → Spares_others copy e → Keeps J p v e w → StandsAs (J ++ e ∷ []) p w copy to hold → rows_in q w.queues ≡ map (rows.with_hold copy hold) (rows_in q v.queues) → IsStep J e p v w q
with_hold-step J e p v w copy to hold q becomes other keeps stands same = record {
  change = λ row. Some (rows.with_hold copy hold row);
  rows = same ∙ sym (all-changed (rows.with_hold copy hold) (rows_in q v.queues));
  follows = λ row h k. with_hold-follows J e p q v w row copy to hold becomes other keeps stands h k;
}

-- it isn't in this queue
pub apart-step : (J : List Entry) (e : Entry) (p : Place) (v w : VhostState) (copy : ℕ) (to : Standing) (q : List ℕ) → Becomes copy to e → Spares_others copy e → Keeps J p v e w → ((c : ℕ) → HasHome J p q c → copy ≡ c → ⊥) → rows_in q w.queues ≡ rows_in q v.queues → IsStep J e p v w q
apart-step J e p v w copy to q becomes other keeps apart same = record {
  change = λ row. Some row;
  rows = same ∙ sym (none-changed (rows_in q v.queues));
  follows = λ row h k. row-stays J e p q v w row row h (other row.copy (apart row.copy h)) keeps k (becomes row.copy h.publication (standing row.copy J) ∙ ap (λ b. cond b to (standing row.copy J)) (ne_eqb copy row.copy (apart row.copy h))) refl refl;
}
