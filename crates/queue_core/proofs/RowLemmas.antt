-- What keeps the rows of a queue in their order, and what one row's change is over all rows.
use Rattle.std.proofs.Common.{◌≡◌, ℕ, zero, suc, length, ◌<◌, ◌≤◌, ◌==◌, Bool, true, false, cond, not, List, [], ◌∷◌, ◌++◌, Option, Some, None, refl, ap, sym, subst, ◌∙◌, arith, eq-eqb}
use Rattle.std.specs.Prelude.{map, filter, find, All, min, nat_eq, nat_le}
use Rattle.std.proofs.lemmas.Bool.{true≢false}
use Rattle.std.proofs.lemmas.Bool.Decides.{nat_tests}
use Rattle.std.proofs.lemmas.List.Elements.{All-nil, All-cons, All-head, All-tail, All-push, All-filter, All-map, All-weaker}
use Rattle.std.specs.Option.{option_map, option_map_or, option_or, option_eq, is_some}
use Rattle.queue_core.specs.declared.rows.Hold.{Hold}
use Rattle.queue_core.specs.declared.rows.Hold.TheVariants.{Ready}
use Rattle.queue_core.specs.declared.rows.Row.{Row}
use Rattle.queue_core.specs.Rows.{Ascends, IsAbove, IsLeastReady, is_ready_hold, is_ready, is_held, entered, with_hold, without, all_stored, first_ready, copy_at}
use Rattle.queue_core.specs.Copies.{rows_from}

-- a row that is above all joins at the end
pub Ascends-push : (rows : List Row) (row : Row) → Ascends rows → IsAbove rows row.copy → Ascends (rows ++ row ∷ [])
Ascends-push [] row rising above = (All-nil _, tt)
Ascends-push (r ∷ rows) row rising above =
    (All-push (λ later. r.copy < later.copy) rows row rising.0 (All-head (λ (old : Row). old.copy < row.copy) r rows above), Ascends-push rows row rising.1 (All-tail (λ (old : Row). old.copy < row.copy) r rows above))

pub Ascends-filter : (test : Row → Bool) (rows : List Row) → Ascends rows → Ascends (filter test rows)
Ascends-filter test [] rising = tt
Ascends-filter test (r ∷ rows) rising =
    let rest = Ascends-filter test rows rising.1 in
    elim (test r) as (λ b. Ascends (cond b (r ∷ filter test rows) (filter test rows))) [ true ↦ (All-filter test (λ later. r.copy < later.copy) rows rising.0, rest) | false ↦ rest ]

-- a change that keeps the numbers keeps the order
pub Ascends-map : (change : Row → Row) → ((row : Row) → (change row).copy ≡ row.copy) → (rows : List Row) → Ascends rows → Ascends (map change rows)
Ascends-map change same [] rising = tt
Ascends-map change same (r ∷ rows) rising =
    (All-map (λ later. (change r).copy < later.copy) change rows (All-weaker (λ later. r.copy < later.copy) (λ later. (change r).copy < (change later).copy) (λ later below. rw (same r, same later) below) rows rising.0), Ascends-map change same rows rising.1)

-- in rows by rising number the first that is ready is the least that is ready
pub first_ready-least : (rows : List Row) (copy : ℕ) → Ascends rows → first_ready rows ≡ Some copy → IsLeastReady rows copy
first_ready-least [] copy rising found = cc
first_ready-least (r ∷ rows) copy rising found =
    elim (is_ready r) as (λ b. is_ready r ≡ b → option_map (λ (row : Row). row.copy) (cond b (Some r) (find is_ready rows)) ≡ Some copy → IsLeastReady (r ∷ rows) copy) [
      | true ↦ (λ ready is. let same : r.copy ≡ copy = cc in record {
        ready = rw (eq-eqb r.copy copy same, ready) refl;
        least = All-cons (λ row. is_ready row ≡ true → copy ≤ row.copy) r rows (λ _. omega arith) (All-weaker (λ later. r.copy < later.copy) (λ row. is_ready row ≡ true → copy ≤ row.copy) (λ later below _. omega arith) rows rising.0);
      })
      | false ↦ (λ held later. let rest = first_ready-least rows copy rising.1 later in record {
        ready = grind (arith, nat_tests, rest.ready);
        least = All-cons (λ row. is_ready row ≡ true → copy ≤ row.copy) r rows (λ ready. cc) rest.least;
      })
    ] refl found

-- ---- the first ready copy, as one is changed or removed

-- what is ready lies from the number on
abbrev pub AreFrom : ℕ → List Row → Type 0
AreFrom copy rows = All (λ row. is_ready row ≡ true → copy ≤ row.copy) rows

-- where nothing below a number is ready, the search may begin there
pub first_from : (copy : ℕ) (rows : List Row) → AreFrom copy rows → first_ready (rows_from copy rows) ≡ first_ready rows
first_from copy [] from = refl
first_from copy (r ∷ rows) from =
    let rest = first_from copy rows (All-tail (λ row. is_ready row ≡ true → copy ≤ row.copy) r rows from) in
    let head = All-head (λ row. is_ready row ≡ true → copy ≤ row.copy) r rows from in
    elim (is_ready r) as (λ b. is_ready r ≡ b → first_ready (cond (nat_le copy r.copy) (r ∷ rows_from copy rows) (rows_from copy rows)) ≡ option_map (λ (row : Row). row.copy) (cond b (Some r) (find is_ready rows))) [
      | true ↦ (λ ready.
          let within : nat_le copy r.copy ≡ true = let below = head ready in grind (arith, nat_tests, below) in
          ap (λ b. first_ready (cond b (r ∷ rows_from copy rows) (rows_from copy rows))) within
          ∙ ap (λ b. option_map (λ (row : Row). row.copy) (cond b (Some r) (find is_ready (rows_from copy rows)))) ready)
      | false ↦ (λ held.
          elim (nat_le copy r.copy) as (λ b. first_ready (cond b (r ∷ rows_from copy rows) (rows_from copy rows)) ≡ first_ready rows) [
            | true ↦ ap (λ b. option_map (λ (row : Row). row.copy) (cond b (Some r) (find is_ready (rows_from copy rows)))) held ∙ rest
            | false ↦ rest
          ])
    ] refl

pub from_zero : (rows : List Row) → AreFrom 0 rows
from_zero [] = All-nil _
from_zero (r ∷ rows) = All-cons (λ row. is_ready row ≡ true → 0 ≤ row.copy) r rows (λ _. omega arith) (from_zero rows)

from_held : (copy : ℕ) (hold : Hold) → is_ready_hold hold ≡ false → (r : Row) → (is_ready r ≡ true → copy ≤ r.copy) → is_ready (with_hold copy hold r) ≡ true → copy ≤ (with_hold copy hold r).copy
from_held copy hold held r from ready =
    elim (r.copy == copy) as (λ b. (r.copy == copy) ≡ b → is_ready_hold (cond b hold r.hold) ≡ true → copy ≤ r.copy) [
      | true ↦ (λ same _. grind (arith, nat_tests, same))
      | false ↦ (λ _ ready. from ready)
    ] refl ready

-- the first ready copy is held from now on
pub held_from : (copy : ℕ) (hold : Hold) → is_ready_hold hold ≡ false → (rows : List Row) → AreFrom copy rows → AreFrom copy (map (with_hold copy hold) rows)
held_from copy hold held rows from = All-map (λ row. is_ready row ≡ true → copy ≤ row.copy) (with_hold copy hold) rows (All-weaker (λ row. is_ready row ≡ true → copy ≤ row.copy) (λ row. is_ready (with_hold copy hold row) ≡ true → copy ≤ (with_hold copy hold row).copy) (from_held copy hold held) rows from)

-- another copy is held from now on
pub other_held : (copy : ℕ) (hold : Hold) → is_ready_hold hold ≡ false → (rows : List Row) → option_eq nat_eq (first_ready rows) (Some copy) ≡ false → first_ready (map (with_hold copy hold) rows) ≡ first_ready rows
other_held copy hold held [] other = refl
other_held copy hold held (r ∷ rows) other =
    elim (is_ready r) as (λ b. is_ready r ≡ b → option_eq nat_eq (option_map (λ (row : Row). row.copy) (cond b (Some r) (find is_ready rows))) (Some copy) ≡ false → first_ready (map (with_hold copy hold) (r ∷ rows)) ≡ option_map (λ (row : Row). row.copy) (cond b (Some r) (find is_ready rows))) [
      | true ↦ (λ ready apart.
          ap (λ b. option_map (λ (row : Row). row.copy) (cond (is_ready_hold (cond b hold r.hold)) (Some (record r { hold = cond b hold r.hold })) (find is_ready (map (with_hold copy hold) rows)))) apart
          ∙ ap (λ b. option_map (λ (row : Row). row.copy) (cond b (Some r) (find is_ready (map (with_hold copy hold) rows)))) ready)
      | false ↦ (λ unready other.
          let rest = other_held copy hold held rows other in
          elim (r.copy == copy) as (λ b. option_map (λ (row : Row). row.copy) (cond (is_ready_hold (cond b hold r.hold)) (Some (record r { hold = cond b hold r.hold })) (find is_ready (map (with_hold copy hold) rows))) ≡ first_ready rows) [
            | true ↦ ap (λ b. option_map (λ (row : Row). row.copy) (cond b (Some (record r { hold = hold })) (find is_ready (map (with_hold copy hold) rows)))) held ∙ rest
            | false ↦ ap (λ b. option_map (λ (row : Row). row.copy) (cond b (Some r) (find is_ready (map (with_hold copy hold) rows)))) unready ∙ rest
          ])
    ] refl other

-- another copy leaves
pub other_left : (copy : ℕ) (rows : List Row) → option_eq nat_eq (first_ready rows) (Some copy) ≡ false → first_ready (without copy rows) ≡ first_ready rows
other_left copy [] other = refl
other_left copy (r ∷ rows) other =
    elim (is_ready r) as (λ b. is_ready r ≡ b → option_eq nat_eq (option_map (λ (row : Row). row.copy) (cond b (Some r) (find is_ready rows))) (Some copy) ≡ false → first_ready (without copy (r ∷ rows)) ≡ option_map (λ (row : Row). row.copy) (cond b (Some r) (find is_ready rows))) [
      | true ↦ (λ ready apart.
          ap (λ b. first_ready (cond (not b) (r ∷ without copy rows) (without copy rows))) apart
          ∙ ap (λ b. option_map (λ (row : Row). row.copy) (cond b (Some r) (find is_ready (without copy rows)))) ready)
      | false ↦ (λ unready other.
          let rest = other_left copy rows other in
          elim (r.copy == copy) as (λ b. first_ready (cond (not b) (r ∷ without copy rows) (without copy rows)) ≡ first_ready rows) [
            | true ↦ rest
            | false ↦ ap (λ b. option_map (λ (row : Row). row.copy) (cond b (Some r) (find is_ready (without copy rows)))) unready ∙ rest
          ])
    ] refl other

least_of : (copy : ℕ) (rows : List Row) → All (λ later. copy < later.copy) rows → option_map_or (min copy) (first_ready rows) copy ≡ copy
least_of copy [] above = refl
least_of copy (r ∷ rows) above =
    let less = All-head (λ (row : Row). copy < row.copy) r rows above in
    elim (is_ready r) as (λ b. option_map_or (min copy) (option_map (λ (row : Row). row.copy) (cond b (Some r) (find is_ready rows))) copy ≡ copy) [
      | true ↦ omega (arith, less)
      | false ↦ least_of copy rows (All-tail (λ (row : Row). copy < row.copy) r rows above)
    ]

below_there : (copy : ℕ) (r : Row) (rows : List Row) → All (λ later. r.copy < later.copy) rows → is_some (find (λ row. row.copy == copy) rows) ≡ true → r.copy < copy
below_there copy r [] above there = cc
below_there copy r (s ∷ rows) above there =
    elim (s.copy == copy) as (λ b. (s.copy == copy) ≡ b → is_some (cond b (Some s) (find (λ row. row.copy == copy) rows)) ≡ true → r.copy < copy) [
      | true ↦ (λ same _. let less = All-head (λ (later : Row). r.copy < later.copy) s rows above in grind (arith, nat_tests, same, less))
      | false ↦ (λ _ there. below_there copy r rows (All-tail (λ (later : Row). r.copy < later.copy) s rows above) there)
    ] refl there

-- a copy that is there is ready from now on
pub ready_again : (copy : ℕ) (rows : List Row) → Ascends rows → is_some (find (λ row. row.copy == copy) rows) ≡ true → first_ready (map (with_hold copy Ready) rows) ≡ Some (option_map_or (min copy) (first_ready rows) copy)
ready_again copy [] rising there = cc
ready_again copy (r ∷ rows) rising there =
    elim (r.copy == copy) as (λ b. (r.copy == copy) ≡ b → is_some (cond b (Some r) (find (λ row. row.copy == copy) rows)) ≡ true → option_map (λ (row : Row). row.copy) (cond (is_ready_hold (cond b Ready r.hold)) (Some (record r { hold = cond b Ready r.hold })) (find is_ready (map (with_hold copy Ready) rows))) ≡ Some (option_map_or (min copy) (first_ready (r ∷ rows)) copy)) [
      | true ↦ (λ same _.
          let here : r.copy ≡ copy = grind (arith, nat_tests, same) in
          let least : option_map_or (min copy) (first_ready rows) copy ≡ copy = least_of copy rows (subst (λ number. All (λ (row : Row). number < row.copy) rows) here rising.0) in
          elim (is_ready r) as (λ b. Some r.copy ≡ Some (option_map_or (min copy) (option_map (λ (row : Row). row.copy) (cond b (Some r) (find is_ready rows))) copy)) [
            | true ↦ ap (λ number. Some number) (omega (arith, here))
            | false ↦ ap (λ number. Some number) (here ∙ sym least)
          ])
      | false ↦ (λ _ there.
          let less = below_there copy r rows rising.0 there in
          elim (is_ready r) as (λ b. option_map (λ (row : Row). row.copy) (cond b (Some r) (find is_ready (map (with_hold copy Ready) rows))) ≡ Some (option_map_or (min copy) (option_map (λ (row : Row). row.copy) (cond b (Some r) (find is_ready rows))) copy)) [
            | true ↦ ap (λ number. Some number) (omega (arith, less))
            | false ↦ ready_again copy rows rising.1 there
          ])
    ] refl there

-- the copy that enters is ready
pub first_entered : (copy : ℕ) (rows : List Row) → first_ready (rows ++ entered copy ∷ []) ≡ option_or (first_ready rows) (Some copy)
first_entered copy [] = refl
first_entered copy (r ∷ rows) =
    elim (is_ready r) as (λ b. option_map (λ (row : Row). row.copy) (cond b (Some r) (find is_ready (rows ++ entered copy ∷ []))) ≡ option_or (option_map (λ (row : Row). row.copy) (cond b (Some r) (find is_ready rows))) (Some copy)) [ true ↦ refl | false ↦ first_entered copy rows ]

-- where what is held stays, nothing is ready
pub none_left : (rows : List Row) → first_ready (filter is_held rows) ≡ None
none_left [] = refl
none_left (r ∷ rows) =
    elim (is_ready r) as (λ b. is_ready r ≡ b → first_ready (cond (not b) (r ∷ filter is_held rows) (filter is_held rows)) ≡ None) [
      | true ↦ (λ _. none_left rows)
      | false ↦ (λ held. ap (λ b. option_map (λ (row : Row). row.copy) (cond b (Some r) (find is_ready (filter is_held rows)))) held ∙ none_left rows)
    ] refl

-- there is no copy exactly past the end
pub past_end : (rows : List Row) (place : ℕ) → (is_some (copy_at rows place) ≡ false → length rows ≤ place) × (length rows ≤ place → is_some (copy_at rows place) ≡ false)
past_end [] place = (λ _. omega arith, λ _. refl)
past_end (r ∷ rows) zero = (λ no. absurd (true≢false no), λ past. absurd (omega (arith, past)))
past_end (r ∷ rows) (suc place) = let rest = past_end rows place in (λ none. let past = rest.0 none in omega (arith, past), λ past. rest.1 (omega (arith, past)))

same_option : (first : Option ℕ) (copy : ℕ) → option_eq nat_eq first (Some copy) ≡ true → first ≡ Some copy
same_option None copy same = absurd (true≢false (sym same))
same_option (Some number) copy same = ap (λ number. Some number) (grind (arith, nat_tests, same))

-- the first ready copy once this one is held
pub held_first : (copy : ℕ) (hold : Hold) (rows : List Row) → is_ready_hold hold ≡ false → Ascends rows → cond (option_eq nat_eq (first_ready rows) (Some copy)) (first_ready (rows_from copy (map (with_hold copy hold) rows))) (first_ready rows) ≡ first_ready (map (with_hold copy hold) rows)
held_first copy hold rows held rising =
    elim (option_eq nat_eq (first_ready rows) (Some copy)) as (λ b. option_eq nat_eq (first_ready rows) (Some copy) ≡ b → cond b (first_ready (rows_from copy (map (with_hold copy hold) rows))) (first_ready rows) ≡ first_ready (map (with_hold copy hold) rows)) [
      | true ↦ (λ same. first_from copy (map (with_hold copy hold) rows) (held_from copy hold held rows (first_ready-least rows copy rising (same_option (first_ready rows) copy same)).least))
      | false ↦ (λ other. sym (other_held copy hold held rows other))
    ] refl

-- and once it left
pub left_first : (copy : ℕ) (rows : List Row) → Ascends rows → cond (option_eq nat_eq (first_ready rows) (Some copy)) (first_ready (rows_from copy (without copy rows))) (first_ready rows) ≡ first_ready (without copy rows)
left_first copy rows rising =
    elim (option_eq nat_eq (first_ready rows) (Some copy)) as (λ b. option_eq nat_eq (first_ready rows) (Some copy) ≡ b → cond b (first_ready (rows_from copy (without copy rows))) (first_ready rows) ≡ first_ready (without copy rows)) [
      | true ↦ (λ same. first_from copy (without copy rows) (All-filter (λ row. not (row.copy == copy)) (λ row. is_ready row ≡ true → copy ≤ row.copy) rows (first_ready-least rows copy rising (same_option (first_ready rows) copy same)).least))
      | false ↦ (λ other. sym (other_left copy rows other))
    ] refl

-- a flush changes no hold
pub first_stored : (rows : List Row) → first_ready (all_stored rows) ≡ first_ready rows
first_stored [] = refl
first_stored (r ∷ rows) =
    elim (is_ready r) as (λ b. option_map (λ (row : Row). row.copy) (cond b (Some (record r { stored = true })) (find is_ready (all_stored rows))) ≡ option_map (λ (row : Row). row.copy) (cond b (Some r) (find is_ready rows))) [ true ↦ refl | false ↦ first_stored rows ]
