-- What is counted of the holds, as one is changed or removed.
use Rattle.std.proofs.Common.{◌≡◌, ℕ, ◌+◌, ◌-◌, ◌<◌, ◌≤◌, ◌==◌, ◌&&◌, ◌||◌, Bool, true, false, cond, not, List, [], ◌∷◌, ◌++◌, Option, Some, None, length, get_or, refl, ap, sym, subst, ◌∙◌, arith, ◌^◌, eq-eqb}
use Rattle.std.specs.Bool.{beq}
use Rattle.std.specs.Prelude.{map, filter, find, All, count_by, sum_by}
use Rattle.std.specs.List.{swap_remove}
use Rattle.std.specs.Option.{option_map, option_map_or, option_and_then, is_some}
use Rattle.std.proofs.lemmas.Bool.Decides.{nat_tests}
use Rattle.std.proofs.lemmas.List.Sums.{sum_by-cons, sum_by_push, sum_by-swap_remove, length-filter, count_by-le-length}
use Rattle.queue_core.specs.declared.rows.Hold.{Hold}
use Rattle.queue_core.specs.declared.rows.Hold.TheVariants.{Ready, Held}
use Rattle.queue_core.specs.declared.rows.Row.{Row}
use Rattle.queue_core.specs.declared.tally.Count.{Count}
use Rattle.std.proofs.lemmas.List.Elements.{All-head, All-tail}
use Rattle.queue_core.specs.declared.rows.Holder.{Holder}
use Rattle.queue_core.specs.Rows.{Ascends, with_hold, without, all_stored, entered, is_ready_hold, is_hold_of, is_held, has, has_held, holder_of, holder_in}
use Rattle.queue_core.specs.Copies.{Tallied, AgreesWith, tally_of, held_in, ArePositive, any_hold, is_held_hold}
use Rattle.queue_core.proofs.EntryLemmas.{hold_above, without_above}

-- 1 where the test passes
abbrev pub one : Bool → ℕ
one b = cond b 1 0

-- the rows in such a state
abbrev pub count_of : (Hold → Bool) → List Row → ℕ
count_of test rows = count_by (λ (row : Row). test row.hold) rows

-- the hold of a copy that is there
abbrev pub hold_of : ℕ → List Row → Option Hold
hold_of copy rows = option_map (λ (row : Row). row.hold) (find (λ row. row.copy == copy) rows)

pub count-cons : (test : Hold → Bool) (r : Row) (rows : List Row) → count_of test (r ∷ rows) ≡ one (test r.hold) + count_of test rows
count-cons test r rows = sum_by-cons (λ (row : Row). one (test row.hold)) r rows

or_false : (b : Bool) → (b || false) ≡ b
or_false true = refl
or_false false = refl

and_true : (b : Bool) → (b && true) ≡ b
and_true true = refl
and_true false = refl

and_false : (b : Bool) → (b && false) ≡ false
and_false true = refl
and_false false = refl

-- one copy's hold is changed
pub reheld : (test : Hold → Bool) (copy : ℕ) (old new : Hold) (rows : List Row) → Ascends rows → hold_of copy rows ≡ Some old → count_of test (map (with_hold copy new) rows) + one (test old) ≡ count_of test rows + one (test new)
reheld test copy old new [] rising there = cc
reheld test copy old new (r ∷ rows) rising there =
    elim (r.copy == copy) as (λ b. (r.copy == copy) ≡ b → option_map (λ (row : Row). row.hold) (cond b (Some r) (find (λ row. row.copy == copy) rows)) ≡ Some old → count_of test (record r { hold = cond b new r.hold } ∷ map (with_hold copy new) rows) + one (test old) ≡ count_of test (r ∷ rows) + one (test new)) [
      | true ↦ (λ same is.
          let here : r.copy ≡ copy = grind (arith, nat_tests, same) in
          let hold : r.hold ≡ old = cc in
          let rest : map (with_hold copy new) rows ≡ rows = hold_above copy new rows (subst (λ number. All (λ (row : Row). number < row.copy) rows) here rising.0) in
          let now = count-cons test (record r { hold = new }) (map (with_hold copy new) rows) in
          let was = count-cons test r rows in
          let a : count_of test (map (with_hold copy new) rows) ≡ count_of test rows = ap (count_of test) rest in
          let b : one (test r.hold) ≡ one (test old) = ap (λ hold. one (test hold)) hold in
          omega (arith, now, was, a, b))
      | false ↦ (λ _ is.
          let more = reheld test copy old new rows rising.1 is in
          let now = count-cons test r (map (with_hold copy new) rows) in
          let was = count-cons test r rows in
          omega (arith, more, now, was))
    ] refl there

-- one copy is removed
pub left : (test : Hold → Bool) (copy : ℕ) (old : Hold) (rows : List Row) → Ascends rows → hold_of copy rows ≡ Some old → count_of test (without copy rows) + one (test old) ≡ count_of test rows
left test copy old [] rising there = cc
left test copy old (r ∷ rows) rising there =
    elim (r.copy == copy) as (λ b. (r.copy == copy) ≡ b → option_map (λ (row : Row). row.hold) (cond b (Some r) (find (λ row. row.copy == copy) rows)) ≡ Some old → count_of test (cond (not b) (r ∷ without copy rows) (without copy rows)) + one (test old) ≡ count_of test (r ∷ rows)) [
      | true ↦ (λ same is.
          let here : r.copy ≡ copy = grind (arith, nat_tests, same) in
          let hold : r.hold ≡ old = cc in
          let rest : without copy rows ≡ rows = without_above copy rows (subst (λ number. All (λ (row : Row). number < row.copy) rows) here rising.0) in
          let was = count-cons test r rows in
          let a : count_of test (without copy rows) ≡ count_of test rows = ap (count_of test) rest in
          let b : one (test r.hold) ≡ one (test old) = ap (λ hold. one (test hold)) hold in
          omega (arith, was, a, b))
      | false ↦ (λ _ is.
          let more = left test copy old rows rising.1 is in
          let now = count-cons test r (without copy rows) in
          let was = count-cons test r rows in
          omega (arith, more, now, was))
    ] refl there

-- a copy that isn't there changes nothing
pub absent : (copy : ℕ) (new : Hold) (rows : List Row) → hold_of copy rows ≡ None → (map (with_hold copy new) rows ≡ rows) × (without copy rows ≡ rows)
absent copy new [] none = (refl, refl)
absent copy new (r ∷ rows) none =
    elim (r.copy == copy) as (λ b. option_map (λ (row : Row). row.hold) (cond b (Some r) (find (λ row. row.copy == copy) rows)) ≡ None → (record r { hold = cond b new r.hold } ∷ map (with_hold copy new) rows ≡ r ∷ rows) × (cond (not b) (r ∷ without copy rows) (without copy rows) ≡ r ∷ rows)) [
      | true ↦ (λ is. cc)
      | false ↦ (λ is. let rest = absent copy new rows is in (ap (λ list. r ∷ list) rest.0, ap (λ list. r ∷ list) rest.1))
    ] none

-- a copy that has the hold already keeps it
pub same_hold : (copy : ℕ) (hold : Hold) (rows : List Row) → Ascends rows → hold_of copy rows ≡ Some hold → map (with_hold copy hold) rows ≡ rows
same_hold copy hold [] rising there = refl
same_hold copy hold (r ∷ rows) rising there =
    elim (r.copy == copy) as (λ b. (r.copy == copy) ≡ b → option_map (λ (row : Row). row.hold) (cond b (Some r) (find (λ row. row.copy == copy) rows)) ≡ Some hold → record r { hold = cond b hold r.hold } ∷ map (with_hold copy hold) rows ≡ r ∷ rows) [
      | true ↦ (λ same is.
          let here : r.copy ≡ copy = grind (arith, nat_tests, same) in
          let its : hold ≡ r.hold = cc in
          ap (λ now. record r { hold = now } ∷ map (with_hold copy hold) rows) its
          ∙ ap (λ rest. r ∷ rest) (hold_above copy hold rows (subst (λ number. All (λ (row : Row). number < row.copy) rows) here rising.0)))
      | false ↦ (λ _ is. ap (λ rest. r ∷ rest) (same_hold copy hold rows rising.1 is))
    ] refl there

-- each hold is changed
pub count_over : (test : Hold → Bool) (change : Hold → Hold) (rows : List Row) → count_of test (map (λ (row : Row). record row { hold = change row.hold }) rows) ≡ count_of (λ hold. test (change hold)) rows
count_over test change [] = refl
count_over test change (r ∷ rows) =
    let now = count-cons test (record r { hold = change r.hold }) (map (λ (row : Row). record row { hold = change row.hold }) rows) in
    let was = count-cons (λ hold. test (change hold)) r rows in
    let rest = count_over test change rows in
    omega (arith, now, was, rest)

-- those that are held are kept
pub count_held : (test : Hold → Bool) (rows : List Row) → count_of test (filter (λ row. is_held_hold row.hold) rows) ≡ count_of (λ hold. test hold && is_held_hold hold) rows
count_held test [] = refl
count_held test (r ∷ rows) =
    let was = count-cons (λ hold. test hold && is_held_hold hold) r rows in
    let rest = count_held test rows in
    elim (is_held_hold r.hold) as (λ b. is_held_hold r.hold ≡ b → count_of test (cond b (r ∷ filter (λ row. is_held_hold row.hold) rows) (filter (λ row. is_held_hold row.hold) rows)) ≡ count_of (λ hold. test hold && is_held_hold hold) (r ∷ rows)) [
      | true ↦ (λ held.
          let now = count-cons test r (filter (λ row. is_held_hold row.hold) rows) in
          let same : one (test r.hold && is_held_hold r.hold) ≡ one (test r.hold) = ap (λ b. one (test r.hold && b)) held ∙ ap one (and_true (test r.hold)) in
          omega (arith, now, was, rest, same))
      | false ↦ (λ ready.
          let none : one (test r.hold && is_held_hold r.hold) ≡ 0 = ap (λ b. one (test r.hold && b)) ready ∙ ap one (and_false (test r.hold)) in
          omega (arith, was, rest, none))
    ] refl

pub count_all : (rows : List Row) → count_of any_hold rows ≡ length rows
count_all [] = refl
count_all (r ∷ rows) = let was = count-cons any_hold r rows in let rest = count_all rows in omega (arith, was, rest)

-- ---- the counts of the holders

pub held_in-cons : (test : Hold → Bool) (c : Count) (counts : List Count) → held_in test (c ∷ counts) ≡ cond (test (Held c.holder)) c.copies 0 + held_in test counts
held_in-cons test c counts = sum_by-cons (λ (count : Count). cond (test (Held count.holder)) count.copies 0) c counts

pub none_ready : (counts : List Count) → held_in is_ready_hold counts ≡ 0
none_ready [] = refl
none_ready (c ∷ counts) = let was = held_in-cons is_ready_hold c counts in let rest = none_ready counts in omega (arith, was, rest)

-- no more holders than copies that are held
pub few : (counts : List Count) → ArePositive counts → length counts ≤ held_in is_held_hold counts
few [] positive = omega arith
few (c ∷ counts) positive =
    let was = held_in-cons is_held_hold c counts in
    let one = All-head (λ (count : Count). 1 ≤ count.copies) c counts positive in
    let rest = few counts (All-tail (λ (count : Count). 1 ≤ count.copies) c counts positive) in
    omega (arith, was, one, rest)

freed_step : (ready now : Bool) (copies whole rest all kept_all kept_test every : ℕ) → now ≡ ready → whole ≡ cond now copies 0 + rest → every ≡ copies + all → rest + cond ready kept_all 0 ≡ kept_test + cond ready all 0 → whole + cond ready kept_all 0 ≡ kept_test + cond ready every 0
freed_step true now copies whole rest all kept_all kept_test every is a b c = let now_is = (rw is at a) in omega (arith, now_is, b, c)
freed_step false now copies whole rest all kept_all kept_test every is a b c = let now_is = (rw is at a) in omega (arith, now_is, b, c)

kept_step : (ready test now : Bool) (copies whole rest all kept_all kept_test every kept_now kept_every : ℕ) → now ≡ test → whole ≡ cond now copies 0 + rest → every ≡ copies + all → kept_now ≡ cond test copies 0 + kept_test → kept_every ≡ copies + kept_all → rest + cond ready kept_all 0 ≡ kept_test + cond ready all 0 → whole + cond ready kept_every 0 ≡ kept_now + cond ready every 0
kept_step true test now copies whole rest all kept_all kept_test every kept_now kept_every is a b c d e = let now_is = (rw is at a) in omega (arith, now_is, b, c, d, e)
kept_step false test now copies whole rest all kept_all kept_test every kept_now kept_every is a b c d e = let now_is = (rw is at a) in omega (arith, now_is, b, c, d, e)

-- some holders go, and what they held is ready
pub freed_counts : (gone : Holder → Bool) (change : Hold → Hold) → ((holder : Holder) → change (Held holder) ≡ cond (gone holder) Ready (Held holder)) → (test : Hold → Bool) (counts : List Count)
    → held_in (λ hold. test (change hold)) counts + cond (test Ready) (held_in any_hold (filter (λ count. not (gone count.holder)) counts)) 0
    ≡ held_in test (filter (λ count. not (gone count.holder)) counts) + cond (test Ready) (held_in any_hold counts) 0
freed_counts gone change says test [] = refl
freed_counts gone change says test (c ∷ counts) =
    let kept : List Count = filter (λ count. not (gone count.holder)) counts in
    let rest = freed_counts gone change says test counts in
    let now = held_in-cons (λ hold. test (change hold)) c counts in
    let is : test (change (Held c.holder)) ≡ test (cond (gone c.holder) Ready (Held c.holder)) = ap test (says c.holder) in
    let all = held_in-cons any_hold c counts in
    elim (gone c.holder) as (λ b. test (change (Held c.holder)) ≡ test (cond b Ready (Held c.holder)) → held_in (λ hold. test (change hold)) (c ∷ counts) + cond (test Ready) (held_in any_hold (cond (not b) (c ∷ kept) kept)) 0 ≡ held_in test (cond (not b) (c ∷ kept) kept) + cond (test Ready) (held_in any_hold (c ∷ counts)) 0) [
      | true ↦ (λ is. freed_step (test Ready) (test (change (Held c.holder))) c.copies _ _ _ _ _ _ is now all rest)
      | false ↦ (λ is. kept_step (test Ready) (test (Held c.holder)) (test (change (Held c.holder))) c.copies _ _ _ _ _ _ _ _ is now all (held_in-cons test c kept) (held_in-cons any_hold c kept) rest)
    ] is

pub fewer_kept : (test : Count → Bool) (counts : List Count) → held_in any_hold (filter test counts) ≤ held_in any_hold counts
fewer_kept test [] = omega arith
fewer_kept test (c ∷ counts) =
    let rest = fewer_kept test counts in
    let was = held_in-cons any_hold c counts in
    let now = held_in-cons any_hold c (filter test counts) in
    elim (test c) as (λ b. held_in any_hold (cond b (c ∷ filter test counts) (filter test counts)) ≤ held_in any_hold (c ∷ counts)) [ true ↦ omega (arith, rest, was, now) | false ↦ omega (arith, rest, was) ]

-- what is counted once they are gone
pub freed_tally : (ready : Bool) (before total left was now : ℕ) → left ≤ total → was + cond ready left 0 ≡ now + cond ready total 0 → cond ready (before + total - left) 0 + now ≡ cond ready before 0 + was
freed_tally true before total left was now within is = omega (arith, within, is)
freed_tally false before total left was now within is = omega (arith, within, is)

only_held : (test : Hold → Bool) (counts : List Count) → held_in (λ hold. test hold && is_held_hold hold) counts ≡ held_in test counts
only_held test [] = refl
only_held test (c ∷ counts) =
    let both = held_in-cons (λ hold. test hold && is_held_hold hold) c counts in
    let alone = held_in-cons test c counts in
    let rest = only_held test counts in
    let same : cond (test (Held c.holder) && true) c.copies 0 ≡ cond (test (Held c.holder)) c.copies 0 = ap (λ b. cond b c.copies 0) (and_true (test (Held c.holder))) in
    omega (arith, both, alone, rest, same)

-- what is counted without the ready copies
pub dropped : (test : Hold → Bool) (ready : ℕ) (counts : List Count) → cond (test Ready) 0 0 + held_in test counts ≡ cond (test Ready && false) ready 0 + held_in (λ hold. test hold && is_held_hold hold) counts
dropped test ready counts =
    let rest = only_held test counts in
    elim (test Ready) as (λ b. cond b 0 0 + held_in test counts ≡ cond (b && false) ready 0 + held_in (λ hold. test hold && is_held_hold hold) counts) [ true ↦ omega (arith, rest) | false ↦ omega (arith, rest) ]

pub ready_alone : (ready : ℕ) (counts : List Count) → ready ≡ ready + held_in is_ready_hold counts
ready_alone ready counts = let none = none_ready counts in omega (arith, none)

-- one ready copy less
pub one_ready_less : (ready : Bool) (before held : ℕ) → 1 ≤ before → cond ready (before - 1) 0 + held + cond ready 1 0 ≡ cond ready before 0 + held
one_ready_less true before held some = omega (arith, some)
one_ready_less false before held some = omega arith

-- one copy of a holder less, which was its last
pub last_less : (test : Hold → Bool) (counts : List Count) (place : ℕ) (other : Count) (holder : Holder) → place < length counts → (get_or counts place other).holder ≡ holder → (get_or counts place other).copies ≡ 1 → held_in test (swap_remove counts place other) + cond (test (Held holder)) 1 0 ≡ held_in test counts
last_less test counts place other holder within its last =
    let all = sum_by-swap_remove (λ (count : Count). cond (test (Held count.holder)) count.copies 0) counts place other within in
    let one : cond (test (Held (get_or counts place other).holder)) (get_or counts place other).copies 0 ≡ cond (test (Held holder)) 1 0 = ap (λ holder. cond (test (Held holder)) (get_or counts place other).copies 0) its ∙ ap (λ n. cond (test (Held holder)) n 0) last in
    omega (arith, all, one)

pub part : (b : Bool) (n : ℕ) → cond b n 0 ≤ n
part true n = omega arith
part false n = omega arith

-- ---- what is counted, and the rows

pub count_stored : (test : Hold → Bool) (rows : List Row) → count_of test (all_stored rows) ≡ count_of test rows
count_stored test [] = refl
count_stored test (r ∷ rows) =
    let now = count-cons test (record r { stored = true }) (all_stored rows) in
    let was = count-cons test r rows in
    let rest = count_stored test rows in
    omega (arith, now, was, rest)

pub held_within : (t : Tallied) → tally_of is_held_hold t ≤ tally_of any_hold t
held_within t = omega arith

same_self : (holder : Holder) → is_hold_of holder (Held holder) ≡ true
same_self holder =
    ap (λ b. (b && (holder.number == holder.number)) && (holder.part == holder.part)) (elim holder.link as (λ b. beq b b ≡ true) [ true ↦ refl | false ↦ refl ])
    ∙ ap (λ b. b && (holder.part == holder.part)) (eq-eqb holder.number holder.number refl) ∙ eq-eqb holder.part holder.part refl

counts_one : (test : Hold → Bool) (copy : ℕ) (hold : Hold) (rows : List Row) → Ascends rows → hold_of copy rows ≡ Some hold → test hold ≡ true → 1 ≤ count_of test rows
counts_one test copy hold rows rising there passes =
    let all = left test copy hold rows rising there in
    let one : one (test hold) ≡ 1 = ap one passes in
    omega (arith, all, one)

-- a copy that is there is counted
pub counted_hold : (copy : ℕ) (hold : Hold) (rows : List Row) (first : Option ℕ) (t : Tallied) → AgreesWith rows first t → hold_of copy rows ≡ Some hold → (is_ready_hold hold ≡ true → 1 ≤ tally_of is_ready_hold t) × ((holder : Holder) → hold ≡ Held holder → 1 ≤ tally_of (is_hold_of holder) t)
counted_hold copy hold rows first t agrees there = (
  λ ready. let one = counts_one is_ready_hold copy hold rows agrees.rising there ready in let same = agrees.counts is_ready_hold in omega (arith, one, same),
  λ holder is. let one = counts_one (is_hold_of holder) copy hold rows agrees.rising there (ap (is_hold_of holder) is ∙ same_self holder) in let same = agrees.counts (is_hold_of holder) in omega (arith, one, same),
)

-- once one copy is taken out of the counts there is room for one
pub room_left : (hold : Hold) (rows : List Row) (first : Option ℕ) (was now : Tallied) → AgreesWith rows first was → ((test : Hold → Bool) → tally_of test now + one (test hold) ≡ tally_of test was) → now.room ≡ was.room → (tally_of any_hold now + 1 < 2 ^ 64) × (tally_of is_held_hold now < now.room)
room_left hold rows first was now agrees taken room =
    let all = taken any_hold in
    let same = agrees.counts any_hold in
    let whole = count_all rows in
    let fits = agrees.fits in
    let enough = agrees.room in
    let within = held_within now in
    (omega (arith, all, same, whole, fits), omega (arith, all, same, whole, enough, within, room))

-- one hold is changed, in the rows and in the counts
pub counts_reheld : (copy : ℕ) (old new : Hold) (rows : List Row) (first : Option ℕ) (was mid now : Tallied) → AgreesWith rows first was → hold_of copy rows ≡ Some old → ((test : Hold → Bool) → tally_of test mid + one (test old) ≡ tally_of test was) → ((test : Hold → Bool) → tally_of test now ≡ tally_of test mid + one (test new)) → (test : Hold → Bool) → tally_of test now ≡ count_of test (map (with_hold copy new) rows)
counts_reheld copy old new rows first was mid now agrees there taken put test =
    let less = taken test in
    let more = put test in
    let same = agrees.counts test in
    let changed = reheld test copy old new rows agrees.rising there in
    omega (arith, less, more, same, changed)

-- ---- the questions about one copy, by its hold

pub has-by_hold : (copy : ℕ) (rows : List Row) → has copy rows ≡ is_some (hold_of copy rows)
has-by_hold copy [] = refl
has-by_hold copy (r ∷ rows) =
    elim (r.copy == copy) as (λ b. (b || has copy rows) ≡ is_some (option_map (λ (row : Row). row.hold) (cond b (Some r) (find (λ row. row.copy == copy) rows)))) [ true ↦ refl | false ↦ has-by_hold copy rows ]

pub found-by_hold : (copy : ℕ) (rows : List Row) → is_some (find (λ row. row.copy == copy) rows) ≡ is_some (hold_of copy rows)
found-by_hold copy rows = elim (find (λ row. row.copy == copy) rows) as (λ found. is_some found ≡ is_some (option_map (λ (row : Row). row.hold) found)) [ None ↦ refl | Some row ↦ refl ]

pub holder-by_hold : (copy : ℕ) (rows : List Row) → holder_of copy rows ≡ option_and_then holder_in (hold_of copy rows)
holder-by_hold copy [] = refl
holder-by_hold copy (r ∷ rows) =
    elim (r.copy == copy) as (λ b. option_and_then (λ (row : Row). holder_in row.hold) (cond b (Some r) (find (λ row. row.copy == copy) rows)) ≡ option_and_then holder_in (option_map (λ (row : Row). row.hold) (cond b (Some r) (find (λ row. row.copy == copy) rows)))) [ true ↦ refl | false ↦ holder-by_hold copy rows ]

none_above : (copy : ℕ) (rows : List Row) → All (λ row. copy < row.copy) rows → has_held copy rows ≡ false
none_above copy [] above = refl
none_above copy (r ∷ rows) above =
    let apart : (r.copy == copy) ≡ false = let less = All-head (λ (row : Row). copy < row.copy) r rows above in grind (arith, nat_tests, less) in
    ap (λ b. (b && is_held r) || has_held copy rows) apart ∙ none_above copy rows (All-tail (λ (row : Row). copy < row.copy) r rows above)

pub held-by_hold : (copy : ℕ) (rows : List Row) → Ascends rows → has_held copy rows ≡ option_map_or is_held_hold (hold_of copy rows) false
held-by_hold copy [] rising = refl
held-by_hold copy (r ∷ rows) rising =
    elim (r.copy == copy) as (λ b. (r.copy == copy) ≡ b → ((b && is_held r) || has_held copy rows) ≡ option_map_or is_held_hold (option_map (λ (row : Row). row.hold) (cond b (Some r) (find (λ row. row.copy == copy) rows))) false) [
      | true ↦ (λ same.
          let here : r.copy ≡ copy = grind (arith, nat_tests, same) in
          ap (λ b. is_held r || b) (none_above copy rows (subst (λ number. All (λ (row : Row). number < row.copy) rows) here rising.0)) ∙ or_false (is_held r))
      | false ↦ (λ _. held-by_hold copy rows rising.1)
    ] refl

held_hold : (holder : Holder) (hold : Option Hold) → option_and_then holder_in hold ≡ Some holder → hold ≡ Some (Held holder)
held_hold holder None is = cc
held_hold holder (Some Ready) is = cc
held_hold holder (Some (Held other)) is = cc

-- a holder holds the copy
pub held_there : (copy : ℕ) (holder : Holder) (rows : List Row) → holder_of copy rows ≡ Some holder → hold_of copy rows ≡ Some (Held holder)
held_there copy holder rows is = held_hold holder (hold_of copy rows) (sym (holder-by_hold copy rows) ∙ is)

not_held_hold : (copy : ℕ) (rows : List Row) → Ascends rows → (hold : Option Hold) → hold_of copy rows ≡ hold → option_and_then holder_in hold ≡ None → (has_held copy rows ≡ false) × (map (with_hold copy Ready) rows ≡ rows)
not_held_hold copy rows rising None is none = (held-by_hold copy rows rising ∙ ap (λ hold. option_map_or is_held_hold hold false) is, (absent copy Ready rows is).0)
not_held_hold copy rows rising (Some Ready) is none = (held-by_hold copy rows rising ∙ ap (λ hold. option_map_or is_held_hold hold false) is, same_hold copy Ready rows rising is)
not_held_hold copy rows rising (Some (Held other)) is none = cc

-- nobody holds the copy, or it isn't there
pub not_held : (copy : ℕ) (rows : List Row) → Ascends rows → holder_of copy rows ≡ None → (has_held copy rows ≡ false) × (map (with_hold copy Ready) rows ≡ rows)
not_held copy rows rising none = not_held_hold copy rows rising (hold_of copy rows) refl (sym (holder-by_hold copy rows) ∙ none)

pub count-entered : (test : Hold → Bool) (copy : ℕ) (rows : List Row) → count_of test (rows ++ entered copy ∷ []) ≡ count_of test rows + one (test Ready)
count-entered test copy rows = sum_by_push (λ (row : Row). one (test row.hold)) rows (entered copy)

pub shorter : (test : Row → Bool) (rows : List Row) → length (filter test rows) ≤ length rows
shorter test rows = rw (length-filter test rows) (count_by-le-length test rows)
