-- What keeps a message for each copy of a queue.
use Rattle.std.proofs.Common.{◌≡◌, ℕ, ◌==◌, Bool, true, false, cond, not, List, [], ◌∷◌, Option, Some, None, is_some, Bor, refl, ap, sym, ◌∙◌, eq-eqb}
use Rattle.std.specs.Prelude.{map, filter, find, All, ◌||◌}
use Rattle.std.specs.Option.{option_map, option_and_then, option_copied}
use Rattle.std.proofs.lemmas.Bool.{true≢false, false≢true}
use Rattle.std.proofs.lemmas.List.Elements.{All-nil, All-cons, All-head, All-tail, All-filter, All-map, All-weaker}
use Rattle.queue_core.specs.declared.rows.Row.{Row}
use Rattle.queue_core.specs.declared.rows.Hold.{Hold}
use Rattle.queue_core.specs.declared.rows.Hold.TheVariants.{Ready, Held}
use Rattle.queue_core.specs.Rows.{is_ready, is_held, holder_of, holder_in, has, first_ready}
use Rattle.broker_store.specs.declared.mailbox.CopyMessage.{CopyMessage}
use Rattle.broker_store.specs.Mail.{HaveMessages, is_copy, has_copy, copy_of, as_seen}
use borrow.Author.Tests.{eqb-true}

-- a change of rows that keeps their numbers
pub same_numbers : (change : Row → Row) → ((row : Row) → (change row).copy ≡ row.copy) → (rows : List Row) (copies : List (CopyMessage ℕ)) → HaveMessages rows copies → HaveMessages (map change rows) copies
same_numbers change same rows copies h =
    All-map (λ row. has_copy row.copy copies ≡ true) change rows (All-weaker (λ row. has_copy row.copy copies ≡ true) (λ row. has_copy (change row).copy copies ≡ true) (λ row e. rw (same row) e) rows h)

pub seen_too : (number n : ℕ) (copies : List (CopyMessage ℕ)) → has_copy n (map (as_seen number) copies) ≡ has_copy n copies
seen_too number n [] = refl
seen_too number n (copy ∷ copies) = ap (λ b. is_copy n copy || b) (seen_too number n copies)

-- once it was handed out, too
pub seen_all : (number : ℕ) (rows : List Row) (copies : List (CopyMessage ℕ)) → HaveMessages rows copies → HaveMessages rows (map (as_seen number) copies)
seen_all number rows copies h = All-weaker (λ row. has_copy row.copy copies ≡ true) (λ row. has_copy row.copy (map (as_seen number) copies) ≡ true) (λ row e. seen_too number row.copy copies ∙ e) rows h

-- the copies of that number all stay
pub has_kept : (test : CopyMessage ℕ → Bool) (n : ℕ) (copies : List (CopyMessage ℕ)) → ((copy : CopyMessage ℕ) → copy.number ≡ n → test copy ≡ true) → has_copy n copies ≡ true → has_copy n (filter test copies) ≡ true
has_kept test n [] stay h = h
has_kept test n (copy ∷ copies) stay h =
    elim (test copy) as (λ b. test copy ≡ b → has_copy n (cond b (copy ∷ filter test copies) (filter test copies)) ≡ true) [
      | true ↦ (λ _. elim (copy.number == n) as (λ b. (b || has_copy n copies) ≡ true → (b || has_copy n (filter test copies)) ≡ true) [ true ↦ (λ _. refl) | false ↦ has_kept test n copies stay ] h)
      | false ↦ (λ off. elim (copy.number == n) as (λ b. (copy.number == n) ≡ b → (b || has_copy n copies) ≡ true → has_copy n (filter test copies) ≡ true) [
        | true ↦ (λ is _. absurd (true≢false (sym (stay copy (eqb-true _ _ is)) ∙ off)))
        | false ↦ (λ _ rest. has_kept test n copies stay rest)
      ] refl h)
    ] refl

-- each of the rows that stay has what each row has, and passes the test
pub filter_all : (P : Row → Type 0) (Q : Row → Type 0) (test : Row → Bool) → ((row : Row) → P row → test row ≡ true → Q row) → (rows : List Row) → All P rows → All Q (filter test rows)
filter_all P Q test step [] h = All-nil Q
filter_all P Q test step (row ∷ rows) h =
    let rest = filter_all P Q test step rows (All-tail P row rows h) in
    elim (test row) as (λ b. test row ≡ b → All Q (cond b (row ∷ filter test rows) (filter test rows))) [
      | true ↦ (λ on. All-cons Q row (filter test rows) (step row (All-head P row rows h) on) rest)
      | false ↦ (λ _. rest)
    ] refl

-- what is left once a copy has gone
pub without_it : (number : ℕ) (rows : List Row) (copies : List (CopyMessage ℕ)) → HaveMessages rows copies → HaveMessages (filter (λ row. not (row.copy == number)) rows) (filter (λ copy. not (copy.number == number)) copies)
without_it number rows copies h =
    filter_all (λ row. has_copy row.copy copies ≡ true) (λ row. has_copy row.copy (filter (λ copy. not (copy.number == number)) copies) ≡ true) (λ row. not (row.copy == number)) (λ row e on. has_kept (λ copy. not (copy.number == number)) row.copy copies (λ copy is. rw is on) e) rows h

-- a row that is held is the row of a copy that is held
pub held_row : (rows : List Row) → All (λ row. is_held row ≡ true) rows → (n : ℕ) → has n rows ≡ true → is_some (holder_of n rows) ≡ true
held_row [] all n h = absurd (false≢true h)
held_row (row ∷ rows) all n h =
    elim (row.copy == n) as (λ b. (b || has n rows) ≡ true → is_some (option_and_then (λ (r : Row). holder_in r.hold) (cond b (Some row) (find (λ r. r.copy == n) rows))) ≡ true) [
      | true ↦ (λ _. held_hold row.hold (All-head (λ row. is_held row ≡ true) row rows all))
      | false ↦ (λ rest. held_row rows (All-tail (λ row. is_held row ≡ true) row rows all) n rest)
    ] h
  where
    held_hold : (hold : Hold) → not (is_ready (record { copy = 0; hold = hold; stored = false })) ≡ true → is_some (holder_in hold) ≡ true
    held_hold Ready e = absurd (false≢true e)
    held_hold (Held holder) e = refl

pub each_has : (rows : List Row) → All (λ row. has row.copy rows ≡ true) rows
each_has [] = All-nil (λ row. has row.copy [] ≡ true)
each_has (row ∷ rows) =
    All-cons (λ r. has r.copy (row ∷ rows) ≡ true) row rows (ap (λ b. b || has row.copy rows) (eq-eqb row.copy row.copy refl)) (All-weaker (λ r. has r.copy rows ≡ true) (λ r. has r.copy (row ∷ rows) ≡ true) (λ r e. either (row.copy == r.copy) (has r.copy rows) e) rows (each_has rows))
  where
    either : (a b : Bool) → b ≡ true → (a || b) ≡ true
    either true b e = refl
    either false b e = e

-- the rows that are held have their messages among the copies that are held
pub held_ones : (rows : List Row) (copies : List (CopyMessage ℕ)) → HaveMessages rows copies → HaveMessages (filter is_held rows) (filter (λ copy. is_some (holder_of copy.number (filter is_held rows))) copies)
held_ones rows copies h =
    let kept = filter is_held rows in
    let held : All (λ row. is_held row ≡ true) kept = filter_all (λ row. has_copy row.copy copies ≡ true) (λ row. is_held row ≡ true) is_held (λ row _ on. on) rows h in
    let there : All (λ row. has_copy row.copy copies ≡ true) kept = All-filter is_held (λ row. has_copy row.copy copies ≡ true) rows h in
    both kept (each_has kept) there held
  where
    both : (kept : List Row) → All (λ row. has row.copy kept ≡ true) kept → All (λ row. has_copy row.copy copies ≡ true) kept → All (λ row. is_held row ≡ true) kept → HaveMessages kept (filter (λ copy. is_some (holder_of copy.number kept)) copies)
    both kept own there held = join kept own there
      where
        join : (some : List Row) → All (λ row. has row.copy kept ≡ true) some → All (λ row. has_copy row.copy copies ≡ true) some → All (λ row. has_copy row.copy (filter (λ copy. is_some (holder_of copy.number kept)) copies) ≡ true) some
        join [] a b = All-nil (λ row. has_copy row.copy (filter (λ copy. is_some (holder_of copy.number kept)) copies) ≡ true)
        join (row ∷ some) a b =
            All-cons (λ r. has_copy r.copy (filter (λ copy. is_some (holder_of copy.number kept)) copies) ≡ true) row some
            (has_kept (λ copy. is_some (holder_of copy.number kept)) row.copy copies (λ copy is. held_row kept held copy.number (rw is (All-head (λ r. has r.copy kept ≡ true) row some a))) (All-head (λ r. has_copy r.copy copies ≡ true) row some b))
            (join some (All-tail (λ r. has r.copy kept ≡ true) row some a) (All-tail (λ r. has_copy r.copy copies ≡ true) row some b))

-- what is ready has a message
pub first_there : (rows : List Row) (copies : List (CopyMessage ℕ)) → HaveMessages rows copies → option_map (λ (copy : CopyMessage ℕ). copy.number) (option_and_then (λ number. copy_of number copies) (first_ready rows)) ≡ first_ready rows
first_there [] copies h = refl
first_there (row ∷ rows) copies h =
    elim (is_ready row) as (λ b. option_map (λ (copy : CopyMessage ℕ). copy.number) (option_and_then (λ number. copy_of number copies) (option_map (λ (r : Row). r.copy) (cond b (Some row) (find is_ready rows)))) ≡ option_map (λ (r : Row). r.copy) (cond b (Some row) (find is_ready rows))) [
      | true ↦ numbered row.copy copies (All-head (λ r. has_copy r.copy copies ≡ true) row rows h)
      | false ↦ first_there rows copies (All-tail (λ r. has_copy r.copy copies ≡ true) row rows h)
    ]
  where
    numbered : (n : ℕ) (copies : List (CopyMessage ℕ)) → has_copy n copies ≡ true → option_map (λ (copy : CopyMessage ℕ). copy.number) (copy_of n copies) ≡ Some n
    numbered n [] e = absurd (false≢true e)
    numbered n (copy ∷ copies) e =
        elim (copy.number == n) as (λ b. (copy.number == n) ≡ b → (b || has_copy n copies) ≡ true → option_map (λ (k : CopyMessage ℕ). k.number) (cond b (Some copy) (find (is_copy n) copies)) ≡ Some n) [
          | true ↦ (λ is _. ap Some (eqb-true _ _ is))
          | false ↦ (λ _ rest. numbered n copies rest)
        ] refl e

pub copied : (found : Option (Bor (CopyMessage ℕ))) → option_map (λ copy. copy.now.number) found ≡ option_map (λ (copy : CopyMessage ℕ). copy.number) (option_copied found)
copied None = refl
copied (Some copy) = refl
