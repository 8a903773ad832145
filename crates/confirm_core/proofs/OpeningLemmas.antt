-- The openings of a ledger, as a map by rising opening keeps them.
use Rattle.std.proofs.Common.{◌≡◌, ℕ, ◌+◌, ◌<◌, ◌≤◌, ◌==◌, ◌&&◌, ◌||◌, Bool, true, false, not, cond, List, [], ◌∷◌, ◌++◌, length, Some, None, map, refl, ap, sym, ◌∙◌, arith}
use Rattle.std.specs.Prelude.{All, filter, count_by}
use Rattle.std.specs.List.Sorted.{IsStrictlySortedBy}
use Rattle.std.specs.Map.{lookup, set_value, remove_entry, keys_of}
use Rattle.std.specs.BTreeMap.{insert_entry, is_at}
use Rattle.std.specs.declared.cmp.Ordering.TheVariants.{Less, Greater}
use Rattle.std.specs.Ordering.{nat_cmp}
use Rattle.std.proofs.lemmas.Bool.Decides.{nat_tests}
use Rattle.std.proofs.lemmas.Bool.{false≢true}
use Rattle.std.proofs.lemmas.Map.Keys.{sorted_head, sorted_tail}
use Rattle.std.proofs.lemmas.List.{map-append}
use Rattle.std.proofs.lemmas.List.Sums.{count_by-le-length, sum_by_push}
use Rattle.std.proofs.lemmas.Map.Entries.{length-values_of, sum_by-set_value, sum_by-remove_entry}
use Rattle.std.proofs.lemmas.List.Elements.{All-head, All-tail, All-from_recursion, All-weaker}
use Rattle.confirm_core.proofs.NumberLemmas.{none-above}
use Rattle.confirm_core.specs.Waits.{Unconfirmed, waits_for_nothing, without_wait, ready_numbers}
use Rattle.confirm_core.specs.Openings.{has, Ascends, unconfirmed, is_waiting, released_at, without_number}

-- ---- keys by a number
pub at-is : (opening key : ℕ) → is_at (nat_cmp opening) key ≡ (opening == key)
at-is opening key = grind (arith, nat_tests)

above-is : (opening key : ℕ) → key < opening → nat_cmp opening key ≡ Greater
above-is opening key lt = grind (arith, nat_tests)

-- ---- an entry at the end
pub insert_entry-push : (opening : ℕ) (publication : Unconfirmed) (es : List (ℕ × Unconfirmed)) → All (λ e. e.0 < opening) es → insert_entry nat_cmp es opening publication ≡ es ++ (opening, publication) ∷ []
insert_entry-push opening publication [] below = refl
insert_entry-push opening publication (e ∷ es) below =
    let P : ℕ × Unconfirmed → Type 0 = λ e. e.0 < opening in
    rw (above-is opening e.0 (All-head P e es below)) (ap (λ rest. e ∷ rest) (insert_entry-push opening publication es (All-tail P e es below)))

-- ---- keys that rise
less-is : (a b : ℕ) → nat_cmp a b ≡ Less → a < b
less-is a b less = grind (arith, nat_tests)

pub Ascends-from_sorted : (keys : List ℕ) → IsStrictlySortedBy nat_cmp keys → Ascends keys
Ascends-from_sorted [] sorted = tt
Ascends-from_sorted (key ∷ keys) sorted = (
  All-weaker (λ later. nat_cmp key later ≡ Less) (λ later. key < later) (less-is key) keys (All-from_recursion (λ later. nat_cmp key later ≡ Less) keys (sorted_head nat_cmp key keys sorted)),
  Ascends-from_sorted keys (sorted_tail nat_cmp key keys sorted),
)

or_false : (a b : Bool) → (a || b) ≡ false → (a ≡ false) × (b ≡ false)
or_false true b h = absurd (false≢true (sym h))
or_false false b h = (refl, h)

pub apart-flip : (a b : ℕ) → (a == b) ≡ false → (b == a) ≡ false
apart-flip a b h = grind (arith, nat_tests)

same-le : (a b : ℕ) → (a == b) ≡ true → a ≤ b
same-le a b h = grind (arith, nat_tests)

-- no later entry has the key of the first
none-later : (opening : ℕ) (e : ℕ × Unconfirmed) (es : List (ℕ × Unconfirmed)) → Ascends (keys_of (e ∷ es)) → (opening == e.0) ≡ true → has opening (keys_of es) ≡ false
none-later opening e es rises same = none-above e.0 opening (keys_of es) rises.0 (same-le opening e.0 same)

-- ---- one entry is written
released-away : (opening copy : ℕ) (es : List (ℕ × Unconfirmed)) → has opening (keys_of es) ≡ false → map (released_at opening copy) es ≡ es
released-away opening copy [] away = refl
released-away opening copy (e ∷ es) away =
    let parts = or_false (e.0 == opening) (has opening (keys_of es)) away in
    rw (apart-flip e.0 opening parts.0) (ap (λ rest. e ∷ rest) (released-away opening copy es parts.1))

released_set_step : (opening copy : ℕ) (e : ℕ × Unconfirmed) (es : List (ℕ × Unconfirmed)) (p : Unconfirmed) (b : Bool) → is_at (nat_cmp opening) e.0 ≡ b → (opening == e.0) ≡ b
    → (b ≡ true → map (released_at opening copy) es ≡ es)
    → (lookup (is_at (nat_cmp opening)) es ≡ Some p → set_value (is_at (nat_cmp opening)) es (without_wait copy p) ≡ map (released_at opening copy) es)
    → lookup (is_at (nat_cmp opening)) (e ∷ es) ≡ Some p
    → set_value (is_at (nat_cmp opening)) (e ∷ es) (without_wait copy p) ≡ map (released_at opening copy) (e ∷ es)
released_set_step opening copy e es p true here same away rest found =
    let value : Some e.1 ≡ Some p = rw here at found in
    let is : e.1 ≡ p = cc in
    let later = away refl in
    rw (here, same, is, later) refl
released_set_step opening copy e es p false here same away rest found =
    let later = rest (rw here at found) in
    rw (here, same) (ap (λ tail. e ∷ tail) later)

pub released-set : (opening copy : ℕ) (es : List (ℕ × Unconfirmed)) (p : Unconfirmed) → Ascends (keys_of es) → lookup (is_at (nat_cmp opening)) es ≡ Some p → set_value (is_at (nat_cmp opening)) es (without_wait copy p) ≡ map (released_at opening copy) es
released-set opening copy [] p rises found = refl
released-set opening copy (e ∷ es) p rises found =
    released_set_step opening copy e es p (opening == e.0) (at-is opening e.0) refl (λ same. released-away opening copy es (none-later opening e es rises same)) (released-set opening copy es p rises.1) found

released_none_step : (opening copy : ℕ) (e : ℕ × Unconfirmed) (es : List (ℕ × Unconfirmed)) (b : Bool) → is_at (nat_cmp opening) e.0 ≡ b → (opening == e.0) ≡ b
    → (lookup (is_at (nat_cmp opening)) es ≡ None → map (released_at opening copy) es ≡ es)
    → lookup (is_at (nat_cmp opening)) (e ∷ es) ≡ None → map (released_at opening copy) (e ∷ es) ≡ e ∷ es
released_none_step opening copy e es true here same rest missed = let found : Some e.1 ≡ None = rw here at missed in cc
released_none_step opening copy e es false here same rest missed =
    let later = rest (rw here at missed) in
    rw same (ap (λ tail. e ∷ tail) later)

pub released-none : (opening copy : ℕ) (es : List (ℕ × Unconfirmed)) → lookup (is_at (nat_cmp opening)) es ≡ None → map (released_at opening copy) es ≡ es
released-none opening copy [] missed = refl
released-none opening copy (e ∷ es) missed =
    released_none_step opening copy e es (opening == e.0) (at-is opening e.0) refl (released-none opening copy es) missed

-- ---- the ready numbers
-- a publication puts its number among the ready ones where it waits for nothing
abbrev pub gives : ℕ → Unconfirmed → Bool
gives n publication = waits_for_nothing publication && (publication.number == n)

has_cond : (n : ℕ) (b : Bool) (p : Unconfirmed) (rest : List Unconfirmed) → has n (map (λ (publication : Unconfirmed). publication.number) (cond b (p ∷ rest) rest)) ≡ ((b && (p.number == n)) || has n (map (λ (publication : Unconfirmed). publication.number) rest))
has_cond n true p rest = refl
has_cond n false p rest = refl

has-ready-cons : (n : ℕ) (p : Unconfirmed) (rest : List Unconfirmed) → has n (ready_numbers (p ∷ rest)) ≡ (gives n p || has n (ready_numbers rest))
has-ready-cons n p rest = has_cond n (waits_for_nothing p) p (filter waits_for_nothing rest)

or_swap : (a b c : Bool) → (a || (b || c)) ≡ (b || (a || c))
or_swap true true c = refl
or_swap true false c = refl
or_swap false true c = refl
or_swap false false c = refl

or_assoc : (a b c : Bool) → ((a || b) || c) ≡ (a || (b || c))
or_assoc true b c = refl
or_assoc false b c = refl

pub has-ready-push : (n opening : ℕ) (p : Unconfirmed) (es : List (ℕ × Unconfirmed)) → has n (ready_numbers (unconfirmed (es ++ (opening, p) ∷ []))) ≡ (gives n p || has n (ready_numbers (unconfirmed es)))
has-ready-push n opening p [] = has-ready-cons n p []
has-ready-push n opening p (e ∷ es) =
    has-ready-cons n e.1 (unconfirmed (es ++ (opening, p) ∷ [])) ∙ ap (λ b. gives n e.1 || b) (has-ready-push n opening p es) ∙ or_swap (gives n e.1) (gives n p) (has n (ready_numbers (unconfirmed es))) ∙ ap (λ b. gives n p || b) (sym (has-ready-cons n e.1 (unconfirmed es)))

set_step : (n : ℕ) (test : ℕ → Bool) (e : ℕ × Unconfirmed) (es : List (ℕ × Unconfirmed)) (p next : Unconfirmed) (more b : Bool) → test e.0 ≡ b → gives n next ≡ (more || gives n p)
    → (lookup test es ≡ Some p → has n (ready_numbers (unconfirmed (set_value test es next))) ≡ (more || has n (ready_numbers (unconfirmed es))))
    → lookup test (e ∷ es) ≡ Some p → has n (ready_numbers (unconfirmed (set_value test (e ∷ es) next))) ≡ (more || has n (ready_numbers (unconfirmed (e ∷ es))))
set_step n test e es p next more true here given rest found =
    let value : Some e.1 ≡ Some p = rw here at found in
    let is : e.1 ≡ p = cc in
    rw here (has-ready-cons n next (unconfirmed es) ∙ ap (λ b. b || has n (ready_numbers (unconfirmed es))) (given ∙ ap (λ q. more || gives n q) (sym is)) ∙ or_assoc more (gives n e.1) (has n (ready_numbers (unconfirmed es))) ∙ ap (λ b. more || b) (sym (has-ready-cons n e.1 (unconfirmed es))))
set_step n test e es p next more false here given rest found =
    let later = rest (rw here at found) in
    rw here (has-ready-cons n e.1 (unconfirmed (set_value test es next)) ∙ ap (λ b. gives n e.1 || b) later ∙ or_swap (gives n e.1) more (has n (ready_numbers (unconfirmed es))) ∙ ap (λ b. more || b) (sym (has-ready-cons n e.1 (unconfirmed es))))

-- an entry that is written adds what its publication gives more
pub has-ready-set : (n : ℕ) (test : ℕ → Bool) (es : List (ℕ × Unconfirmed)) (p next : Unconfirmed) (more : Bool) → gives n next ≡ (more || gives n p) → lookup test es ≡ Some p → has n (ready_numbers (unconfirmed (set_value test es next))) ≡ (more || has n (ready_numbers (unconfirmed es)))
has-ready-set n test [] p next more given found = cc
has-ready-set n test (e ∷ es) p next more given found =
    set_step n test e es p next more (test e.0) refl given (has-ready-set n test es p next more given) found

gone_and : (n number its : ℕ) (ready b : Bool) → (its == number) ≡ true → (not (number == n) && b) ≡ (not (number == n) && ((ready && (its == n)) || b))
gone_and n number its true b same = grind (arith, nat_tests)
gone_and n number its false b same = refl

kept_and : (n number its : ℕ) (ready b : Bool) → (its == number) ≡ false → ((ready && (its == n)) || (not (number == n) && b)) ≡ (not (number == n) && ((ready && (its == n)) || b))
kept_and n number its true b same = grind (arith, nat_tests)
kept_and n number its false b same = refl

none_and : (b : Bool) → false ≡ (b && false)
none_and true = refl
none_and false = refl

without_step : (n number : ℕ) (e : ℕ × Unconfirmed) (es : List (ℕ × Unconfirmed)) (b : Bool) → (e.1.number == number) ≡ b
    → has n (ready_numbers (unconfirmed (without_number number es))) ≡ (not (number == n) && has n (ready_numbers (unconfirmed es)))
    → has n (ready_numbers (unconfirmed (without_number number (e ∷ es)))) ≡ (not (number == n) && has n (ready_numbers (unconfirmed (e ∷ es))))
without_step n number e es true same rest =
    rw same (rest ∙ gone_and n number e.1.number (waits_for_nothing e.1) (has n (ready_numbers (unconfirmed es))) same ∙ ap (λ b. not (number == n) && b) (sym (has-ready-cons n e.1 (unconfirmed es))))
without_step n number e es false same rest =
    rw same (has-ready-cons n e.1 (unconfirmed (without_number number es)) ∙ ap (λ b. gives n e.1 || b) rest ∙ kept_and n number e.1.number (waits_for_nothing e.1) (has n (ready_numbers (unconfirmed es))) same ∙ ap (λ b. not (number == n) && b) (sym (has-ready-cons n e.1 (unconfirmed es))))

pub has-ready-without : (n number : ℕ) (es : List (ℕ × Unconfirmed)) → has n (ready_numbers (unconfirmed (without_number number es))) ≡ (not (number == n) && has n (ready_numbers (unconfirmed es)))
has-ready-without n number [] = none_and (not (number == n))
has-ready-without n number (e ∷ es) = without_step n number e es (e.1.number == number) refl (has-ready-without n number es)

-- ---- how many wait
pub count-push : (opening : ℕ) (p : Unconfirmed) (es : List (ℕ × Unconfirmed)) → count_by is_waiting (unconfirmed (es ++ (opening, p) ∷ [])) ≡ count_by is_waiting (unconfirmed es) + cond (is_waiting p) 1 0
count-push opening p es =
    ap (count_by is_waiting) (map-append (λ (e : ℕ × Unconfirmed). e.1) es ((opening, p) ∷ [])) ∙ sum_by_push (λ q. cond (is_waiting q) 1 0) (unconfirmed es) p

one-or-none : (b : Bool) → cond b 1 0 ≤ 1
one-or-none true = omega arith
one-or-none false = omega arith

pub count-push-le : (opening : ℕ) (p : Unconfirmed) (es : List (ℕ × Unconfirmed)) → count_by is_waiting (unconfirmed (es ++ (opening, p) ∷ [])) ≤ count_by is_waiting (unconfirmed es) + 1
count-push-le opening p es = omega (arith, count-push opening p es, one-or-none (is_waiting p))

pub count-push-ready : (opening : ℕ) (p : Unconfirmed) (es : List (ℕ × Unconfirmed)) → waits_for_nothing p ≡ true → count_by is_waiting (unconfirmed (es ++ (opening, p) ∷ [])) ≡ count_by is_waiting (unconfirmed es)
count-push-ready opening p es ready = omega (arith, count-push opening p es, ap {B = ℕ} (λ b. cond (not b) 1 0) ready)

pub count-le : (es : List (ℕ × Unconfirmed)) → count_by is_waiting (unconfirmed es) ≤ length es
count-le es = omega (arith, count_by-le-length is_waiting (unconfirmed es), length-values_of es)

-- ---- a publication is released
freed_or_same : (copy : ℕ) (ws : List ℕ) → (not (length ws == 0) && (length (filter (λ wait. not (wait == copy)) ws) == 0)) ≡ false → (length (filter (λ wait. not (wait == copy)) ws) == 0) ≡ (length ws == 0)
freed_or_same copy [] h = refl
freed_or_same copy (w ∷ ws) h = grind (arith, nat_tests)

pub same-ready : (copy : ℕ) (p : Unconfirmed) → (is_waiting p && waits_for_nothing (without_wait copy p)) ≡ false → waits_for_nothing (without_wait copy p) ≡ waits_for_nothing p
same-ready copy p h = freed_or_same copy p.waits h

pub count-same : (test : ℕ → Bool) (es : List (ℕ × Unconfirmed)) (p next : Unconfirmed) → waits_for_nothing next ≡ waits_for_nothing p → lookup test es ≡ Some p → count_by is_waiting (unconfirmed (set_value test es next)) ≡ count_by is_waiting (unconfirmed es)
count-same test es p next same found =
    omega (arith, sum_by-set_value (λ q. cond (is_waiting q) 1 0) test es p next found, ap {B = ℕ} (λ b. cond (not b) 1 0) same)

pub count-freed : (test : ℕ → Bool) (es : List (ℕ × Unconfirmed)) (p next : Unconfirmed) → waits_for_nothing p ≡ false → waits_for_nothing next ≡ true → lookup test es ≡ Some p → count_by is_waiting (unconfirmed (set_value test es next)) + 1 ≡ count_by is_waiting (unconfirmed es)
count-freed test es p next waited ready found =
    omega (arith, sum_by-set_value (λ q. cond (is_waiting q) 1 0) test es p next found, ap {B = ℕ} (λ b. cond (not b) 1 0) waited, ap {B = ℕ} (λ b. cond (not b) 1 0) ready)

pub freed-parts : (a b : Bool) → (not a && b) ≡ true → (a ≡ false) × (b ≡ true)
freed-parts true b h = absurd (false≢true h)
freed-parts false b h = (refl, h)

or_none : (b : Bool) → (b || false) ≡ b
or_none true = refl
or_none false = refl

pub gives-freed : (n copy : ℕ) (p : Unconfirmed) → waits_for_nothing p ≡ false → waits_for_nothing (without_wait copy p) ≡ true → gives n (without_wait copy p) ≡ ((p.number == n) || gives n p)
gives-freed n copy p waited ready = rw (waited, ready) (sym (or_none (p.number == n)))

pub gives-same : (n copy : ℕ) (p : Unconfirmed) → waits_for_nothing (without_wait copy p) ≡ waits_for_nothing p → gives n (without_wait copy p) ≡ (false || gives n p)
gives-same n copy p same = ap (λ b. b && (p.number == n)) same

-- ---- an entry is removed
pub count-removed-le : (test : ℕ → Bool) (es : List (ℕ × Unconfirmed)) → count_by is_waiting (unconfirmed (remove_entry test es)) ≤ count_by is_waiting (unconfirmed es)
count-removed-le test es = omega (arith, sum_by-remove_entry (λ q. cond (is_waiting q) 1 0) test es)

whole : (number opening : ℕ) (es : List (ℕ × Unconfirmed)) → All (λ e. (opening == e.0) ≡ (e.1.number == number)) es → has opening (keys_of es) ≡ false → without_number number es ≡ es
whole number opening [] its away = refl
whole number opening (e ∷ es) its away =
    let parts = or_false (e.0 == opening) (has opening (keys_of es)) away in
    let P : ℕ × Unconfirmed → Type 0 = λ e. (opening == e.0) ≡ (e.1.number == number) in
    rw (sym (All-head P e es its) ∙ apart-flip e.0 opening parts.0) (ap (λ rest. e ∷ rest) (whole number opening es (All-tail P e es its) parts.1))

removed_step : (number opening : ℕ) (e : ℕ × Unconfirmed) (es : List (ℕ × Unconfirmed)) (b : Bool) → is_at (nat_cmp opening) e.0 ≡ b → (e.1.number == number) ≡ b
    → (b ≡ true → without_number number es ≡ es)
    → remove_entry (is_at (nat_cmp opening)) es ≡ without_number number es
    → remove_entry (is_at (nat_cmp opening)) (e ∷ es) ≡ without_number number (e ∷ es)
removed_step number opening e es true here same away rest = rw (here, same) (sym (away refl))
removed_step number opening e es false here same away rest = rw (here, same) (ap (λ tail. e ∷ tail) rest)

pub removed-is : (number opening : ℕ) (es : List (ℕ × Unconfirmed)) → Ascends (keys_of es) → All (λ e. (opening == e.0) ≡ (e.1.number == number)) es → remove_entry (is_at (nat_cmp opening)) es ≡ without_number number es
removed-is number opening [] rises its = refl
removed-is number opening (e ∷ es) rises its =
    let P : ℕ × Unconfirmed → Type 0 = λ e. (opening == e.0) ≡ (e.1.number == number) in
    removed_step number opening e es (opening == e.0) (at-is opening e.0) (sym (All-head P e es its)) (λ same. whole number opening es (All-tail P e es its) (none-later opening e es rises same)) (removed-is number opening es rises.1 (All-tail P e es its))
