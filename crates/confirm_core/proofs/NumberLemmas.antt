-- Numbers that rise: a search by halves, and one more or one less of them.
use Rattle.std.proofs.Common.{◌≡◌, ℕ, zero, suc, ◌<◌, ◌≤◌, ◌==◌, ◌&&◌, ◌||◌, Bool, true, false, not, List, [], ◌∷◌, length, get_or, take, drop, refl, ap, ◌∙◌, arith, inl, inr, ◌⊎◌, Ok, Err}
use Rattle.std.specs.Prelude.{All}
use Rattle.std.specs.List.Sorted.{IsBinarySearchResult}
use Rattle.std.specs.Ordering.{nat_cmp}
use Rattle.std.proofs.lemmas.List.Sorted.{searched}
use Rattle.std.specs.List.{insert, remove}
use Rattle.std.proofs.lemmas.Bool.{cases_lt}
use Rattle.std.proofs.lemmas.Bool.Decides.{nat_tests}
use Rattle.std.proofs.lemmas.List.Elements.{All-cons, All-append, All-take, All-drop, All-get_or, All-from_get_or, All-weaker}
use Rattle.std.proofs.lemmas.List.Folds.{list_any_none, list_any_at}
use Rattle.confirm_core.specs.Openings.{has, Ascends}

pub ascends_at : (xs : List ℕ) (i j : ℕ) → Ascends xs → i < j → j < length xs → get_or xs i 0 < get_or xs j 0
ascends_at [] i j h l b = absurd (omega arith)
ascends_at (x ∷ xs) i zero h l b = absurd (omega arith)
ascends_at (x ∷ xs) zero (suc j) h l b = All-get_or (λ y. x < y) xs j 0 (omega arith) h.0
ascends_at (x ∷ xs) (suc i) (suc j) h l b = ascends_at xs i j h.1 (omega arith) (omega arith)

pub ascends_le : (xs : List ℕ) → Ascends xs → (i j : ℕ) → i ≤ j → j < length xs → get_or xs i 0 ≤ get_or xs j 0
ascends_le xs h i j l b =
    elim (cases_lt i j) [
      | inl lt ↦ omega (arith, ascends_at xs i j h lt b)
      | inr ge ↦ (let e : i ≡ j = omega arith in omega (arith, ap (λ k. get_or xs k 0) e))
    ]

or_swap : (a b c : Bool) → (a || (b || c)) ≡ (b || (a || c))
or_swap true true c = refl
or_swap true false c = refl
or_swap false true c = refl
or_swap false false c = refl

-- ---- one more
pub has-insert : (n : ℕ) (xs : List ℕ) (i y : ℕ) → has n (insert xs i y) ≡ ((y == n) || has n xs)
has-insert n xs zero y = refl
has-insert n [] (suc i) y = refl
has-insert n (x ∷ xs) (suc i) y = ap (λ b. (x == n) || b) (has-insert n xs i y) ∙ or_swap (x == n) (y == n) (has n xs)

pub Ascends-insert : (xs : List ℕ) (i y : ℕ) → Ascends xs → i ≤ length xs → ((k : ℕ) → k < i → get_or xs k 0 < y) → ((k : ℕ) → i ≤ k → k < length xs → y < get_or xs k 0) → Ascends (insert xs i y)
Ascends-insert xs zero y h l below above = (All-from_get_or (λ z. y < z) xs 0 (λ k b. above k (omega arith) b), h)
Ascends-insert [] (suc i) y h l below above = absurd (omega arith)
Ascends-insert (x ∷ xs) (suc i) y h l below above =
    let P : ℕ → Type 0 = λ z. x < z in (
      All-append P (take i xs) (y ∷ drop i xs) (All-take P i xs h.0) (All-cons P y (drop i xs) (below 0 (omega arith)) (All-drop P i xs h.0)),
      Ascends-insert xs i y h.1 (omega arith) (λ k b. below (suc k) (omega arith)) (λ k a b. above (suc k) (omega arith) (omega arith)),
    )

-- ---- one less
pub Ascends-remove : (xs : List ℕ) (i : ℕ) → Ascends xs → Ascends (remove xs i)
Ascends-remove [] zero h = tt
Ascends-remove [] (suc i) h = tt
Ascends-remove (x ∷ xs) zero h = h.1
Ascends-remove (x ∷ xs) (suc i) h =
    let P : ℕ → Type 0 = λ z. x < z in
    (All-append P (take i xs) (drop (suc i) xs) (All-take P i xs h.0) (All-drop P (suc i) xs h.0), Ascends-remove xs i h.1)

pub none-above : (x n : ℕ) (xs : List ℕ) → All (λ y. x < y) xs → n ≤ x → has n xs ≡ false
none-above x n xs above le = list_any_none (λ y. y == n) xs (All-weaker (λ y. x < y) (λ y. (y == n) ≡ false) (λ y lt. grind (arith, nat_tests)) xs above)

without_first : (n y : ℕ) (ys : List ℕ) (x : ℕ) → y ≡ x → (n ≤ y → has n ys ≡ false) → has n ys ≡ (not (x == n) && ((y == n) || has n ys))
without_first n y ys x e none = grind (arith, nat_tests)

keeps_first : (n y x : ℕ) (b : Bool) → y < x → ((y == n) || (not (x == n) && b)) ≡ (not (x == n) && ((y == n) || b))
keeps_first n y x b lt = grind (arith, nat_tests)

pub has-remove : (n : ℕ) (xs : List ℕ) (i x : ℕ) → Ascends xs → i < length xs → get_or xs i 0 ≡ x → has n (remove xs i) ≡ (not (x == n) && has n xs)
has-remove n [] i x h l e = absurd (omega arith)
has-remove n (y ∷ ys) zero x h l e = without_first n y ys x e (λ le. none-above y n ys h.0 le)
has-remove n (y ∷ ys) (suc i) x h l e =
    let lt : y < x = omega (arith, All-get_or (λ z. y < z) ys i 0 (omega arith) h.0) in
    ap (λ b. (y == n) || b) (has-remove n ys i x h.1 (omega arith) e) ∙ keeps_first n y x (has n ys) lt

-- ---- what is there, and what isn't
found_or : (n x : ℕ) (b : Bool) → (x ≡ n → b ≡ true) → b ≡ ((x == n) || b)
found_or n x b h = grind (arith, nat_tests)

pub has-found : (n : ℕ) (xs : List ℕ) (i x : ℕ) → i < length xs → get_or xs i 0 ≡ x → has n xs ≡ ((x == n) || has n xs)
has-found n xs i x l e = found_or n x (has n xs) (λ same. list_any_at (λ y. y == n) xs i 0 l (grind (arith, nat_tests)))

apart : (y n : ℕ) → (y < n) ⊎ (n < y) → (y == n) ≡ false
apart y n (inl lt) = grind (arith, nat_tests)
apart y n (inr lt) = grind (arith, nat_tests)

missed_and : (n x : ℕ) (b : Bool) → (x ≡ n → b ≡ false) → b ≡ (not (x == n) && b)
missed_and n x b h = grind (arith, nat_tests)

pub has-missed : (n : ℕ) (xs : List ℕ) (i x : ℕ) → ((k : ℕ) → k < i → get_or xs k 0 < x) → ((k : ℕ) → i ≤ k → k < length xs → x < get_or xs k 0) → has n xs ≡ (not (x == n) && has n xs)
has-missed n xs i x below above =
    missed_and n x (has n xs)
    (λ same. list_any_none (λ y. y == n) xs (All-from_get_or (λ y. (y == n) ≡ false) xs 0 (λ k l.
    elim (cases_lt k i) [ inl lt ↦ apart (get_or xs k 0) n (inl (omega (arith, below k lt))) | inr ge ↦ apart (get_or xs k 0) n (inr (omega (arith, above k ge l))) ])))

-- ---- what a search by halves tells
pub found : (xs : List ℕ) (x i : ℕ) → Ascends xs → IsBinarySearchResult (λ y. nat_cmp y x) xs (Ok i) → (i < length xs) × (get_or xs i 0 ≡ x)
found xs x i h result = searched xs x (Ok i) result (ascends_le xs h)

pub missed : (xs : List ℕ) (x i : ℕ) → Ascends xs → IsBinarySearchResult (λ y. nat_cmp y x) xs (Err i) → (i ≤ length xs) × ((k : ℕ) → k < i → get_or xs k 0 < x) × ((k : ℕ) → i ≤ k → k < length xs → x < get_or xs k 0)
missed xs x i h result = searched xs x (Err i) result (ascends_le xs h)
