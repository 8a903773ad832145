-- The least of a list, told by numbers that rise and are the same.
use Rattle.std.proofs.Common.{◌≡◌, ℕ, ◌<◌, ◌≤◌, ◌==◌, ◌||◌, Bool, true, false, List, [], ◌∷◌, Some, min, refl, ap, sym, ◌∙◌, subst, arith, inl, inr}
use Rattle.std.specs.Prelude.{All, slice_get}
use Rattle.std.specs.Option.{option_map_or}
use Rattle.std.proofs.lemmas.Bool.{cases_lt, false≢true}
use Rattle.std.proofs.lemmas.Bool.Decides.{nat_tests}
use Rattle.std.proofs.lemmas.List.Elements.{All-nil, All-cons, All-head, All-tail, All-weaker}
use Rattle.confirm_core.specs.Openings.{has, Ascends}
use Rattle.confirm_core.specs.Waits.{least}

eqb_is : (x n : ℕ) → (x == n) ≡ true → x ≡ n
eqb_is x n h = grind (arith, nat_tests)

has_all_cases : (P : ℕ → Type 0) (n x : ℕ) (xs : List ℕ) (b : Bool) → (b ≡ true → x ≡ n) → P x → (has n xs ≡ true → P n) → (b || has n xs) ≡ true → P n
has_all_cases P n x xs true same here there h = subst P (same refl) here
has_all_cases P n x xs false same here there h = there h

-- what holds of each number holds of one that is there
pub has-all : (P : ℕ → Type 0) (n : ℕ) (xs : List ℕ) → All P xs → has n xs ≡ true → P n
has-all P n [] all h = absurd (false≢true h)
has-all P n (x ∷ xs) all h = has_all_cases P n x xs (x == n) (eqb_is x n) (All-head P x xs all) (λ h. has-all P n xs (All-tail P x xs all) h) h

own_or : (x : ℕ) (b : Bool) → ((x == x) || b) ≡ true
own_or x b = grind (arith, nat_tests)

own : (x : ℕ) (xs : List ℕ) → has x (x ∷ xs) ≡ true
own x xs = own_or x (has x xs)

or_true : (b : Bool) → (b || true) ≡ true
or_true true = refl
or_true false = refl

min_left : (x m : ℕ) → x < m → min x m ≡ x
min_left x m lt = omega arith

min_right : (x m : ℕ) → m ≤ x → min x m ≡ m
min_right x m le = omega arith

-- the least is one of the numbers, and no other is below it
pub least-tells : (x : ℕ) (xs : List ℕ) → (m : ℕ) × (least (x ∷ xs) ≡ Some m) × (has m (x ∷ xs) ≡ true) × All (λ y. m ≤ y) (x ∷ xs)
least-tells x [] = (x, refl, own x [], All-cons (λ y. x ≤ y) x [] (omega arith) (All-nil (λ y. x ≤ y)))
least-tells x (y ∷ ys) =
    let rest = least-tells y ys in
    let is : option_map_or (min y) (least ys) y ≡ rest.0 = cc rest.1 in
    elim (cases_lt x rest.0) [
      | inl lt ↦ (
        x,
        ap Some (ap (min x) is ∙ min_left x rest.0 lt),
        own x (y ∷ ys),
        All-cons (λ z. x ≤ z) x (y ∷ ys) (omega arith) (All-weaker (λ z. rest.0 ≤ z) (λ z. x ≤ z) (λ z le. omega arith) (y ∷ ys) rest.3),
      )
      | inr ge ↦ (
        rest.0,
        ap Some (ap (min x) is ∙ min_right x rest.0 ge),
        ap (λ b. (x == rest.0) || b) rest.2 ∙ or_true (x == rest.0),
        All-cons (λ z. rest.0 ≤ z) x (y ∷ ys) ge rest.3,
      )
    ]

-- numbers that rise and are the same begin with the least
pub least-first : (rising xs : List ℕ) → Ascends rising → ((n : ℕ) → has n rising ≡ has n xs) → slice_get rising 0 ≡ least xs
least-first [] [] h same = refl
least-first [] (x ∷ xs) h same = absurd (false≢true (same x ∙ own x xs))
least-first (r ∷ rs) [] h same = absurd (false≢true (sym (same r) ∙ own r rs))
least-first (r ∷ rs) (x ∷ xs) h same =
    let told = least-tells x xs in
    let below : told.0 ≤ r = has-all (λ y. told.0 ≤ y) r (x ∷ xs) told.3 (sym (same r) ∙ own r rs) in
    let above : r ≤ told.0 = has-all (λ y. r ≤ y) told.0 (r ∷ rs) (All-cons (λ y. r ≤ y) r rs (omega arith) (All-weaker (λ y. r < y) (λ y. r ≤ y) (λ y lt. omega arith) rs h.0)) (same told.0 ∙ told.2) in
    let e : r ≡ told.0 = omega arith in
    ap Some e ∙ sym told.1
