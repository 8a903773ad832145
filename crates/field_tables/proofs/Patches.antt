-- Four octets written over those at a place.
use Rattle.std.proofs.Common.{get_or, append_assoc, ◌≡◌, ℕ, zero, suc, ◌+◌, ◌≤◌, List, [], ◌∷◌, ◌++◌, length, take, drop, refl, sym, ap, ◌∙◌, arith}
use Rattle.std.specs.Int.{w32, to_be_bytes}
use Rattle.std.proofs.Math.ListN.{set}
use Rattle.std.proofs.lemmas.List.{take_at, drop_at, length-append, append-nil}
use Rattle.field_tables.specs.Tables.{counted_spelling, IsName, fields_spelling, pairs_spelling, HasSpelling, ArePairs}
use Rattle.field_tables.specs.View.{fields_of, pairs_of, field_view, fields_view, pairs_view}
use Rattle.field_tables.specs.declared.value.FieldValue.{FieldValue}
use Rattle.std.proofs.Common.{String, Global, string_bytes, subst}

pub set_four : (start : ℕ) (xs : List ℕ) (a b c d : ℕ) → start + 4 ≤ length xs → set (set (set (set xs start a) (start + 1) b) (start + 2) c) (start + 3) d ≡ take start xs ++ (a ∷ b ∷ c ∷ d ∷ drop (start + 4) xs)
set_four start [] a b c d h = absurd (omega arith)
set_four zero (x ∷ []) a b c d h = absurd (omega arith)
set_four zero (x ∷ y ∷ []) a b c d h = absurd (omega arith)
set_four zero (x ∷ y ∷ z ∷ []) a b c d h = absurd (omega arith)
set_four zero (x ∷ y ∷ z ∷ w ∷ xs) a b c d h = refl
set_four (suc n) (x ∷ xs) a b c d h =
    let one : suc n + 1 ≡ suc (n + 1) = omega arith in
    let two : suc n + 2 ≡ suc (n + 2) = omega arith in
    let three : suc n + 3 ≡ suc (n + 3) = omega arith in
    let four : suc n + 4 ≡ suc (n + 4) = omega arith in
    rw (one, two, three, four) (ap (λ (ys : List ℕ). x ∷ ys) (set_four n xs a b c d (omega arith)))

pub set_counted : (start : ℕ) (xs octets : List ℕ) (count : ℕ) → octets ≡ to_be_bytes w32 count → count ≡ length (drop (start + 4) xs) → start + 4 ≤ length xs
    → set (set (set (set xs start (get_or octets 0 0)) (start + 1) (get_or octets 1 0)) (start + 2) (get_or octets 2 0)) (start + 3) (get_or octets 3 0) ≡ take start xs ++ counted_spelling (drop (start + 4) xs)
set_counted start xs octets count is len h = rw (is, len) (set_four start xs _ _ _ _ h)

-- four octets, kept free for a number
abbrev pub free : List ℕ
free = 0 ∷ 0 ∷ 0 ∷ 0 ∷ []

behind : (old content out : List ℕ) (start : ℕ) → start ≡ length old → out ≡ old ++ (free ++ content) → drop (start + 4) out ≡ content
behind old content out start at is =
    let regrouped : out ≡ (old ++ free) ++ content = is ∙ sym (append_assoc old free content) in
    rw regrouped (drop_at (old ++ free) content (start + 4) (omega (arith, length-append old free, at)))

pub filled : (old content out new : List ℕ) (start : ℕ) → start ≡ length old → out ≡ old ++ (free ++ content) → new ≡ take start out ++ counted_spelling (drop (start + 4) out) → new ≡ old ++ counted_spelling content
filled old content out new start at is made =
    let front : take start out ≡ old = rw is (take_at old (free ++ content) start (sym at)) in
    made ∙ rw (front, behind old content out start at is) refl

-- ---- values and pairs, one after the other

pub no_value : (out total : List ℕ) (vs : List FieldValue) → vs ≡ [] → out ++ fields_spelling (fields_of (fields_view vs)) ≡ total → out ≡ total
no_value out total vs none so_far = sym (append-nil out) ∙ ap (λ (ys : List FieldValue). out ++ fields_spelling (fields_of (fields_view ys))) (sym none) ∙ so_far

pub first_pair : (ps qs : List (String Global × FieldValue)) (name : String Global) (v : FieldValue) → ps ≡ (name, v) ∷ qs → ArePairs (pairs_of (pairs_view ps)) → IsName (string_bytes name) × HasSpelling (field_view v) × ArePairs (pairs_of (pairs_view qs))
first_pair ps qs name v is h = subst (λ (ys : List (String Global × FieldValue)). ArePairs (pairs_of (pairs_view ys))) is h

pub no_pair : (out total : List ℕ) (ps : List (String Global × FieldValue)) → ps ≡ [] → out ++ pairs_spelling (pairs_of (pairs_view ps)) ≡ total → out ≡ total
no_pair out total ps none so_far = sym (append-nil out) ∙ ap (λ (ys : List (String Global × FieldValue)). out ++ pairs_spelling (pairs_of (pairs_view ys))) (sym none) ∙ so_far
