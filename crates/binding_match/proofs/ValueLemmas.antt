-- The test of values decides whether they are the same: numbers as numbers.
use Rattle.std.proofs.Common.{◌≡◌, ℤ, true, true≢false, Option, Some, None, refl, sym, ap, subst, ◌∙◌}
use Rattle.std.specs.Cmp.{signed_Decides}
use Rattle.field_tables.specs.Fields.{Field}
use Rattle.field_tables.specs.Same.{same_field}
use Rattle.field_tables.specs.SameLaws.{same_yes, same_self}
use Rattle.binding_match.specs.Values.{number_of, by_number, same_value, SameValue, as_numbers, as_octets}

value_by : (v w : Field) (m n : Option ℤ) → number_of v ≡ m → number_of w ≡ n → by_number m n (same_field v w) ≡ true → SameValue v w
value_by v w (Some a) (Some b) e f h = as_numbers a e (f ∙ ap (λ (z : ℤ). Some z) (sym ((signed_Decides a b).0 h)))
value_by v w (Some a) None e f h = absurd (true≢false (sym h))
value_by v w None (Some b) e f h = absurd (true≢false (sym h))
value_by v w None None e f h = as_octets e (same_yes v w h)

pub value_yes : (v w : Field) → same_value v w ≡ true → SameValue v w
value_yes v w h = value_by v w (number_of v) (number_of w) refl refl h

pub value_back : (v w : Field) → SameValue v w → same_value v w ≡ true
value_back v w (as_numbers n e f) =
    ap (λ (m : Option ℤ). by_number m (number_of w) (same_field v w)) e ∙ ap (λ (m : Option ℤ). by_number (Some n) m (same_field v w)) f ∙ (signed_Decides n n).1 refl
value_back v w (as_octets e s) =
    subst (λ (x : Field). same_value v x ≡ true) s
    (ap (λ (m : Option ℤ). by_number m (number_of v) (same_field v v)) e ∙ ap (λ (m : Option ℤ). by_number None m (same_field v v)) e ∙ same_self v)
