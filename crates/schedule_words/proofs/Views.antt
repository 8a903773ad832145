-- Tables of one value.
use Rattle.std.proofs.Common.{◌≡◌, List, [], ◌∷◌, ◌++◌, length, Some, None, String, Global, refl, ap, arith}
use Rattle.std.proofs.lemmas.List.{length-append}
use Rattle.field_tables.specs.View.{pairs_of, field_view, pairs_view}
use Rattle.field_tables.specs.declared.value.FieldValue.{FieldValue}
use Rattle.schedule_words.specs.Values.{only_value}

pub only_one : (xs ys : List (String Global × FieldValue)) (x : String Global × FieldValue) → xs ≡ ys ++ x ∷ [] → length xs ≡ 1 → Some (field_view x.1) ≡ only_value (pairs_of (pairs_view xs))
only_one xs [] x is one = rw is refl
only_one xs (y ∷ ys) x is one = absurd (omega (arith, ap length is, length-append (y ∷ ys) (x ∷ [])))

pub only_other : (xs : List (String Global × FieldValue)) → (length xs ≡ 1 → ⊥) → None ≡ only_value (pairs_of (pairs_view xs))
only_other [] other = refl
only_other (x ∷ []) other = absurd (other refl)
only_other (x ∷ y ∷ xs) other = refl
