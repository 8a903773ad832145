-- The test of UTF-8 says what it is.
use Rattle.std.proofs.Common.{◌≡◌, ℕ, List, Bool, true, false, refl}
use Rattle.std.specs.Prelude.{IsUtf8}
use Rattle.std.specs.Str.{is_utf8}
use Rattle.std.proofs.lemmas.Str.{is_utf8-from_IsUtf8, IsUtf8-from_is_utf8}

pub is_spelled : (bs : List ℕ) → IsUtf8 bs → is_utf8 bs ≡ true
is_spelled bs h = is_utf8-from_IsUtf8 bs h

not_at : (bs : List ℕ) (b : Bool) → is_utf8 bs ≡ b → (IsUtf8 bs → ⊥) → b ≡ false
not_at bs true e h = absurd (h (IsUtf8-from_is_utf8 bs e))
not_at bs false e h = refl

pub not_spelled : (bs : List ℕ) → (IsUtf8 bs → ⊥) → is_utf8 bs ≡ false
not_spelled bs h = not_at bs (is_utf8 bs) refl h
