use Rattle.std.proofs.Common.{◌≡◌, ℕ, Bool, true, false, List, Some, IsUtf8, refl, ap}
use Rattle.std.specs.Str.{is_utf8}
use Rattle.std.proofs.lemmas.Str.{IsUtf8-from_is_utf8, is_utf8-from_IsUtf8}
use Rattle.amqp_props.proofs.reading.utf8_of.Goals as goal

-- what is not UTF-8 does not pass the test
refused : (bytes : List ℕ) (b : Bool) → is_utf8 bytes ≡ b → (IsUtf8 bytes → ⊥) → is_utf8 bytes ≡ false
refused bytes true e other = absurd (other (IsUtf8-from_is_utf8 bytes e))
refused bytes false e other = e

pub returns-in-Ok : goal.returns-in-Ok
returns-in-Ok c = rw (is_utf8-from_IsUtf8 c.args.octets.now c.in-Ok.ensures.cases.1) (ap Some c.in-Ok.ensures.cases.0)

pub returns-in-Err : goal.returns-in-Err
returns-in-Err c = rw (refused c.args.octets.now _ refl c.in-Err.ensures.cases.0) refl
