use Rattle.std.proofs.Common.{◌≡◌, ℕ, Bool, true, false, List, Ok, IsUtf8, refl, sym, ap}
use Rattle.std.specs.Str.{is_utf8}
use Rattle.std.proofs.lemmas.Str.{IsUtf8-from_is_utf8, is_utf8-from_IsUtf8}
use Rattle.amqp_methods.proofs.arguments.text_of.Goals as goal

-- what is not UTF-8 does not pass the test
refused : (bytes : List ℕ) (b : Bool) → is_utf8 bytes ≡ b → (IsUtf8 bytes → ⊥) → is_utf8 bytes ≡ false
refused bytes true e other = absurd (other (IsUtf8-from_is_utf8 bytes e))
refused bytes false e other = e

pub returns-in-Ok : goal.returns-in-Ok
returns-in-Ok c = rw (is_utf8-from_IsUtf8 c.args.name.now c.in-Ok.ensures.cases.1) (ap Ok (sym c.in-Ok.ensures.cases.0))

pub returns-in-Err : goal.returns-in-Err
returns-in-Err c = rw (refused c.args.name.now _ refl c.in-Err.ensures.cases.0) refl
