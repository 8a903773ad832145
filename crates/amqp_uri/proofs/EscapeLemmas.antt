-- Escapes, and the faults of a part that has them.
use Rattle.std.proofs.Common.{◌≡◌, ℕ, ◌+◌, ◌<◌, ◌==◌, ◌&&◌, not, true, false, List, length, drop, get_or, Some, None, arith, ap, ⊎_elim}
use Rattle.std.specs.Str.{IsUtf8, is_utf8}
use Rattle.std.proofs.lemmas.Str.{IsUtf8-from_is_utf8, is_utf8-from_IsUtf8}
use Rattle.std.proofs.lemmas.List.{drop_more}
use Rattle.std.proofs.lemmas.Bool.{cases_Bool}
use Rattle.percent_encoding.specs.Percent.{percent_decode}
use Rattle.amqp_uri.specs.Uri.{bad_escape, begin_with_digits, escape_fault, first_escape}
use Rattle.amqp_uri.specs.declared.fault.UriFault.TheVariants.{Escape}

-- a byte that is no bad escape is passed
pub bad_escape_more : (place i : ℕ) (part : List ℕ) → i < length part →
    (get_or part i 0 == 37 && not (begin_with_digits (drop (i + 1) part))) ≡ false →
    bad_escape (place + (i + 1)) (drop (i + 1) part) ≡ bad_escape (place + i) (drop i part)
unfolding bad_escape
bad_escape_more place i part within good =
    rw (drop_more part i 0 within, good) (ap (λ n. bad_escape n (drop (i + 1) part)) (omega arith))

-- a part with good escapes that decodes to text has no fault
pub text_fault : (place : ℕ) (part : List ℕ) → bad_escape place part ≡ None → IsUtf8 (percent_decode part) →
    escape_fault place part ≡ None
unfolding escape_fault
text_fault place part good text = rw (is_utf8-from_IsUtf8 _ text, good)

-- a part with good escapes that decodes to no text has its fault at the first escape
pub no_text_fault : (place : ℕ) (part : List ℕ) → bad_escape place part ≡ None → (IsUtf8 (percent_decode part) → ⊥) →
    escape_fault place part ≡ Some (Escape (first_escape place part))
unfolding escape_fault
no_text_fault place part good no_text =
    ⊎_elim
    (λ (text : is_utf8 (percent_decode part) ≡ true). absurd (no_text (IsUtf8-from_is_utf8 _ text)))
    (λ (other : is_utf8 (percent_decode part) ≡ false). rw (other, good))
    (cases_Bool (is_utf8 (percent_decode part)))
