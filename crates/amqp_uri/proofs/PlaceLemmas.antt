-- The first place of a byte.
use Rattle.std.proofs.Common.{◌≡◌, ℕ, ◌≤◌, Bool, List, length, unwrap_or, arith}
use Rattle.std.specs.List.{position, position_or_len}
use Rattle.std.proofs.lemmas.List.Sums.{prefix_len-le-length}
use Rattle.std.proofs.lemmas.Bool.Decides.{nat_tests}

-- the first place, or the length where there is none
pub place_of : (p : ℕ → Bool) (xs : List ℕ) → unwrap_or (position p xs) (length xs) ≡ position_or_len p xs
place_of p xs =
    let within : position_or_len p xs ≤ length xs = prefix_len-le-length _ xs in
    grind (arith, nat_tests)
