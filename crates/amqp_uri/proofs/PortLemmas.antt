-- When digits write a port's number, by their value up to 65,536.
use Rattle.std.proofs.Common.{◌≡◌, ℕ, ◌≤◌, min, true, false, List, arith}
use Rattle.std.specs.List.{list_all}
use Rattle.std.specs.Char.{is_ascii_digit}
use Rattle.std.proofs.lemmas.Bool.{and_left}
use Rattle.std.proofs.lemmas.Bool.Decides.{nat_tests}
use Rattle.amqp_uri.specs.Uri.{is_port, decimal_value}

pub port_from_digits : (digits : List ℕ) → list_all is_ascii_digit digits ≡ true →
    1 ≤ min 65536 (decimal_value digits) → min 65536 (decimal_value digits) ≤ 65535 → is_port digits ≡ true
unfolding is_port
port_from_digits digits all low high = rw all (grind (arith, nat_tests))

pub no_port_from_letters : (digits : List ℕ) → list_all is_ascii_digit digits ≡ false → is_port digits ≡ false
unfolding is_port
no_port_from_letters digits some = and_left _ _ some

pub no_port_from_number : (digits : List ℕ) → list_all is_ascii_digit digits ≡ true →
    (1 ≤ min 65536 (decimal_value digits) → min 65536 (decimal_value digits) ≤ 65535 → ⊥) → is_port digits ≡ false
unfolding is_port
no_port_from_number digits all never = rw all (grind (arith, nat_tests))
