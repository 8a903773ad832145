-- Decimal numbers: of clients (AMQP 0-9-1, 4.9: a client is a connection, its channel is 1), of prefetch counts, of copies and of field values.
use Rattle.std.specs.Prelude.{ℕ, ◌+◌, ◌*◌, ◌-◌, ℤ, pos, neg_ℤ, List, Bool, ◌&&◌, not, if◌then◌else◌, ◌==◌, nat_le, nat_lt, fold, length, min, drop, slice_index, Option, Some, None, option_map}
use Rattle.std.specs.List.{list_all}

abbrev pub is_digit : ℕ → Bool
is_digit b = nat_le 48 b && nat_le b 57

abbrev pub has_leading_zero : List ℕ → Bool
has_leading_zero w = nat_lt 1 (length w) && slice_index w 0 == 48

-- a decimal number is written without leading zeros
unfoldable pub is_decimal : List ℕ → Bool
is_decimal w = not (length w == 0) && not (has_leading_zero w) && list_all is_digit w

-- one digit more, where a number over the most counts as the next one
abbrev pub with_digit : ℕ → ℕ → ℕ → ℕ
with_digit most n b = min (most + 1) (10 * n + (b - 48))

-- the number that the digits write, or most + 1 if it is greater than the most
unfoldable pub number_up_to : ℕ → List ℕ → ℕ
number_up_to most digits = fold (with_digit most) 0 digits

-- the number that the word writes, if it is neither below the least nor above the most
unfoldable pub number_within : ℕ → ℕ → List ℕ → Option ℕ
number_within least most w =
    if is_decimal w && nat_le least (number_up_to most w) && nat_le (number_up_to most w) most then Some (number_up_to most w) else None

-- a client's number is 0 to 65,535
unfoldable pub client_of : List ℕ → Option ℕ
client_of w = number_within 0 65535 w

-- so is a prefetch count (AMQP 0-9-1, basic.qos: `prefetch-count` is a short integer)
unfoldable pub prefetch_count_of : List ℕ → Option ℕ
prefetch_count_of w = number_within 0 65535 w

-- copies are numbered from 1 on, in 64 bits
unfoldable pub copy_of : List ℕ → Option ℕ
copy_of w = number_within 1 18446744073709551615 w

abbrev pub begins_with_minus : List ℕ → Bool
begins_with_minus w = not (length w == 0) && slice_index w 0 == 45

abbrev pub minus : ℕ → ℤ
minus n = neg_ℤ (pos n)

-- the signed number that the word writes, if it is from -(most + 1) to most; `-` may stand before its digits, and `-0` is none
unfoldable pub signed_within : ℕ → List ℕ → Option ℤ
signed_within most w =
    if begins_with_minus w then option_map minus (number_within 1 (most + 1) (drop 1 w)) else option_map pos (number_within 0 most w)

-- a signed long: 32 bits (RabbitMQ's AMQP 0-9-1 Errata, "Field types": `I`)
unfoldable pub long_of : List ℕ → Option ℤ
long_of w = signed_within 2147483647 w

-- a signed long-long: 64 bits (the same: `l`)
unfoldable pub longlong_of : List ℕ → Option ℤ
longlong_of w = signed_within 9223372036854775807 w

-- how often a line is repeated: 1 to 10,000
unfoldable pub repeat_count_of : List ℕ → Option ℕ
repeat_count_of w = number_within 1 10000 w
