-- When a header has the value that an argument asks for (RabbitMQ's headers exchange; AMQP 0-9-1, 3.1.3.4 "The Headers Exchange Type").
use Rattle.std.specs.Prelude.{◌≡◌, ℤ, pos, Bool, false, Option, Some, None}
use Rattle.std.specs.Ordering.{int_eq}
use Rattle.field_tables.specs.Fields.{Field, signed_octet, octet, signed_short, short, signed_long, long, signed_longlong}
use Rattle.field_tables.specs.Same.{same_field}

-- The number that a value of a whole-number kind is; b B s u I i l are these kinds.
abbrev pub number_of : Field → Option ℤ
number_of (signed_octet z) = Some z
number_of (octet n) = Some (pos n)
number_of (signed_short z) = Some z
number_of (short n) = Some (pos n)
number_of (signed_long z) = Some z
number_of (long n) = Some (pos n)
number_of (signed_longlong z) = Some z
number_of _ = None

-- Whole numbers of all widths compare as numbers, other values by their kind and octets.
abbrev pub by_number : Option ℤ → Option ℤ → Bool → Bool
by_number (Some m) (Some n) same = int_eq m n
by_number None None same = same
by_number _ _ same = false

abbrev pub same_value : Field → Field → Bool
same_value asked there = by_number (number_of asked) (number_of there) (same_field asked there)

-- The same in words: both are the one number, or neither is a number and they are one value.
pub data SameValue (asked there : Field) : Type 0 where
  as_numbers : (n : ℤ) → number_of asked ≡ Some n → number_of there ≡ Some n → SameValue asked there
  as_octets : number_of asked ≡ None → asked ≡ there → SameValue asked there
