-- How many octets a table takes (AMQP 0-9-1, 4.2.5.5 "Field Tables").
use Rattle.std.specs.Prelude.{ℕ, ◌+◌, ◌-◌, nat_le, Bool, length, Option, Some, None, if◌then◌else◌}
use Rattle.field_tables.specs.Fields.{Field, boolean, signed_octet, octet, signed_short, short, signed_long, long, signed_longlong, float, double, decimal, long_string, array, timestamp, table, void, byte_array, Fields, Pairs}
use Rattle.field_tables.specs.Tables.{value_spelling, fields_spelling, pairs_spelling, table_spelling}

-- The spelling of the table, its count among it, has at most so many octets (AMQP 0-9-1, 4.2.5.5 "Field Tables").
abbrev pub is_within : Pairs → ℕ → Bool
is_within ps most = nat_le (length (table_spelling ps)) most

-- What is left of a number of octets that there is room for; None where they are fewer than those that are taken.
unfoldable pub room_after : ℕ → ℕ → Option ℕ
room_after room n = if nat_le n room then Some (room - n) else None

-- How many octets a value, the values of an array, the names and values of a table, and a table take (AMQP 0-9-1, 4.2.1 "Formal Protocol Grammar").
unfoldable pub value_length : Field → ℕ
value_length v = length (value_spelling v)

unfoldable pub fields_length : Fields → ℕ
fields_length vs = length (fields_spelling vs)

unfoldable pub pairs_length : Pairs → ℕ
pairs_length ps = length (pairs_spelling ps)

unfoldable pub table_length : Pairs → ℕ
table_length ps = length (table_spelling ps)

-- The octets of a value apart from the values in it: its type, and its content or the number of the octets in it (RabbitMQ's AMQP 0-9-1 Errata, "Field types").
unfoldable pub flat_length : Field → ℕ
flat_length (boolean b) = 2
flat_length (signed_octet n) = 2
flat_length (octet n) = 2
flat_length (signed_short n) = 3
flat_length (short n) = 3
flat_length (signed_long n) = 5
flat_length (long n) = 5
flat_length (signed_longlong n) = 9
flat_length (float bytes) = 1 + length bytes
flat_length (double bytes) = 1 + length bytes
flat_length (decimal bytes) = 1 + length bytes
flat_length (long_string bytes) = 5 + length bytes
flat_length (array vs) = 5
flat_length (timestamp n) = 9
flat_length (table ps) = 5
flat_length void = 1
flat_length (byte_array bytes) = 5 + length bytes

-- The octets of the values in a value.
abbrev pub inner_length : Field → ℕ
inner_length (array vs) = fields_length vs
inner_length (table ps) = pairs_length ps
inner_length _ = 0
