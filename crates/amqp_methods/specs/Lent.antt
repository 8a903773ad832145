-- The arguments that a lent argument stands for.
use Rattle.std.specs.Prelude.{List, map}
use Rattle.field_tables.specs.View.{table_view}
use Rattle.amqp_methods.specs.Arguments.{Argument, octet, short, long, longlong, short_string, long_string, table, bits, reserved_short, reserved_short_string, reserved_long_string, reserved_bit}
use Rattle.amqp_methods.specs.declared.spelling.Argument as lent
use Rattle.amqp_methods.specs.declared.spelling.Argument.TheVariants as variants

abbrev pub argument_view : lent.Argument → Argument
argument_view (variants.Octet n) = octet n
argument_view (variants.Short n) = short n
argument_view (variants.Long n) = long n
argument_view (variants.LongLong n) = longlong n
argument_view (variants.ShortString text) = short_string text.now
argument_view (variants.LongString octets) = long_string octets.now
argument_view (variants.Table ps) = table (table_view ps.now)
argument_view (variants.Bits bs) = bits bs.now
argument_view variants.ReservedShort = reserved_short
argument_view variants.ReservedShortString = reserved_short_string
argument_view variants.ReservedLongString = reserved_long_string
argument_view variants.ReservedBit = reserved_bit

abbrev pub argument_views : List lent.Argument → List Argument
argument_views arguments = map argument_view arguments
