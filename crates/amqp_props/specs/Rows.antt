-- The table of the properties, as the definition of content headers has it (AMQP 0-9-1, class basic).
use Rattle.std.specs.Prelude.{ℕ, List}
use Rattle.amqp_props.specs.declared.row.PropertyKind.{PropertyKind}
use Rattle.amqp_props.specs.declared.row.Row.{Row}

-- a row's bit, kind and name
abbrev pub row_view : Row → ℕ × PropertyKind × List ℕ
row_view row = (row.bit, row.kind, row.name.now)
