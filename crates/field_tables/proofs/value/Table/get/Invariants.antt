use Rattle.std.proofs.Common.{◌≡◌, drop}
use Rattle.field_tables.specs.Fields.{first_of}
use Rattle.field_tables.specs.View.{pairs_of, pairs_view, table_view}
use Rattle.field_tables.proofs.value.Table.get.Given as goal

abbrev pub invariant-loop-key : goal.invariant-loop-key
invariant-loop-key l = first_of l.name (pairs_of (pairs_view (drop l.key-index l.key-items))) ≡ first_of l.name (table_view l.self)
