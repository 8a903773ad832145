use Rattle.field_tables.specs.View.{table_view}
use Rattle.field_tables.proofs.LengthLemmas.{spelled_some, spelled_none}
use Rattle.field_tables.proofs.length.table_len.Goals as goal

pub unreachable-requires : goal.unreachable-requires
unreachable-requires c = spelled_none (table_view c.args.table.now) c.requires c.in-None.ensures

pub returns : goal.returns
returns c = spelled_some c.in-Some.left (table_view c.args.table.now) c.requires c.in-Some.ensures
