use Rattle.std.proofs.Common.{◌∙◌, sym}
use Rattle.field_tables.specs.View.{table_view}
use Rattle.field_tables.proofs.LengthLemmas.{table_some, table_none}
use Rattle.field_tables.proofs.length.after_table.Goals as goal

pub returns-in-Some : goal.returns-in-Some
returns-in-Some c = c.after_pairs.ensures ∙ table_some c.args.room c.in-Some.left (table_view c.args.table.now) (sym c.in-Some.ensures)

pub returns-in-None : goal.returns-in-None
returns-in-None c = table_none c.args.room (table_view c.args.table.now) (sym c.in-None.ensures)
