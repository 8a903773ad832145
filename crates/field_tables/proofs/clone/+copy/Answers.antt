use Rattle.std.proofs.Common.{sym, ap, ◌∙◌}
use Rattle.field_tables.specs.Fields.{table}
use Rattle.field_tables.specs.View.{pairs_of, field_view}
use Rattle.field_tables.proofs.Views.{view-Table}
use Rattle.field_tables.proofs.clone.+copy.Goals as goal

pub copy-returns-in_ok-pairs-in-Table : goal.copy-returns-in_ok-pairs-in-Table
copy-returns-in_ok-pairs-in-Table t c =
    view-Table c.in_ok-pairs-in-Table.pairs ∙ ap (λ ps. table (pairs_of ps)) c.in_ok-pairs-in-Table.ensures ∙ sym (ap field_view c.in-Table.is ∙ view-Table c.in-Table.table.pairs)
