-- The table that is read is that of the object.
use Rattle.std.proofs.Common.{sym, ap, ◌∙◌}
use Rattle.serde_json.specs.View.{view}
use Rattle.serde_json.proofs.Views.{view-Object}
use Rattle.field_tables.specs.Fields.{table}
use Rattle.field_tables.specs.View.{pairs_of}
use Rattle.field_tables.proofs.Views.{view-Table}
use Rattle.defs_values.specs.Arguments.{field_of}
use Rattle.defs_values.proofs.arguments.+arguments.Goals as goal

pub read_field-returns-in_ok-pairs-in-Object-clause-read : goal.read_field-returns-in_ok-pairs-in-Object-clause-read
read_field-returns-in_ok-pairs-in-Object-clause-read t c =
    view-Table c.in_ok-pairs-in-Object.pairs ∙ ap (λ ps. table (pairs_of ps)) c.in_ok-pairs-in-Object.ensures.read
    ∙ sym (ap field_of (ap view c.in-Object.is ∙ view-Object c.in-Object.map))
