use Rattle.std.proofs.Common.{◌∙◌, sym}
use Rattle.field_tables.proofs.LengthLemmas.{taken_some, taken_none}
use Rattle.field_tables.proofs.length.take_more.Goals as goal

pub returns-in-Some : goal.returns-in-Some
returns-in-Some c = c.take-in-Some.ensures ∙ taken_some c.args.room c.args.first c.args.count c.in-Some.left (sym c.in-Some.ensures)

pub returns-in-None : goal.returns-in-None
returns-in-None c = taken_none c.args.room c.args.first c.args.count (sym c.in-None.ensures)
