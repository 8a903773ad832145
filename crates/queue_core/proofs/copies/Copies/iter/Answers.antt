use Rattle.std.proofs.Common.{ap, sym, ◌∙◌}
use Rattle.std.specs.Prelude.{map}
use Rattle.queue_core.specs.declared.rows.Row.{Row}
use Rattle.queue_core.proofs.EntryLemmas.{entries_back}
use Rattle.queue_core.proofs.copies.Copies.iter.Goals as goal

pub returns : goal.returns
returns c = c.iter.ensures.rest ∙ sym (entries_back c.self.inside.stored c.self.inside.holds.entries) ∙ ap (map (λ (row : Row). (row.copy, row.hold))) c.self.view_is
