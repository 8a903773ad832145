use Rattle.std.proofs.Common.{ap, sym, subst, ◌∙◌}
use Rattle.queue_core.specs.Rows.{Ascends, without}
use Rattle.queue_core.specs.Copies.{rows_with}
use Rattle.queue_core.proofs.RowLemmas.{Ascends-filter}
use Rattle.queue_core.proofs.EntryLemmas.{removed}
use Rattle.queue_core.proofs.copies.Copies.remove.Goals as goal

pub invariant_of-self : goal.invariant_of-self
invariant_of-self c = subst Ascends (sym (ap (rows_with c.self.inside.stored) c.remove.ensures.entries ∙ removed c.self.inside.stored c.args.copy c.self.inside.holds.entries c.self.invariant)) (Ascends-filter _ _ c.self.invariant)

pub returns : goal.returns
returns c = ap (rows_with c.self.inside.stored) c.remove.ensures.entries ∙ removed c.self.inside.stored c.args.copy c.self.inside.holds.entries c.self.invariant ∙ ap (without c.args.copy) c.self.view_is
