use Rattle.std.proofs.Common.{◌∙◌}
use Rattle.confirm_core.proofs.LeastLemmas.{least-first}
use Rattle.confirm_core.proofs.openings.Openings.next_ready.Goals as goal

pub returns : goal.returns
returns c = rw (← c.self.view_is) (c.first.ensures ∙ least-first _ _ c.self.invariant.1 c.self.invariant.2)
