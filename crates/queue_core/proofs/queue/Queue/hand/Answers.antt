use Rattle.std.proofs.Common.{sym, subst, ◌∙◌}
use Rattle.queue_core.specs.Rows.{IsLeastReady}
use Rattle.queue_core.proofs.RowLemmas.{first_ready-least}
use Rattle.queue_core.proofs.queue.Queue.hand.Goals as goal

pub returns-clause-least : goal.returns-clause-least
returns-clause-least c = subst (λ rows. IsLeastReady rows c.in_ok-copy.copy) c.self.view_is (first_ready-least c.self.inside.copies c.in_ok-copy.copy c.self.invariant.rising (sym c.self.invariant.first ∙ c.in_ok-copy.was))
