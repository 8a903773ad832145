use Rattle.std.proofs.Common.{◌&&◌, ap, ◌∙◌}
use Rattle.queue_core.specs.Copies.{tally_of, is_held_hold}
use Rattle.queue_core.proofs.TallyLemmas.{dropped}
use Rattle.queue_core.proofs.tally.Tally.drop_ready.Goals as goal

pub returns-clause-counts : goal.returns-clause-counts
returns-clause-counts c = λ test. dropped test c.self.inside.ready c.self.inside.counts.items ∙ ap (tally_of (λ hold. test hold && is_held_hold hold)) c.self.view_is
