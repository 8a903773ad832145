use Rattle.std.proofs.Common.{ap, ◌∙◌}
use Rattle.queue_core.specs.Rows.{is_ready_hold}
use Rattle.queue_core.specs.Copies.{tally_of}
use Rattle.queue_core.proofs.TallyLemmas.{ready_alone}
use Rattle.queue_core.proofs.tally.Tally.ready.Goals as goal

pub returns : goal.returns
returns c = ready_alone c.self.inside.ready c.self.inside.counts.items ∙ ap (tally_of is_ready_hold) c.self.view_is
