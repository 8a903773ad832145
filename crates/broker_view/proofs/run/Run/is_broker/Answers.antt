use Rattle.std.proofs.Common.{ap, ◌∙◌, is_some}
use Rattle.fed_journal.specs.Configuration.{is_broker}
use Rattle.broker_view.proofs.HostLemmas.{known-broker, some-copied}
use Rattle.broker_view.proofs.run.Run.is_broker.Goals as goal

pub returns : goal.returns
returns c = c.is_some.ensures ∙ some-copied c.find_host.result ∙ ap is_some c.find_host.ensures ∙ known-broker c.self.inside.entries.now c.self.inside.hosts.now c.args.broker.now c.self.invariant ∙ ap (λ J. is_broker J c.args.broker.now) c.self.view_is
