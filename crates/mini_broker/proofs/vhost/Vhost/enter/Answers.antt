use Rattle.std.proofs.Common.{sym, ap, subst}
use Rattle.mini_broker.specs.State.{VhostState}
use Rattle.broker_store.specs.Queues.{AreAbove}
use Rattle.mini_broker.proofs.vhost.Vhost.enter.Goals as goal

pub enter_message-requires-clause-above : goal.enter_message-requires-clause-above
enter_message-requires-clause-above c = subst (AreAbove c.args.number) (sym (ap (λ (v : VhostState). v.queues) c.self.view_is)) c.requires.above
