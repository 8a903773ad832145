use Rattle.std.proofs.Common.{sym, ap, subst}
use Rattle.mini_broker.specs.State.{VhostState}
use Rattle.broker_store.specs.Queues.{AreAbove}
use Rattle.mini_broker.proofs.vhost.Vhost.publish.Goals as goal

pub spread-requires-clause-above : goal.spread-requires-clause-above
spread-requires-clause-above c = subst (AreAbove c.args.number) (sym (ap (λ (v : VhostState). v.queues) c.self.view_is)) c.requires.above
