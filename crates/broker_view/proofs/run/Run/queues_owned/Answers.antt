use Rattle.std.proofs.Common.{◌≡◌, subst}
use Rattle.std.specs.Prelude.{IfOk}
use Rattle.broker_view.proofs.OwnedNames.{owned-is}
use Rattle.broker_view.proofs.run.Run.queues_owned.Goals as goal

pub returns-in-Some : goal.returns-in-Some
returns-in-Some c = subst (λ q. IfOk c.owned.result (λ names. names.items ≡ q)) (owned-is c.args.self.now c.args.place.now c.args.connection c.in-Some.vhost.now c.in-Some.ensures.view.configured) c.owned.ensures.names
