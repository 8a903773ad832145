use Rattle.std.proofs.Common.{◌≡◌, subst}
use Rattle.std.specs.Prelude.{IfOk}
use Rattle.broker_view.proofs.OwnedNames.{routes-is}
use Rattle.broker_view.proofs.run.Run.reached.Goals as goal

pub returns-in-Some : goal.returns-in-Some
returns-in-Some c = subst (λ q. IfOk c.reached.result (λ names. names.items ≡ q)) (routes-is c.args.self.now c.args.place.now c.in-Some.vhost.now c.args.message.now c.in-Some.ensures.view.configured) c.reached.ensures
