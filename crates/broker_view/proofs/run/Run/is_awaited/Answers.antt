use Rattle.std.proofs.Common.{◌∙◌}
use Rattle.broker_view.proofs.OwedStep.{awaited-is}
use Rattle.broker_view.proofs.run.Run.is_awaited.Goals as goal

pub returns-in-Some : goal.returns-in-Some
returns-in-Some c = c.is_awaited.ensures ∙ awaited-is c.args.self.now c.args.place.now c.in-Some.host.now.confirms c.args.link.now c.args.session c.in-Some.ensures.confirms c.requires.there
