use Rattle.std.proofs.Common.{◌∙◌}
use Rattle.broker_view.proofs.OwedStep.{first-secured-is}
use Rattle.broker_view.proofs.run.Run.first_secured.Goals as goal

pub returns : goal.returns
returns c = c.next_ready.ensures ∙ first-secured-is c.args.self.now c.args.place.now c.in_ok-host.field-0.now.confirms c.args.link.now c.args.session c.in_ok-host.ensures.published c.in_ok-host.ensures.confirms c.requires.there
