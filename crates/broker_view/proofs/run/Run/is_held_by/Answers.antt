use Rattle.std.proofs.Common.{◌∙◌}
use Rattle.broker_view.proofs.HeldBy.{held_by-is}
use Rattle.broker_view.proofs.run.Run.is_held_by.Goals as goal

pub returns-in-Some : goal.returns-in-Some
returns-in-Some c = c.holds.ensures ∙ held_by-is c.args.self.now c.args.place.now c.in-Some.vhost.now c.args.client c.args.copy c.in-Some.ensures.view.copies c.in-Some.ensures.view.configured.distinct
