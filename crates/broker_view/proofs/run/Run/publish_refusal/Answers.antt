use Rattle.std.proofs.Common.{ap, ap₂, ◌∙◌}
use Rattle.std.specs.Option.{option_map}
use Rattle.mini_broker.specs.Publish.{publish_refusal}
use Rattle.broker_view.specs.Reasons.{reason_of}
use Rattle.broker_view.proofs.Refusals.{publish-refusal-is}
use Rattle.broker_view.proofs.run.Run.publish_refusal.Goals as goal

pub returns : goal.returns
returns c =
    c.reason_in.ensures
    ∙ ap (option_map reason_of) (c.publish_refusal.ensures.refusal ∙ ap (λ x. publish_refusal x c.in_ok-vhost.vhost.now) c.as_str.ensures)
    ∙ publish-refusal-is c.args.self.now c.args.place.now c.in_ok-vhost.vhost.now c.args.exchange.now c.in_ok-vhost.ensures.view.configured
