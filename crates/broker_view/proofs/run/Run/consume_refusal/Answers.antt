use Rattle.std.proofs.Common.{ap, ap₂, ◌∙◌}
use Rattle.std.specs.Option.{option_map}
use Rattle.fed_journal.specs.Row.{channel_of}
use Rattle.mini_broker.specs.Consume.{consume_refusal}
use Rattle.broker_view.specs.Reasons.{reason_of}
use Rattle.broker_view.proofs.Refusals.{consume-refusal-is}
use Rattle.broker_view.proofs.run.Run.consume_refusal.Goals as goal

pub returns : goal.returns
returns c =
    c.reason_in.ensures
    ∙ ap (option_map reason_of) (c.consume_refusal.ensures.refusal
    ∙ ap (λ k. consume_refusal k c.as_str.result.now c.as_str-2.result.now c.in_ok-vhost.vhost.now) c.channel_of-who.ensures
    ∙ ap₂ (λ q t. consume_refusal (channel_of c.args.client) q t c.in_ok-vhost.vhost.now) c.as_str.ensures c.as_str-2.ensures)
    ∙ consume-refusal-is c.args.self.now c.args.place.now c.in_ok-vhost.vhost.now c.args.client c.args.queue.now c.args.tag.now c.in_ok-vhost.ensures.view.configured c.in_ok-vhost.ensures.view.consuming
