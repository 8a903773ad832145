use Rattle.std.proofs.Common.{ap, ap₂, ◌∙◌}
use Rattle.std.specs.Option.{option_map}
use Rattle.fed_journal.specs.Row.{channel_of}
use Rattle.mini_broker.specs.Consume.{queue_refusal}
use Rattle.broker_view.specs.Reasons.{reason_of}
use Rattle.broker_view.proofs.Refusals.{queue-refusal-is}
use Rattle.broker_view.proofs.run.Run.queue_refusal.Goals as goal

pub returns : goal.returns
returns c =
    c.reason_in.ensures
    ∙ ap (option_map reason_of) (c.queue_refusal.ensures.refusal ∙ ap₂ (λ k q. queue_refusal k q c.in_ok-vhost.vhost.now) c.channel_of.ensures c.as_str.ensures)
    ∙ queue-refusal-is c.args.self.now c.args.place.now c.in_ok-vhost.vhost.now (channel_of c.args.client) c.args.queue.now c.in_ok-vhost.ensures.view.configured
