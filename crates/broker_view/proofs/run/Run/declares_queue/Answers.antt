use Rattle.std.proofs.Common.{ap, ap₂, ◌∙◌}
use Rattle.std.specs.Option.{option_map}
use Rattle.fed_journal.specs.Row.{channel_of}
use Rattle.mini_broker.specs.Declare.{declare_answer}
use Rattle.broker_view.specs.Reasons.{with_reason}
use Rattle.broker_view.proofs.Refusals.{queue-declared-is}
use Rattle.broker_view.proofs.run.Run.declares_queue.Goals as goal

pub returns-in-Some : goal.returns-in-Some
returns-in-Some c =
    c.with_reason.ensures
    ∙ ap with_reason (c.declares_queue.ensures.answer ∙ ap₂ (λ k q. declare_answer k q c.args.options c.in-Some.vhost.now) c.channel_of.ensures c.as_str.ensures)
    ∙ queue-declared-is c.args.self.now c.args.place.now c.in-Some.vhost.now (channel_of c.args.client) c.args.queue.now c.args.options c.in-Some.ensures.view.configured
