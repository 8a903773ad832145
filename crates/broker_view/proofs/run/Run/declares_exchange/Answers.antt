use Rattle.std.proofs.Common.{ap, ap₂, ◌∙◌}
use Rattle.std.specs.Option.{option_map}
use Rattle.mini_broker.specs.Declare.{declare_exchange_answer}
use Rattle.broker_view.specs.Reasons.{with_reason}
use Rattle.broker_view.proofs.Refusals.{exchange-declared-is}
use Rattle.broker_view.proofs.run.Run.declares_exchange.Goals as goal

pub returns-in-Some : goal.returns-in-Some
returns-in-Some c =
    c.with_reason.ensures
    ∙ ap with_reason (c.declares_exchange.ensures.answer ∙ ap (λ x. declare_exchange_answer x c.args.shape c.in-Some.vhost.now) c.as_str.ensures)
    ∙ exchange-declared-is c.args.self.now c.args.place.now c.in-Some.vhost.now c.args.exchange.now c.args.shape c.in-Some.ensures.view.configured
