use Rattle.std.proofs.Common.{ap, ◌∙◌}
use Rattle.broker_store.specs.Queues as queues
use Rattle.broker_view.proofs.Questions.{first_ready-is}
use Rattle.broker_view.proofs.run.Run.first_ready.Goals as goal

pub returns : goal.returns
returns c = c.first_ready.ensures ∙ ap (λ q. queues.ready_in q c.in_ok-vhost.field-0.now.queues) c.as_str.ensures ∙ first_ready-is c.args.self.now c.args.place.now c.in_ok-vhost.field-0.now c.args.queue.now c.in_ok-vhost.ensures.view.copies
