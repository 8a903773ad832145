use Rattle.std.proofs.Common.{ap, ◌∙◌}
use Rattle.broker_store.specs.Queues as queues
use Rattle.broker_view.proofs.Questions.{ready_count-is}
use Rattle.broker_view.proofs.run.Run.ready_count.Goals as goal

pub returns-in-Some : goal.returns-in-Some
returns-in-Some c = c.ready.ensures ∙ ap (λ q. queues.ready_count q c.in-Some.vhost.now.queues) c.as_str.ensures ∙ ready_count-is c.args.self.now c.args.place.now c.in-Some.vhost.now c.args.queue.now c.in-Some.ensures.view.copies
