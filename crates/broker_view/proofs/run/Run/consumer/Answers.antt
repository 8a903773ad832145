use Rattle.std.proofs.Common.{ap, sym, ◌∙◌}
use Rattle.mini_broker.specs.Consume.{consumer_of}
use Rattle.mini_broker.specs.Deliver as deliver
use Rattle.broker_view.proofs.Questions.{held_count-is}
use Rattle.broker_view.proofs.Holding.{counts-as}
use Rattle.broker_view.proofs.run.Run.consumer.Goals as goal

pub returns-clause-held : goal.returns-clause-held
returns-clause-held c =
    c.held_count.ensures
    ∙ ap (λ q. deliver.held_count q c.in_ok-consumer.consumer.now.holder c.in_ok-vhost.vhost.now.queues) c.as_str-2.ensures
    ∙ held_count-is c.args.self.now c.args.place.now c.in_ok-vhost.vhost.now c.args.client c.args.tag.now c.in_ok-consumer.consumer.now.queue c.in_ok-consumer.consumer.now c.in_ok-vhost.ensures.view.copies
    (λ n h r is. counts-as c.args.self.now c.args.place.now c.in_ok-vhost.vhost.now c.args.client c.args.tag.now c.in_ok-consumer.consumer.now n h r c.in_ok-vhost.ensures.view.consuming (ap (λ t. consumer_of c.args.client t c.in_ok-vhost.vhost.now) (sym c.as_str.ensures) ∙ sym c.in_ok-consumer.ensures) is)
