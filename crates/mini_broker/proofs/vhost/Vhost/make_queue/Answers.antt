use Rattle.mini_broker.proofs.RoutedLemmas.{routed_queue}
use Rattle.mini_broker.proofs.vhost.Vhost.make_queue.Goals as goal

pub invariant_of-self-2 : goal.invariant_of-self-2
invariant_of-self-2 c =
    rw (c.in_ok-stand_queue.ensures.routing, c.in_ok-stand_queue.ensures.queues) (routed_queue _ _ _ _ _ _ c.self.invariant)
