use Rattle.std.proofs.Common.{rules}
use Rattle.mini_broker.proofs.CloseLemmas.{routed_others}
use Rattle.mini_broker.proofs.vhost.Vhost.remove_queue.Goals as goal

pub invariant_of-self-2 : goal.invariant_of-self-2
invariant_of-self-2 c =
    rw (c.remove_named.ensures.routing (search rules), c.remove_named.ensures.queues (search rules)) (routed_others _ _ _ _ _ c.self.invariant)
