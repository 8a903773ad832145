use Rattle.mini_broker.proofs.RoutedLemmas.{routed_same}
use Rattle.mini_broker.proofs.CloseLemmas.{freed_names}
use Rattle.mini_broker.proofs.vhost.Vhost.disconnect.Goals as goal

pub invariant_of-self : goal.invariant_of-self
invariant_of-self c =
    rw c.free_held.ensures (routed_same _ _ _ _ _ (freed_names c.args.connection 0 c.as_slice.result.now c.self.inside.queues) c.self.invariant)
