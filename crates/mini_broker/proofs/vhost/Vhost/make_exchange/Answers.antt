use Rattle.mini_broker.proofs.RoutedLemmas.{routed_exchange}
use Rattle.mini_broker.proofs.vhost.Vhost.make_exchange.Goals as goal

pub invariant_of-self-2 : goal.invariant_of-self-2
invariant_of-self-2 c =
    rw (c.in_ok-stand_exchange.ensures.routing, c.in_ok-stand_exchange.ensures.exchanges) (routed_exchange _ _ _ _ _ _ c.self.invariant)
