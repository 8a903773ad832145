use Rattle.mini_broker.proofs.RoutedLemmas.{bare_routed}
use Rattle.mini_broker.proofs.vhost.Vhost.new.Goals as goal

pub invariant_of-result : goal.invariant_of-result
invariant_of-result c = bare_routed c.in_ok-new.field-0.routing _ _ c.in_ok-new.ensures.objects c.new-2.ensures c.new-3.ensures
