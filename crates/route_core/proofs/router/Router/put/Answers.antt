use Rattle.std.proofs.Common.{arith}
use Rattle.route_core.proofs.ObjectLemmas.{order_push}
use Rattle.route_core.proofs.router.Router.put.Goals as goal

pub invariant_of-self : goal.invariant_of-self
invariant_of-self c = record {
  order = rw c.in-Ok.ensures.items (order_push (record { objects = c.self.inside.objects.items; bindings = c.self.inside.bindings.items }) _ _ c.self.invariant.order (rw (← c.self.view_is) at c.requires.free) (rw (← c.self.view_is) at c.requires.next));
  objects_fit = omega (arith, c.in-Ok.ensures.len, c.in-Ok.ensures.capacity);
  bindings_fit = c.self.invariant.bindings_fit;
  sources = c.self.invariant.sources;
  sources_fit = c.self.invariant.sources_fit;
}
