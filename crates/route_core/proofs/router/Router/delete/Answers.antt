use Rattle.std.proofs.Common.{rules, arith}
use Rattle.route_core.proofs.ObjectLemmas.{order_filter}
use Rattle.route_core.proofs.SpreadLemmas.{codes_length}
use Rattle.route_core.proofs.router.Router.delete.Goals as goal

pub invariant_of-self : goal.invariant_of-self
invariant_of-self c = record {
  order = rw c.remove_object.ensures.items (order_filter _ _ c.self.invariant.order);
  objects_fit = omega (arith, c.remove_object.ensures.len, c.remove_object.ensures.capacity);
  bindings_fit = omega (arith, c.remove_ends.ensures.len, c.remove_ends.ensures.capacity);
  sources = search rules;
  sources_fit = omega (arith, c.chain_sources.ensures.spare, c.remove_ends.ensures.len, c.self.invariant.sources_fit, codes_length c.self.inside.bindings.items c.self.inside.sources.codes c.self.invariant.sources);
}
