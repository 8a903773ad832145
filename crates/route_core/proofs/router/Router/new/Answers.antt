use Rattle.std.proofs.Common.{rules, arith}
use Rattle.route_core.proofs.ObjectLemmas.{order_first}
use Rattle.route_core.proofs.router.Router.new.Goals as goal

pub invariant_of-result : goal.invariant_of-result
invariant_of-result c = record {
  order = rw c.in_ok-predeclared.ensures order_first;
  objects_fit = omega arith;
  bindings_fit = omega arith;
  sources = search rules;
  sources_fit = omega arith;
}
