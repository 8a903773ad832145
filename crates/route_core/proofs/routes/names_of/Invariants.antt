use Rattle.std.proofs.Common.{◌≡◌, map, take}
use Rattle.std.specs.Prelude.{filter}
use Rattle.route_core.specs.declared.object.Object.{Object}
use Rattle.route_core.specs.Spreading.{is_queue_at}
use Rattle.route_core.proofs.routes.names_of.Given as goal

abbrev pub invariant-loop-object : goal.invariant-loop-object
invariant-loop-object l = l.names.items ≡ map (λ (o : Object). o.name) (filter (is_queue_at l.stops) (take l.object-index l.objects))
