use Rattle.std.proofs.Common.{◌≡◌, drop}
use Rattle.std.specs.Prelude.{filter, slice_get}
use Rattle.route_core.specs.Bindings.{leaves}
use Rattle.route_core.proofs.binding.binding_at.Given as goal

abbrev pub invariant-loop-binding : goal.invariant-loop-binding
invariant-loop-binding l = slice_get (filter (leaves l.exchange) (drop l.binding-index l.bindings)) l.left ≡ slice_get (filter (leaves l.exchange) l.bindings) l.place
