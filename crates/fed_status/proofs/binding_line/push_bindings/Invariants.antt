use Rattle.std.proofs.Common.{◌≡◌, ◌++◌, take}
use Rattle.std.specs.Prelude.{flat_map}
use Rattle.fed_status.specs.Bindings.{binding_line}
use Rattle.fed_status.proofs.binding_line.push_bindings.Given as goal

-- the bindings so far are on the page
abbrev pub invariant-loop-binding : goal.invariant-loop-binding
invariant-loop-binding l = l.page ≡ l.fn.page ++ flat_map (binding_line l.place) (take l.binding-index l.bindings)
