use Rattle.std.proofs.Common.{◌≡◌, ◌++◌, take}
use Rattle.std.specs.Prelude.{flat_map}
use Rattle.fed_status.specs.Bindings.{binding_lines}
use Rattle.fed_status.proofs.listing.push_bindings.Given as goal

-- the places so far are on the page
abbrev pub invariant-loop-place : goal.invariant-loop-place
invariant-loop-place l = l.page ≡ l.fn.page ++ flat_map (binding_lines l.journal) (take l.place-index l.places)
