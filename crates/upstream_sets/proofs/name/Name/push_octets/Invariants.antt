-- The octets so far are in the name.
use Rattle.std.proofs.Common.{◌≡◌, ◌++◌, take}
use Rattle.std.specs.Prelude.{flat_map}
use Rattle.fed_defs.specs.Words.{percent_octet}
use Rattle.upstream_sets.proofs.name.Name.push_octets.Given as goal

abbrev pub invariant-loop-octet : goal.invariant-loop-octet
invariant-loop-octet l = l.self ≡ l.fn.self ++ flat_map percent_octet (take l.octet-index l.octets)
