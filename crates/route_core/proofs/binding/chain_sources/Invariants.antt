use Rattle.std.proofs.Common.{◌≡◌, ◌+◌, length, take}
use Rattle.route_core.specs.Sources.{source_codes}
use Rattle.route_core.proofs.binding.chain_sources.Given as goal

abbrev pub invariant-loop-binding : goal.invariant-loop-binding
invariant-loop-binding l = (l.sources.codes ≡ source_codes (take l.binding-index l.bindings)) × (l.sources.spare + length l.sources.codes ≡ l.initial.sources.spare + length l.initial.sources.codes)
