use Rattle.std.proofs.Common.{◌≡◌, ◌-◌, ◌<◌, ◌≤◌, length, get_or}
use Rattle.route_core.specs.Bindings.{leaves}
use Rattle.route_core.specs.Sources.{source_code}
use Rattle.route_core.proofs.ChainLemmas.{NoneFrom}
use Rattle.route_core.proofs.binding.last_from.Given as goal

abbrev pub invariant-loop-at : goal.invariant-loop-at
invariant-loop-at l =
    (l.at ≤ length l.bindings)
    × (0 < l.at → get_or l.sources.codes (l.at - 1) 0 ≡ source_code l.exchange)
    × NoneFrom (leaves l.exchange) l.at l.bindings

abbrev pub decreases-loop-at : goal.decreases-loop-at
decreases-loop-at l = l.at
