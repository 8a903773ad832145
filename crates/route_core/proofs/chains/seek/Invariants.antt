use Rattle.std.proofs.Common.{ℕ, ◌≤◌, length}
use Rattle.std.specs.Prelude.{◌%◌}
use Rattle.route_core.specs.Chains.{IsLastIn}
use Rattle.route_core.proofs.ChainLemmas.{IsSought}
use Rattle.route_core.proofs.chains.seek.Given as goal

abbrev pub invariant-loop-at : goal.invariant-loop-at
invariant-loop-at l = (l.at ≤ length l.codes) × ((below : ℕ) → below ≤ length l.codes → IsLastIn (length l.heads) (l.code % length l.heads) l.codes below l.from → IsSought (length l.heads) l.code l.codes below l.at)

abbrev pub decreases-loop-at : goal.decreases-loop-at
decreases-loop-at l = l.at
