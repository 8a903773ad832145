use Rattle.std.proofs.Common.{◌≡◌, ℕ, ◌<◌, get_or}
use Rattle.std.specs.Prelude.{vec_len}
use Rattle.route_core.proofs.chains.empty.Given as goal

abbrev pub invariant-loop-bucket : goal.invariant-loop-bucket
invariant-loop-bucket l = (vec_len l.heads ≡ vec_len l.initial.heads) × ((q : ℕ) → q < l.bucket → get_or l.heads.items q 0 ≡ 0)
