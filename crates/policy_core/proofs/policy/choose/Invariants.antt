-- The best of the policies that were seen.
use Rattle.std.proofs.Common.{map, take, option_map}
use Rattle.policy_core.specs.Policies.{policy_of, fits, is_above}
use Rattle.policy_core.proofs.BestLemmas.{IsBestOf}
use Rattle.policy_core.proofs.policy.choose.Given as goal

abbrev pub invariant-loop-place : goal.invariant-loop-place
invariant-loop-place l =
    IsBestOf (fits l.kind l.name) is_above (map policy_of (take l.place l.list))
    (option_map (λ b. (b.0, policy_of b.1.now)) l.best)
