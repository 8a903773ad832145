-- The rules so far and those of what is left are those of all.
use Rattle.std.proofs.Common.{◌≡◌, ◌++◌, map, drop}
use Rattle.policy_core.specs.Policies.{policy_of}
use Rattle.fed_defs.specs.Policies.{rule_of}
use Rattle.upstream_sets.proofs.scope.rules_of.Given as goal

abbrev pub invariant-loop-policy : goal.invariant-loop-policy
invariant-loop-policy l =
    map policy_of l.rules.items ++ map rule_of (drop l.policy-index l.policy-items) ≡ map rule_of l.policy-items
