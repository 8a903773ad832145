-- No policy so far could choose upstreams.
use Rattle.std.proofs.Common.{◌≡◌, drop}
use Rattle.std.specs.List.{list_any}
use Rattle.upstream_sets.specs.Fitting.{could_choose}
use Rattle.upstream_sets.proofs.scope.any_could_choose.Given as goal

abbrev pub invariant-loop-policy : goal.invariant-loop-policy
invariant-loop-policy l =
    list_any (could_choose l.kind l.name) (drop l.policy-index l.policy-items) ≡ list_any (could_choose l.kind l.name) l.policy-items
