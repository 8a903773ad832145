-- The first fault of the three keys is that of the first that has one.
use Rattle.std.proofs.Common.{refl}
use Rattle.std.proofs.lemmas.Result.{err_from_is_err_and}
use Rattle.defs_values.specs.Policies.{definition_fault}
use Rattle.defs_values.proofs.policies.read_definition.Goals as goal

pub returns-in_err-upstream_pattern-clause-fault : goal.returns-in_err-upstream_pattern-clause-fault
unfolding definition_fault
returns-in_err-upstream_pattern-clause-fault c =
    let p = err_from_is_err_and c.from_residual-in_err-upstream_pattern.result c.from_residual-in_err-upstream_pattern.ensures.1 in
    rw (p.1, p.2) (λ real. rw (c.in_ok-upstream.ensures.ok, c.in_err-upstream_pattern.ensures.fault real) refl)

pub returns-in_err-set-clause-fault : goal.returns-in_err-set-clause-fault
unfolding definition_fault
returns-in_err-set-clause-fault c =
    let p = err_from_is_err_and c.from_residual-in_err-set.result c.from_residual-in_err-set.ensures.1 in
    rw (p.1, p.2) (λ real. rw (c.in_ok-upstream.ensures.ok, c.in_ok-upstream_pattern.ensures.ok, c.in_err-set.ensures.fault real) refl)

pub returns-clause-ok : goal.returns-clause-ok
unfolding definition_fault
returns-clause-ok c =
    rw (c.in_ok-upstream.ensures.ok, c.in_ok-upstream_pattern.ensures.ok, c.in_ok-set.ensures.ok) refl
