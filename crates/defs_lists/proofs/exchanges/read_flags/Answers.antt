-- The first fault of the three keys is that of the first that has one.
use Rattle.std.proofs.Common.{refl}
use Rattle.std.proofs.lemmas.Result.{err_from_is_err_and}
use Rattle.defs_lists.specs.Exchanges.{exchange_flags_fault}
use Rattle.defs_lists.proofs.exchanges.read_flags.Goals as goal

pub returns-in_err-flag_at-clause-fault : goal.returns-in_err-flag_at-clause-fault
unfolding exchange_flags_fault
returns-in_err-flag_at-clause-fault c =
    let p = err_from_is_err_and c.from_residual-in_err-flag_at.result c.from_residual-in_err-flag_at.ensures.1 in
    rw (p.1, p.2) (λ real. rw (c.in_ok-durable.ensures.ok, c.in_err-flag_at.ensures.fault real) refl)

pub returns-in_err-internal-clause-fault : goal.returns-in_err-internal-clause-fault
unfolding exchange_flags_fault
returns-in_err-internal-clause-fault c =
    let p = err_from_is_err_and c.from_residual-in_err-internal.result c.from_residual-in_err-internal.ensures.1 in
    rw (p.1, p.2) (λ real. rw (c.in_ok-durable.ensures.ok, c.in_ok-flag_at.ensures.ok, c.in_err-internal.ensures.fault real) refl)
