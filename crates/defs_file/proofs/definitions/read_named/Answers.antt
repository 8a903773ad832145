-- A sum fails only for want of memory.
use Rattle.std.proofs.lemmas.Result.{err_from_is_err_and}
use Rattle.defs_file.proofs.definitions.read_named.Goals as goal

pub returns-in_err-add-clause-fault : goal.returns-in_err-add-clause-fault
returns-in_err-add-clause-fault c =
    let p = err_from_is_err_and c.from_residual-in_err-add.result c.from_residual-in_err-add.ensures.1 in
    rw (p.1, p.2) (λ real. absurd (real c.in_err-add.ensures.fault))

pub returns-in_err-add-2-clause-fault : goal.returns-in_err-add-2-clause-fault
returns-in_err-add-2-clause-fault c =
    let p = err_from_is_err_and c.from_residual-in_err-add-2.result c.from_residual-in_err-add-2.ensures.1 in
    rw (p.1, p.2) (λ real. absurd (real c.in_err-add-2.ensures.fault))
