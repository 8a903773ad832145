-- Bindings are refused over the names that were read, and a sum fails only for want of memory.
use Rattle.std.proofs.Common.{refl}
use Rattle.std.proofs.lemmas.Result.{err_from_is_err_and}
use Rattle.defs_file.specs.File.{objects_fault}
use Rattle.defs_file.proofs.definitions.read_objects.Goals as goal

pub returns-in_err-bindings-clause-fault : goal.returns-in_err-bindings-clause-fault
unfolding objects_fault
returns-in_err-bindings-clause-fault c =
    let p = err_from_is_err_and c.from_residual-in_err-bindings.result c.from_residual-in_err-bindings.ensures.1 in
    rw (p.1, p.2) (λ real. rw (c.in_ok-named.ensures.ok, ← c.in_ok-named.ensures.kept, ← c.in_ok-named.ensures.passed, c.in_err-bindings.ensures.fault real) refl)

pub returns-in_err-add-clause-fault : goal.returns-in_err-add-clause-fault
returns-in_err-add-clause-fault c =
    let p = err_from_is_err_and c.from_residual-in_err-add.result c.from_residual-in_err-add.ensures.1 in
    rw (p.1, p.2) (λ real. absurd (real c.in_err-add.ensures.fault))
