-- A queue that reads well is refused where its name stands before it.
use Rattle.std.proofs.Common.{refl}
use Rattle.std.proofs.lemmas.Result.{err_from_is_err_and}
use Rattle.defs_lists.proofs.queues.take_queue.Goals as goal

pub returns-in_err-once-clause-fault : goal.returns-in_err-once-clause-fault
returns-in_err-once-clause-fault c =
    let p = err_from_is_err_and c.from_residual-in_err-once.result c.from_residual-in_err-once.ensures.1 in
    rw (p.1, p.2) (λ real. rw (c.in_ok-queue.ensures.ok, ← c.in_ok-name.ensures, c.in_err-once.ensures.fault real) refl)
