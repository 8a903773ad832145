use Rattle.std.proofs.lemmas.Result.{err_from_is_err_and}
use Rattle.amqp_props.proofs.Steps.{end_fails}
use Rattle.amqp_props.proofs.reading.header_of.Goals as goal

pub returns-in_err-ended_of : goal.returns-in_err-ended_of
returns-in_err-ended_of c =
    let p = err_from_is_err_and c.from_residual-in_err-ended_of.result c.from_residual-in_err-ended_of.ensures.1 in
    rw (p.1, p.2) (end_fails _ _ _ _ _ _ _ c.in_ok-size.ensures c.in_ok-props.ensures c.in_err-ended_of.ensures)
