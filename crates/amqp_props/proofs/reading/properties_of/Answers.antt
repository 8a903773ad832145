use Rattle.std.proofs.lemmas.Result.{err_from_is_err_and}
use Rattle.amqp_props.proofs.Steps.{first_fails, later_fails}
use Rattle.amqp_props.proofs.reading.properties_of.Goals as goal

pub returns-in_err-reserved : goal.returns-in_err-reserved
returns-in_err-reserved c =
    let p = err_from_is_err_and c.from_residual-in_err-reserved.result c.from_residual-in_err-reserved.ensures.1 in
    rw (p.1, p.2)
    (later_fails _ _ _ _ _ _ _ _ c.in_ok-content_type.ensures
    (later_fails _ _ _ _ _ _ _ _ c.in_ok-content_encoding.ensures
    (later_fails _ _ _ _ _ _ _ _ c.in_ok-headers.ensures
    (later_fails _ _ _ _ _ _ _ _ c.in_ok-delivery_mode.ensures
    (later_fails _ _ _ _ _ _ _ _ c.in_ok-priority.ensures
    (later_fails _ _ _ _ _ _ _ _ c.in_ok-correlation_id.ensures
    (later_fails _ _ _ _ _ _ _ _ c.in_ok-reply_to.ensures
    (later_fails _ _ _ _ _ _ _ _ c.in_ok-expiration.ensures
    (later_fails _ _ _ _ _ _ _ _ c.in_ok-message_id.ensures
    (later_fails _ _ _ _ _ _ _ _ c.in_ok-timestamp.ensures
    (later_fails _ _ _ _ _ _ _ _ c.in_ok-type_name.ensures
    (later_fails _ _ _ _ _ _ _ _ c.in_ok-user_id.ensures
    (later_fails _ _ _ _ _ _ _ _ c.in_ok-app_id.ensures (first_fails _ _ _ _ _ _ c.in_err-reserved.ensures))))))))))))))

pub returns-in_err-app_id : goal.returns-in_err-app_id
returns-in_err-app_id c =
    let p = err_from_is_err_and c.from_residual-in_err-app_id.result c.from_residual-in_err-app_id.ensures.1 in
    rw (p.1, p.2)
    (later_fails _ _ _ _ _ _ _ _ c.in_ok-content_type.ensures
    (later_fails _ _ _ _ _ _ _ _ c.in_ok-content_encoding.ensures
    (later_fails _ _ _ _ _ _ _ _ c.in_ok-headers.ensures
    (later_fails _ _ _ _ _ _ _ _ c.in_ok-delivery_mode.ensures
    (later_fails _ _ _ _ _ _ _ _ c.in_ok-priority.ensures
    (later_fails _ _ _ _ _ _ _ _ c.in_ok-correlation_id.ensures
    (later_fails _ _ _ _ _ _ _ _ c.in_ok-reply_to.ensures
    (later_fails _ _ _ _ _ _ _ _ c.in_ok-expiration.ensures
    (later_fails _ _ _ _ _ _ _ _ c.in_ok-message_id.ensures
    (later_fails _ _ _ _ _ _ _ _ c.in_ok-timestamp.ensures
    (later_fails _ _ _ _ _ _ _ _ c.in_ok-type_name.ensures
    (later_fails _ _ _ _ _ _ _ _ c.in_ok-user_id.ensures (first_fails _ _ _ _ _ _ c.in_err-app_id.ensures)))))))))))))
