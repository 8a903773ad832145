use Rattle.amqp_content.proofs.FrameLemmas.{received_read}
use Rattle.amqp_content.proofs.part.begin_content.Goals as goal

pub returns-clause-gives : goal.returns-clause-gives
returns-clause-gives c = received_read c.args.payload.now c.in_ok-size.size c.in_ok-size.props _ c.in_ok-size.ensures.exact c.if-size-gt-MAX_BODY.false c.new.ensures.items
