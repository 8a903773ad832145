use Rattle.amqp_props.proofs.Headers.{headers_one}
use Rattle.amqp_props.proofs.laws.headers_are_one.Goals as goal

pub returns : goal.returns
returns c = headers_one
