use Rattle.std.proofs.Common.{arith}
use Rattle.amqp_props.proofs.Headers.{is_found, is_short, is_read}
use Rattle.amqp_props.proofs.reading.read_header.Goals as goal

pub returns-clause-found : goal.returns-clause-found
returns-clause-found c = is_found c.args.payload.now c.header_of.result (λ i. omega (arith, c.type_inv.payload i)) c.header_of.ensures

pub returns-clause-short : goal.returns-clause-short
returns-clause-short c =
    is_short c.args.payload.now c.header_of.result (is_found c.args.payload.now c.header_of.result (λ i. omega (arith, c.type_inv.payload i)) c.header_of.ensures)

pub returns-clause-only : goal.returns-clause-only
returns-clause-only c = λ size props is spelled. is_read c.args.payload.now c.header_of.result size props is spelled c.header_of.ensures
