use Rattle.std.proofs.Common.{arith}
use Rattle.amqp_content.proofs.assembler.octets_fit.Goals as goal

pub returns : goal.returns
returns c = λ i. omega (arith, c.type_inv.octets i)
