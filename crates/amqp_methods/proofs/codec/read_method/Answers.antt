use Rattle.std.proofs.Common.{subst, arith}
use Rattle.amqp_methods.specs.View.{call_of}
use Rattle.amqp_methods.specs.Reading.{Gives, copies}
use Rattle.amqp_methods.proofs.CallLemmas.{is_found, call_again}
use Rattle.amqp_methods.proofs.codec.read_method.Goals as goal

pub returns-clause-found : goal.returns-clause-found
returns-clause-found c = is_found c.args.payload.now c.payload_of.result (λ i. omega (arith, c.type_inv.payload i)) c.payload_of.ensures

pub returns-clause-only : goal.returns-clause-only
returns-clause-only c = λ call is spells. subst (λ f. Gives (copies c.args.payload.now) call_of c.payload_of.result f) (call_again call c.args.payload.now is spells) c.payload_of.ensures
