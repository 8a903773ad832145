use Rattle.std.proofs.Common.{refl}
use Rattle.amqp_methods.specs.View.{call_of}
use Rattle.amqp_content.proofs.MethodLemmas.{other_carries_none}
use Rattle.amqp_content.proofs.part.has_content.Goals as goal

pub returns-in-BasicPublish : goal.returns-in-BasicPublish
unfolding call_of
returns-in-BasicPublish c = rw c.in-BasicPublish.is refl

pub returns-in-BasicReturn : goal.returns-in-BasicReturn
unfolding call_of
returns-in-BasicReturn c = rw c.in-BasicReturn.is refl

pub returns-in-BasicDeliver : goal.returns-in-BasicDeliver
unfolding call_of
returns-in-BasicDeliver c = rw c.in-BasicDeliver.is refl

pub returns-in-BasicGetOk : goal.returns-in-BasicGetOk
unfolding call_of
returns-in-BasicGetOk c = rw c.in-BasicGetOk.is refl

pub returns-in_default : goal.returns-in_default
returns-in_default c = other_carries_none c.args.method.now c.in_default.not-BasicPublish c.in_default.not-BasicReturn c.in_default.not-BasicDeliver c.in_default.not-BasicGetOk
