use Rattle.amqp_frames.proofs.LawLemmas.{one_fault}
use Rattle.amqp_frames.proofs.laws.faults_are_one.Goals as goal

pub returns : goal.returns
returns c = one_fault
