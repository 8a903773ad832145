use Rattle.amqp_frames.proofs.LawLemmas.{part_without_fault}
use Rattle.amqp_frames.proofs.laws.parts_have_no_fault.Goals as goal

pub returns : goal.returns
returns c = part_without_fault
