use Rattle.amqp_frames.proofs.LawLemmas.{part_short}
use Rattle.amqp_frames.proofs.laws.parts_are_short.Goals as goal

pub returns : goal.returns
returns c = part_short
