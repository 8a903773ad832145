use Rattle.amqp_frames.proofs.LawLemmas.{stream_same}
use Rattle.amqp_frames.proofs.laws.frames_are_one.Goals as goal

pub returns : goal.returns
returns c = stream_same
