use Rattle.std.proofs.Common.{refl}
use Rattle.amqp_frames.specs.Frames.{frame_spelling}
use Rattle.std.specs.Prelude.{◌++◌}
use Rattle.amqp_frames.proofs.LawLemmas.{first_frame_same, unfinished_begins_none, fault_begins_none}
use Rattle.amqp_frames.proofs.laws.frames_are_apart.Goals as goal

pub returns-clause-apart : goal.returns-clause-apart
returns-clause-apart c = first_frame_same

pub returns-clause-finished : goal.returns-clause-finished
returns-clause-finished c = λ f more is u. unfinished_begins_none (frame_spelling f ++ more) u f more is refl

pub returns-clause-sound : goal.returns-clause-sound
returns-clause-sound c = λ f more place fault is h. fault_begins_none place (frame_spelling f ++ more) fault h f more is refl
