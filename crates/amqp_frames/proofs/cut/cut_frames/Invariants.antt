use Rattle.std.proofs.Common.{◌-◌, length}
use Rattle.amqp_frames.proofs.CutLemmas.{Spells}
use Rattle.amqp_frames.proofs.cut.cut_frames.Given as goal

-- the frames so far are the octets so far
abbrev pub invariant-loop-head : goal.invariant-loop-head
invariant-loop-head l = Spells l.octets l.frames.items l.used

abbrev pub decreases-loop-head : goal.decreases-loop-head
decreases-loop-head l = length l.octets - l.used
