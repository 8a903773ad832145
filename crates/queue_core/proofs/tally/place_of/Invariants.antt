use Rattle.std.proofs.Common.{◌≡◌, take}
use Rattle.queue_core.specs.Rows.{is_hold_of}
use Rattle.queue_core.specs.Copies.{held_in}
use Rattle.queue_core.proofs.tally.place_of.Given as goal

abbrev pub invariant-loop-place : goal.invariant-loop-place
invariant-loop-place l = held_in (is_hold_of l.holder) (take l.place l.counts) ≡ 0
