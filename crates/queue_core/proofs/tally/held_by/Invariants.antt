use Rattle.std.proofs.Common.{◌≡◌, take}
use Rattle.queue_core.specs.Rows.{is_hold_of}
use Rattle.queue_core.specs.Copies.{held_in}
use Rattle.queue_core.proofs.tally.held_by.Given as goal

abbrev pub invariant-loop-count : goal.invariant-loop-count
invariant-loop-count l = l.copies ≡ held_in (is_hold_of l.holder) (take l.count-index l.counts)
