use Rattle.std.proofs.Common.{◌≡◌, take}
use Rattle.queue_core.specs.Copies.{held_in, any_hold}
use Rattle.queue_core.proofs.tally.total.Given as goal

abbrev pub invariant-loop-count : goal.invariant-loop-count
invariant-loop-count l = l.copies ≡ held_in any_hold (take l.count-index l.counts)
