use Rattle.std.proofs.Common.{◌≡◌, ◌++◌}
use Rattle.std.specs.Prelude.{replicate}
use Rattle.fed_schedule.proofs.copies.push_copies.Given as goal

-- the copies so far
abbrev pub invariant-loop-copy : goal.invariant-loop-copy
invariant-loop-copy l = l.events.items ≡ l.fn.events.items ++ replicate l._copy (l.number, l.event)
