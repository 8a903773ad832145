use Rattle.std.proofs.Common.{◌≡◌, ◌++◌, take}
use Rattle.std.specs.Prelude.{flat_map}
use Rattle.fed_status.specs.Queues.{queue_line}
use Rattle.fed_status.proofs.queue_line.push_lines_of.Given as goal

-- the lines of the queues so far are on the page
abbrev pub invariant-loop-queue : goal.invariant-loop-queue
invariant-loop-queue l = l.page ≡ l.fn.page ++ flat_map (queue_line l.journal l.place) (take l.queue-index l.queues)
