use Rattle.std.proofs.Common.{◌≡◌, ◌++◌, take}
use Rattle.std.specs.Prelude.{flat_map}
use Rattle.fed_status.specs.Queues.{copy_word}
use Rattle.fed_status.proofs.queue_line.push_copies.Given as goal

-- the copies so far are on the page
abbrev pub invariant-loop-copy : goal.invariant-loop-copy
invariant-loop-copy l = l.page ≡ l.fn.page ++ flat_map (copy_word l.journal) (take l.copy-index l.copies)
