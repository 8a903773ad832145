use Rattle.std.proofs.Common.{◌≡◌, ◌++◌, take}
use Rattle.std.specs.Prelude.{map}
use Rattle.fed_journal.specs.declared.entry.Entry.TheVariants.{GoneQueue}
use Rattle.fed_world.proofs.rows.close.push_gone.Given as goal

-- the queues so far are gone
abbrev pub invariant-loop-queue : goal.invariant-loop-queue
invariant-loop-queue l = l.entries.items ≡ l.fn.entries.items ++ map (GoneQueue l.place) (take l.queue-index l.queues)
