use Rattle.std.proofs.Common.{◌≡◌, take}
use Rattle.fed_journal.specs.Configuration.{queues_of}
use Rattle.journal_scan.proofs.configuration.queues_of.Given as goal

-- the queues after the entries so far
abbrev pub invariant-loop-entry : goal.invariant-loop-entry
invariant-loop-entry l = l.queues.items ≡ queues_of (take l.entry-index l.journal) l.place
