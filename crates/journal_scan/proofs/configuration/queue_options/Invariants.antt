use Rattle.std.proofs.Common.{◌≡◌, take}
use Rattle.fed_journal.specs.Configuration.{queue_options}
use Rattle.journal_scan.proofs.configuration.queue_options.Given as goal

-- the options as they stand after the entries so far
abbrev pub invariant-loop-entry : goal.invariant-loop-entry
invariant-loop-entry l = l.last ≡ queue_options (take l.entry-index l.journal) l.place l.queue
