use Rattle.std.proofs.Common.{◌≡◌, take}
use Rattle.fed_journal.specs.Phases.{session}
use Rattle.journal_scan.proofs.phases.session.Given as goal

-- the answer for the entries so far
abbrev pub invariant-loop-entry : goal.invariant-loop-entry
invariant-loop-entry l = l.last ≡ session (take l.entry-index l.journal) l.link
