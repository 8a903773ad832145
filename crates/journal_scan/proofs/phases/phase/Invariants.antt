use Rattle.std.proofs.Common.{◌≡◌, take}
use Rattle.fed_journal.specs.Phases.{phase}
use Rattle.journal_scan.proofs.phases.phase.Given as goal

-- the answer for the entries so far
abbrev pub invariant-loop-entry : goal.invariant-loop-entry
invariant-loop-entry l = l.last ≡ phase (take l.entry-index l.journal) l.link
