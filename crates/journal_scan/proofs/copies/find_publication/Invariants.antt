use Rattle.std.proofs.Common.{◌≡◌, drop}
use Rattle.fed_journal.specs.Copies.{find_publication}
use Rattle.journal_scan.proofs.copies.find_publication.Given as goal

-- what is left gives the answer
abbrev pub invariant-loop-entry : goal.invariant-loop-entry
invariant-loop-entry l = find_publication l.number (drop l.entry-index l.journal) ≡ find_publication l.number l.journal
