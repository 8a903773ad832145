use Rattle.std.proofs.Common.{◌≡◌, drop}
use Rattle.fed_journal.specs.Copies.{publication_of}
use Rattle.journal_scan.proofs.copies.publication_of.Given as goal

-- what is left gives the answer
abbrev pub invariant-loop-entry : goal.invariant-loop-entry
invariant-loop-entry l = publication_of l.copy (drop l.entry-index l.journal) ≡ publication_of l.copy l.journal
