use Rattle.std.proofs.Common.{◌≡◌, drop}
use Rattle.fed_journal.specs.Copies.{standing}
use Rattle.journal_scan.proofs.standing.standing.Given as goal

-- what is left gives the answer
abbrev pub invariant-loop-at : goal.invariant-loop-at
invariant-loop-at l = standing l.copy (drop l.at l.journal) ≡ standing l.copy l.journal
