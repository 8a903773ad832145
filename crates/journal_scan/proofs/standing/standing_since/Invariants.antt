use Rattle.std.proofs.Common.{◌≡◌, take}
use Rattle.std.specs.Prelude.{fold}
use Rattle.fed_journal.specs.Copies.{Ready, standing_step}
use Rattle.journal_scan.specs.View.{standing_of}
use Rattle.journal_scan.proofs.standing.standing_since.Given as goal

-- where it stands after the entries so far
abbrev pub invariant-loop-entry : goal.invariant-loop-entry
invariant-loop-entry l = standing_of l.standing ≡ fold (standing_step l.copy l.publication) Ready (take l.entry-index l.entries)
