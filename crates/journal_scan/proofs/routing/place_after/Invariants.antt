use Rattle.std.proofs.Common.{◌≡◌, take}
use Rattle.fed_journal.specs.Routes as routes
use Rattle.journal_scan.proofs.routing.place_after.Given as goal

-- the place after the entries so far
abbrev pub invariant-loop-entry : goal.invariant-loop-entry
invariant-loop-entry l = l.site ≡ routes.site (take l.entry-index l.journal) l.place
