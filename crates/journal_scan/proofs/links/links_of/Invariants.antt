use Rattle.std.proofs.Common.{◌≡◌, take}
use Rattle.std.specs.Prelude.{flat_map}
use Rattle.fed_journal.specs.Links.{links_of_broker}
use Rattle.journal_scan.proofs.links.links_of.Given as goal

-- the links of the brokers so far
abbrev pub invariant-loop-entry : goal.invariant-loop-entry
invariant-loop-entry l = l.links.items ≡ flat_map (links_of_broker l.journal) (take l.entry-index l.journal)
