use Rattle.std.proofs.Common.{◌≡◌, ◌++◌, take}
use Rattle.std.specs.Prelude.{flat_map}
use Rattle.fed_journal.specs.Links.{links_set_by}
use Rattle.journal_scan.proofs.links.push_links.Given as goal

-- the links of the entries so far are appended
abbrev pub invariant-loop-entry : goal.invariant-loop-entry
invariant-loop-entry l = l.links.items ≡ l.fn.links.items ++ flat_map (links_set_by l.journal l.broker) (take l.entry-index l.journal)
