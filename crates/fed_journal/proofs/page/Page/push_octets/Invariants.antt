use Rattle.std.proofs.Common.{◌≡◌, ◌++◌, take}
use Rattle.std.specs.Prelude.{flat_map}
use Rattle.fed_journal.specs.Words.{percent_octet}
use Rattle.fed_journal.proofs.page.Page.push_octets.Given as goal

-- the octets so far are on the page
abbrev pub invariant-loop-octet : goal.invariant-loop-octet
invariant-loop-octet l = l.self ≡ l.fn.self ++ flat_map percent_octet (take l.octet-index l.octets)
