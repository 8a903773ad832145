use Rattle.std.proofs.Common.{◌≡◌, ◌++◌, take}
use Rattle.std.specs.Prelude.{flat_map}
use Rattle.fed_journal.specs.Words.{hex_octet}
use Rattle.fed_journal.proofs.page.Page.push_hex.Given as goal

-- the octets so far are on the page
abbrev pub invariant-loop-octet : goal.invariant-loop-octet
invariant-loop-octet l = l.self ≡ l.fn.self ++ flat_map hex_octet (take l.octet-index l.octets)
