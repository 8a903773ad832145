use Rattle.std.proofs.Common.{◌≡◌, take}
use Rattle.std.specs.Prelude.{string_bytes, flat_map}
use Rattle.fed_journal.specs.Words.{percent_octet}
use Rattle.schedule_writer.proofs.words.escaped.Given as goal

-- the octets so far
abbrev pub invariant-loop-octet : goal.invariant-loop-octet
invariant-loop-octet l = string_bytes l.text ≡ flat_map percent_octet (take l.octet-index l.octets)
