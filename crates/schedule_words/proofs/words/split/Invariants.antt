use Rattle.std.proofs.Common.{◌≡◌, ◌≤◌, ◌++◌, drop, length}
use Rattle.schedule_words.specs.Words.{pieces_of}
use Rattle.schedule_words.proofs.Pieces.{onto}
use Rattle.schedule_words.proofs.words.split.Given as goal

-- the pieces so far, and the rest of the octets cut after what there is of the next
abbrev pub invariant-loop-octet : goal.invariant-loop-octet
invariant-loop-octet l = record {
  cut : l.pieces.items ++ onto l.piece.items (pieces_of l.separator (drop l.octet-index l.octets)) ≡ pieces_of l.separator l.octets;
  few : length l.pieces.items ≤ l.octet-index;
}
