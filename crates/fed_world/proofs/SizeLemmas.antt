-- Octets of messages, entry by entry.
use Rattle.std.proofs.Common.{◌≡◌, ◌+◌, List, [], ◌∷◌, ◌++◌}
use Rattle.std.proofs.lemmas.List.Sums.{sum_by-cons, sum_by_push}
use Rattle.fed_journal.specs.declared.entry.Entry.{Entry}
use Rattle.fed_journal.specs.Sizes.{entry_bytes, byte_count}

pub byte-cons : (e : Entry) (es : List Entry) → byte_count (e ∷ es) ≡ entry_bytes e + byte_count es
unfolding byte_count
byte-cons e es = sum_by-cons entry_bytes e es

pub byte-push : (es : List Entry) (e : Entry) → byte_count (es ++ e ∷ []) ≡ byte_count es + entry_bytes e
unfolding byte_count
byte-push es e = sum_by_push entry_bytes es e
