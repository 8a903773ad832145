use Rattle.std.proofs.Common.{◌≡◌, ◌++◌, take}
use Rattle.field_tables.specs.View.{pairs_view}
use Rattle.hop_headers.proofs.pairs.copy_pairs.Given as goal

abbrev pub invariant-loop-name : goal.invariant-loop-name
invariant-loop-name l = pairs_view l.to.items ≡ pairs_view l.fn.to.items ++ pairs_view (take l.name-index l.from)
