use Rattle.std.proofs.Common.{◌≡◌, ◌++◌, take, drop}
use Rattle.field_tables.specs.Fields.{Field}
use Rattle.field_tables.specs.View.{pairs_view}
use Rattle.hop_headers.specs.Names.{name_text}
use Rattle.hop_headers.specs.Stamps.{set_first}
use Rattle.hop_headers.proofs.pairs.index_of.Given as goal

abbrev pub invariant-loop-i : goal.invariant-loop-i
invariant-loop-i l = (v : Field) → set_first (name_text l.name) v (pairs_view l.pairs) ≡ pairs_view (take l.i l.pairs) ++ set_first (name_text l.name) v (pairs_view (drop l.i l.pairs))
