use Rattle.std.proofs.Common.{◌≡◌, ◌++◌, drop}
use Rattle.std.specs.Prelude.{filter}
use Rattle.field_tables.specs.View.{pairs_view}
use Rattle.hop_headers.specs.Names.{name_text}
use Rattle.hop_headers.specs.Propagation.{is_other}
use Rattle.hop_headers.proofs.propagation.copy_without.Given as goal

abbrev pub invariant-loop-pair : goal.invariant-loop-pair
invariant-loop-pair l =
    pairs_view l.to.items ++ filter (is_other (name_text l.name)) (pairs_view (drop l.pair-index l.from)) ≡ pairs_view l.fn.to.items ++ filter (is_other (name_text l.name)) (pairs_view l.from)
