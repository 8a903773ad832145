use Rattle.std.proofs.Common.{◌≡◌, ◌++◌, take}
use Rattle.field_tables.specs.View.{fields_view}
use Rattle.hop_headers.proofs.pairs.copy_values.Given as goal

abbrev pub invariant-loop-value : goal.invariant-loop-value
invariant-loop-value l = fields_view l.to.items ≡ fields_view l.fn.to.items ++ fields_view (take l.value-index l.from)
