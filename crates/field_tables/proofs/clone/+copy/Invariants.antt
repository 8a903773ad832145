use Rattle.std.proofs.Common.{◌≡◌, take}
use Rattle.field_tables.specs.View.{fields_view, pairs_view}
use Rattle.field_tables.proofs.clone.+copy.Given as goal

abbrev pub invariant-copy_fields-loop-value : goal.invariant-copy_fields-loop-value
invariant-copy_fields-loop-value l = fields_view l.copies.items ≡ fields_view (take l.value-index l.value-items)

abbrev pub invariant-copy_pairs-loop-name : goal.invariant-copy_pairs-loop-name
invariant-copy_pairs-loop-name l = pairs_view l.copies.items ≡ pairs_view (take l.name-index l.name-items)
