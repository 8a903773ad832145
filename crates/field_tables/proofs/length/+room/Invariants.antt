use Rattle.std.proofs.Common.{◌≡◌, drop}
use Rattle.field_tables.specs.View.{fields_of, pairs_of, fields_view, pairs_view}
use Rattle.field_tables.specs.Lengths.{room_after, fields_length, pairs_length}
use Rattle.field_tables.proofs.length.+room.Given as goal

abbrev pub invariant-after_values-loop-value : goal.invariant-after_values-loop-value
invariant-after_values-loop-value l =
    room_after l.left (fields_length (fields_of (fields_view (drop l.value-index l.value-items)))) ≡ room_after l.fn.room (fields_length (fields_of (fields_view l.fn.values.items)))

abbrev pub invariant-after_pairs-loop-name : goal.invariant-after_pairs-loop-name
invariant-after_pairs-loop-name l =
    room_after l.left (pairs_length (pairs_of (pairs_view (drop l.name-index l.name-items)))) ≡ room_after l.fn.room (pairs_length (pairs_of (pairs_view l.fn.pairs.items)))
