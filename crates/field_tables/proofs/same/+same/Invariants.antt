use Rattle.std.proofs.Common.{◌≡◌, drop}
use Rattle.field_tables.specs.View.{fields_of, fields_view, pairs_of, pairs_view}
use Rattle.field_tables.specs.Same.{same_fields, same_pairs}
use Rattle.field_tables.proofs.same.+same.Given as goal

abbrev pub invariant-same_fields-loop-i : goal.invariant-same_fields-loop-i
invariant-same_fields-loop-i l =
    same_fields (fields_of (fields_view (drop l.i l.value-items))) (fields_of (fields_view (drop l.i l.other.items)))
    ≡ same_fields (fields_of (fields_view l.fn.one.items)) (fields_of (fields_view l.fn.other.items))

abbrev pub invariant-same_pairs-loop-i : goal.invariant-same_pairs-loop-i
invariant-same_pairs-loop-i l =
    same_pairs (pairs_of (pairs_view (drop l.i l.pair-items))) (pairs_of (pairs_view (drop l.i l.other.items)))
    ≡ same_pairs (pairs_of (pairs_view l.fn.one.items)) (pairs_of (pairs_view l.fn.other.items))
