use Rattle.std.proofs.Common.{◌≡◌, ◌++◌, length, take, drop}
use Rattle.field_tables.specs.Tables.{HaveSpelling, ArePairs, fields_spelling, pairs_spelling}
use Rattle.field_tables.specs.View.{fields_of, pairs_of, fields_view, pairs_view}
use Rattle.field_tables.proofs.Patches.{free}
use Rattle.field_tables.proofs.writing.+write.Given as goal

abbrev pub invariant-put_fields-loop-value : goal.invariant-put_fields-loop-value
invariant-put_fields-loop-value l =
    (l.out.items ++ fields_spelling (fields_of (fields_view (drop l.value-index l.value-items))) ≡ l.fn.out.items ++ (free ++ fields_spelling (fields_of (fields_view l.value-items))))
    × HaveSpelling (fields_of (fields_view (drop l.value-index l.value-items)))
    × (take (length l.fn.out.items) l.out.items ≡ l.fn.out.items)

abbrev pub invariant-put_pairs-loop-name : goal.invariant-put_pairs-loop-name
invariant-put_pairs-loop-name l =
    (l.out.items ++ pairs_spelling (pairs_of (pairs_view (drop l.name-index l.name-items))) ≡ l.fn.out.items ++ (free ++ pairs_spelling (pairs_of (pairs_view l.name-items))))
    × ArePairs (pairs_of (pairs_view (drop l.name-index l.name-items)))
    × (take (length l.fn.out.items) l.out.items ≡ l.fn.out.items)
