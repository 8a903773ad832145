use Rattle.std.proofs.Common.{◌≡◌, ℕ, ◌+◌, ◌*◌, ◌≤◌, length}
use Rattle.field_tables.specs.Reading.{fields_at, pairs_at, value_at}
use Rattle.field_tables.specs.View.{fields_view, pairs_view}
use Rattle.field_tables.proofs.Loops.{with_front}
use Rattle.field_tables.proofs.Octets.{IsBytes}
use Rattle.field_tables.proofs.reading.+read.Given as goal

abbrev pub decreases-value_of : goal.decreases-value_of
decreases-value_of l = 3 * l.depth

abbrev pub decreases-inside_of : goal.decreases-inside_of
decreases-inside_of l = 3 * l.depth + 2

abbrev pub decreases-fields_of : goal.decreases-fields_of
decreases-fields_of l = 3 * l.depth + 1

abbrev pub decreases-pairs_of : goal.decreases-pairs_of
decreases-pairs_of l = 3 * l.depth + 1

abbrev pub invariant-fields_of-fields : goal.invariant-fields_of-fields
invariant-fields_of-fields l =
    (n : ℕ) × (length l.rest ≤ n) × (with_front (fields_view l.fields.items) (fields_at (value_at l.depth) n l.rest) ≡ fields_at (value_at l.depth) (length l.bytes) l.bytes) × IsBytes l.rest

abbrev pub decreases-fields_of-fields : goal.decreases-fields_of-fields
decreases-fields_of-fields l = length l.rest

abbrev pub invariant-pairs_of-pairs : goal.invariant-pairs_of-pairs
invariant-pairs_of-pairs l =
    (n : ℕ) × (length l.rest ≤ n) × (with_front (pairs_view l.pairs.items) (pairs_at (value_at l.depth) n l.rest) ≡ pairs_at (value_at l.depth) (length l.bytes) l.bytes) × IsBytes l.rest

abbrev pub decreases-pairs_of-pairs : goal.decreases-pairs_of-pairs
decreases-pairs_of-pairs l = length l.rest
