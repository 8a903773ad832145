-- Octets taken one after the other.
use Rattle.std.proofs.Common.{◌≡◌, ℕ, ◌+◌, ◌-◌, ◌≤◌, ◌<◌, Bool, true, false, cond, List, [], ◌∷◌, ◌++◌, length, Option, Some, None, String, string_bytes, Global, Vec, refl, sym, ap, ◌∙◌, arith}
use Rattle.std.specs.Prelude.{option_and_then, nat_le, is_some}
use Rattle.std.proofs.lemmas.Bool.{leb-true, leb-false, le-leb, lt-leb}
use Rattle.std.proofs.lemmas.List.{length-append}
use Rattle.field_tables.specs.Fields.{Field, float, double, decimal, long_string, array, table, byte_array, Fields, field, Pairs, pair}
use Rattle.field_tables.specs.Tables.{value_spelling, fields_spelling, pairs_spelling, name_spelling, table_spelling, IsTable}
use Rattle.field_tables.specs.View.{fields_of, pairs_of, field_view, fields_view, pairs_view}
use Rattle.field_tables.specs.declared.value.FieldValue.{FieldValue}
use Rattle.field_tables.specs.declared.value.FieldValue.TheViews.{Table, roll-Table}
use Rattle.field_tables.proofs.Views.{view-Table}
use Rattle.field_tables.specs.Lengths.{is_within, room_after, value_length, fields_length, pairs_length, table_length, flat_length, inner_length}

-- what is left after so many octets
left_after : (room n : ℕ) → n ≤ room → room_after room n ≡ Some (room - n)
unfolding room_after
left_after room n h = rw (le-leb n room h) refl

none_after : (room n : ℕ) → room < n → room_after room n ≡ None
unfolding room_after
none_after room n h = rw (lt-leb n room h) refl

both_taken : (room n m : ℕ) (s t : Bool) → nat_le n room ≡ s → nat_le (n + m) room ≡ t
    → option_and_then (λ left. room_after left m) (cond s (Some (room - n)) None) ≡ cond t (Some (room - (n + m))) None
unfolding room_after
both_taken room n m true true e f =
    let h : n + m ≤ room = leb-true (n + m) room f in
    left_after (room - n) m (omega arith) ∙ ap (λ (k : ℕ). Some k) (omega arith)
both_taken room n m true false e f =
    let h : n ≤ room = leb-true n room e in
    let g : room < n + m = leb-false (n + m) room f in
    none_after (room - n) m (omega arith)
both_taken room n m false true e f = absurd (omega (arith, leb-true (n + m) room f, leb-false n room e))
both_taken room n m false false e f = refl

pub taken : (room n m : ℕ) → option_and_then (λ left. room_after left m) (room_after room n) ≡ room_after room (n + m)
unfolding room_after
taken room n m = both_taken room n m _ _ refl refl

pub taken_some : (room n m left : ℕ) → room_after room n ≡ Some left → room_after left m ≡ room_after room (n + m)
taken_some room n m left e = ap (λ (o : Option ℕ). option_and_then (λ r. room_after r m) o) (sym e) ∙ taken room n m

pub taken_none : (room n m : ℕ) → room_after room n ≡ None → None ≡ room_after room (n + m)
taken_none room n m e = ap (λ (o : Option ℕ). option_and_then (λ r. room_after r m) o) (sym e) ∙ taken room n m

pub taken_all : (left : ℕ) → Some left ≡ room_after left 0
taken_all left = sym (left_after left 0 (omega arith) ∙ ap (λ (k : ℕ). Some k) (omega arith))

-- ---- the octets of each value

pub value_is : (v : Field) → flat_length v + inner_length v ≡ value_length v
unfolding flat_length value_length fields_length pairs_length
value_is (array vs) = omega arith
value_is (table ps) = omega arith
value_is (float bytes) = omega arith
value_is (double bytes) = omega arith
value_is (decimal bytes) = omega arith
value_is (long_string bytes) = omega arith
value_is (byte_array bytes) = omega arith
value_is _ = refl

pub text_value_length : (bytes : List ℕ) → value_length (long_string bytes) ≡ 5 + length bytes
unfolding value_length
text_value_length bytes = omega arith

pub table_value_length : (ps : Pairs) → value_length (table ps) ≡ 5 + pairs_length ps
unfolding value_length pairs_length
table_value_length ps = omega arith

pub array_value_length : (vs : Fields) → value_length (array vs) ≡ 5 + fields_length vs
unfolding value_length fields_length
array_value_length vs = omega arith

pub flat_none : (room : ℕ) (v : Field) → room_after room (flat_length v) ≡ None → None ≡ room_after room (value_length v)
flat_none room v e = taken_none room (flat_length v) (inner_length v) e ∙ ap (room_after room) (value_is v)

pub flat_some : (room left : ℕ) (v : Field) → room_after room (flat_length v) ≡ Some left → room_after left (inner_length v) ≡ room_after room (value_length v)
flat_some room left v e = taken_some room (flat_length v) (inner_length v) left e ∙ ap (room_after room) (value_is v)

-- ---- one after the other, as a loop goes over them

pub fields_more : (v : Field) (vs : Fields) → fields_length (field v vs) ≡ value_length v + fields_length vs
unfolding fields_length value_length
fields_more v vs = length-append (value_spelling v) (fields_spelling vs)

pub pairs_more : (name : List ℕ) (v : Field) (ps : Pairs) → pairs_length (pair name v ps) ≡ (1 + length name + value_length v) + pairs_length ps
unfolding pairs_length value_length
pairs_more name v ps =
    omega (arith, length-append (name_spelling name) (value_spelling v ++ pairs_spelling ps), length-append (value_spelling v) (pairs_spelling ps))

pub values_none : (room : ℕ) (vs ws : List FieldValue) (v : FieldValue) → vs ≡ v ∷ ws → room_after room (value_length (field_view v)) ≡ None → None ≡ room_after room (fields_length (fields_of (fields_view vs)))
values_none room vs ws v is e = rw (is, fields_more (field_view v) (fields_of (fields_view ws))) (taken_none room _ _ e)

pub values_some : (room left : ℕ) (vs ws : List FieldValue) (v : FieldValue) → vs ≡ v ∷ ws → room_after room (value_length (field_view v)) ≡ Some left
    → room_after left (fields_length (fields_of (fields_view ws))) ≡ room_after room (fields_length (fields_of (fields_view vs)))
values_some room left vs ws v is e = rw (is, fields_more (field_view v) (fields_of (fields_view ws))) (taken_some room _ _ left e)

pub values_end : (left : ℕ) (vs : List FieldValue) → vs ≡ [] → Some left ≡ room_after left (fields_length (fields_of (fields_view vs)))
unfolding fields_length
values_end left vs is = rw is (taken_all left)

pub pairs_none : (room : ℕ) (ps qs : List (String Global × FieldValue)) (p : String Global × FieldValue) → ps ≡ p ∷ qs
    → room_after room (1 + length (string_bytes p.0) + value_length (field_view p.1)) ≡ None → None ≡ room_after room (pairs_length (pairs_of (pairs_view ps)))
pairs_none room ps qs p is e = rw (is, pairs_more (string_bytes p.0) (field_view p.1) (pairs_of (pairs_view qs))) (taken_none room _ _ e)

pub pairs_some : (room left : ℕ) (ps qs : List (String Global × FieldValue)) (p : String Global × FieldValue) → ps ≡ p ∷ qs
    → room_after room (1 + length (string_bytes p.0) + value_length (field_view p.1)) ≡ Some left
    → room_after left (pairs_length (pairs_of (pairs_view qs))) ≡ room_after room (pairs_length (pairs_of (pairs_view ps)))
pairs_some room left ps qs p is e = rw (is, pairs_more (string_bytes p.0) (field_view p.1) (pairs_of (pairs_view qs))) (taken_some room _ _ left e)

pub pairs_end : (left : ℕ) (ps : List (String Global × FieldValue)) → ps ≡ [] → Some left ≡ room_after left (pairs_length (pairs_of (pairs_view ps)))
unfolding pairs_length
pairs_end left ps is = rw is (taken_all left)

-- a table: four octets count those of its names and values
pub table_more : (ps : Pairs) → table_length ps ≡ 4 + pairs_length ps
unfolding table_length pairs_length
table_more ps = omega arith

pub table_some : (room left : ℕ) (ps : Pairs) → room_after room 4 ≡ Some left → room_after left (pairs_length ps) ≡ room_after room (table_length ps)
table_some room left ps e = rw (table_more ps) (taken_some room 4 (pairs_length ps) left e)

pub table_none : (room : ℕ) (ps : Pairs) → room_after room 4 ≡ None → None ≡ room_after room (table_length ps)
table_none room ps e = rw (table_more ps) (taken_none room 4 (pairs_length ps) e)

-- there is room for a table exactly where it is within
fits : (n room : ℕ) (t : Bool) → is_some (cond t (Some (room - n)) None) ≡ t
fits n room true = refl
fits n room false = refl

pub within_is : (ps : Pairs) (most : ℕ) → is_some (room_after most (table_length ps)) ≡ is_within ps most
unfolding room_after table_length
within_is ps most = fits (length (table_spelling ps)) most (nat_le (length (table_spelling ps)) most)

-- a table that has a spelling has its octets, however much room there is at least
some_is : (room left n : ℕ) → n ≤ room → Some left ≡ room_after room n → room - left ≡ n
some_is room left n h e =
    let same : left ≡ room - n = let is : Some left ≡ Some (room - n) = e ∙ left_after room n h in cc in
    omega (arith, same, h)

none_is : (room n : ℕ) → n ≤ room → None ≡ room_after room n → ⊥
none_is room n h e = let is : None ≡ Some (room - n) = e ∙ left_after room n h in absurd cc

spelled_within : (ps : Pairs) → IsTable ps → table_length ps ≤ 18446744073709551615
unfolding table_length
spelled_within ps h = omega (arith, h.counted)

pub spelled_some : (left : ℕ) (ps : Pairs) → IsTable ps → Some left ≡ room_after 18446744073709551615 (table_length ps) → 18446744073709551615 - left ≡ length (table_spelling ps)
unfolding table_length
spelled_some left ps h e = some_is 18446744073709551615 left (table_length ps) (spelled_within ps h) e

pub spelled_none : (ps : Pairs) → IsTable ps → None ≡ room_after 18446744073709551615 (table_length ps) → ⊥
spelled_none ps h e = none_is 18446744073709551615 (table_length ps) (spelled_within ps h) e

-- a table among the values
pub inner_table : (value : FieldValue) (ps : Vec (String Global × FieldValue) Global) → value ≡ Table (roll-Table record { pairs = ps }) → pairs_length (pairs_of (pairs_view ps.items)) ≡ inner_length (field_view value)
inner_table value ps is = rw (is, view-Table ps) refl
