-- The fields that a value of the program stands for.
use Rattle.std.specs.Prelude.{ℕ, List, [], ◌∷◌, map, String, string_bytes}
use Rattle.std.specs.declared.alloc.Global.{Global}
use Rattle.field_tables.specs.Fields.{Field, boolean, signed_octet, octet, signed_short, short, signed_long, long, signed_longlong, float, double, decimal, long_string, array, timestamp, table, void, byte_array, Fields, no_fields, field, Pairs, no_pairs, pair}
use Rattle.field_tables.specs.declared.value.FieldValue.{FieldValue, fold-FieldValue}
use Rattle.field_tables.specs.declared.value.FieldValue.TheOpen.{FieldValue-F, Table-F}
use Rattle.field_tables.specs.declared.value.Table.{Table}

-- a list of fields as an array's, and of names and fields as a table's
abbrev pub fields_of : List Field → Fields
fields_of [] = no_fields
fields_of (v ∷ vs) = field v (fields_of vs)

abbrev pub pairs_of : List (List ℕ × Field) → Pairs
pairs_of [] = no_pairs
pairs_of (p ∷ ps) = pair p.0 p.1 (pairs_of ps)

abbrev pub named : String Global × Field → List ℕ × Field
named p = (string_bytes p.0, p.1)

-- one level, with each value inside already seen as its field
abbrev pub field_step : FieldValue-F Field Pairs → Field
field_step (FieldValue-F.Bool b) = boolean b
field_step (FieldValue-F.I8 n) = signed_octet n
field_step (FieldValue-F.U8 n) = octet n
field_step (FieldValue-F.I16 n) = signed_short n
field_step (FieldValue-F.U16 n) = short n
field_step (FieldValue-F.I32 n) = signed_long n
field_step (FieldValue-F.U32 n) = long n
field_step (FieldValue-F.I64 n) = signed_longlong n
field_step (FieldValue-F.F32 bytes) = float bytes
field_step (FieldValue-F.F64 bytes) = double bytes
field_step (FieldValue-F.Decimal bytes) = decimal bytes
field_step (FieldValue-F.Text bytes) = long_string bytes.items
field_step (FieldValue-F.Array vs) = array (fields_of vs.items)
field_step (FieldValue-F.Time n) = timestamp n
field_step (FieldValue-F.Table t) = table t
field_step FieldValue-F.Void = void
field_step (FieldValue-F.Bytes bytes) = byte_array bytes.items

abbrev pub table_step : Table-F Field Pairs → Pairs
table_step t = pairs_of (map named t.pairs.items)

abbrev pub field_view : FieldValue → Field
field_view = fold-FieldValue Field Pairs field_step table_step

abbrev pub fields_view : List FieldValue → List Field
fields_view vs = map field_view vs

-- a name and its value
abbrev pub pair_view : String Global × FieldValue → List ℕ × Field
pair_view p = (string_bytes p.0, field_view p.1)

abbrev pub pairs_view : List (String Global × FieldValue) → List (List ℕ × Field)
pairs_view ps = map pair_view ps

abbrev pub table_view : Table → Pairs
table_view t = pairs_of (pairs_view t.pairs.items)
