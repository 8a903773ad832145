-- Arrays and tables of the program as the lists of their fields.
use Rattle.std.proofs.Common.{◌≡◌, ℕ, List, [], ◌∷◌, Some, String, Global, Vec, refl, ap}
use Rattle.field_tables.specs.Fields.{Field}
use Rattle.field_tables.specs.View.{fields_of, pairs_of, field_view, fields_view, pairs_view}
use Rattle.field_tables.specs.declared.value.FieldValue.{FieldValue}
use Rattle.field_tables.specs.declared.value.FieldValue.TheViews.{Array, Table, roll-Table}
use Rattle.field_tables.proofs.Views.{view-Array, view-Table}
use Rattle.hop_headers.specs.Hops.{values_of, named_values, array_of, table_of}

-- the list of a list's fields is that list, and of a list's pairs
pub values_of-fields_of : (vs : List Field) → values_of (fields_of vs) ≡ vs
values_of-fields_of [] = refl
values_of-fields_of (v ∷ vs) = ap (λ (ws : List Field). v ∷ ws) (values_of-fields_of vs)

pub listed : (ps : List (List ℕ × Field)) → named_values (pairs_of ps) ≡ ps
listed [] = refl
listed (p ∷ ps) = ap (λ (qs : List (List ℕ × Field)). p ∷ qs) (listed ps)

pub array_is : (value : FieldValue) (v : Vec FieldValue Global) → value ≡ Array v → Some (fields_view v.items) ≡ array_of (field_view value)
array_is value v is = rw (is, view-Array v, values_of-fields_of (fields_view v.items)) refl

pub table_is : (value : FieldValue) (ps : Vec (String Global × FieldValue) Global) → value ≡ Table (roll-Table record { pairs = ps }) → Some (pairs_of (pairs_view ps.items)) ≡ table_of (field_view value)
table_is value ps is = rw (is, view-Table ps) refl
