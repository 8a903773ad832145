-- The values of an array one after the other, as a loop goes over them.
use Rattle.std.proofs.Common.{◌≡◌, Bool, true, false, List, [], ◌∷◌, ◌++◌, Option, Some, None, refl, append_assoc, append-nil}
use Rattle.std.specs.List.{list_all, list_any, filter_map, cons_option}
use Rattle.std.specs.Prelude.{option_to_list}
use Rattle.field_tables.specs.Fields.{Field}
use Rattle.field_tables.specs.View.{field_view, fields_view}
use Rattle.field_tables.specs.declared.value.FieldValue.{FieldValue}

pub all_go : (p : Field → Bool) (vs ws : List FieldValue) (v : FieldValue) → vs ≡ v ∷ ws → p (field_view v) ≡ true → list_all p (fields_view ws) ≡ list_all p (fields_view vs)
all_go p vs ws v e h = rw (e, h) refl

pub all_stop : (p : Field → Bool) (vs ws : List FieldValue) (v : FieldValue) → vs ≡ v ∷ ws → p (field_view v) ≡ false → false ≡ list_all p (fields_view vs)
all_stop p vs ws v e h = rw (e, h) refl

pub all_end : (p : Field → Bool) (vs : List FieldValue) → vs ≡ [] → true ≡ list_all p (fields_view vs)
all_end p vs e = rw e refl

pub any_go : (p : Field → Bool) (vs ws : List FieldValue) (v : FieldValue) → vs ≡ v ∷ ws → p (field_view v) ≡ false → list_any p (fields_view ws) ≡ list_any p (fields_view vs)
any_go p vs ws v e h = rw (e, h) refl

pub any_stop : (p : Field → Bool) (vs ws : List FieldValue) (v : FieldValue) → vs ≡ v ∷ ws → p (field_view v) ≡ true → true ≡ list_any p (fields_view vs)
any_stop p vs ws v e h = rw (e, h) refl

pub any_end : (p : Field → Bool) (vs : List FieldValue) → vs ≡ [] → false ≡ list_any p (fields_view vs)
any_end p vs e = rw e refl

option_then : {Y : Type 0} (o : Option Y) (ys : List Y) → option_to_list o ++ ys ≡ cons_option o ys
option_then None ys = refl
option_then (Some y) ys = refl

pub map_go : {Y : Type 0} (f : Field → Option Y) (out next : List Y) (vs ws : List FieldValue) (v : FieldValue) → vs ≡ v ∷ ws → next ≡ out ++ option_to_list (f (field_view v))
    → next ++ filter_map f (fields_view ws) ≡ out ++ filter_map f (fields_view vs)
map_go f out next vs ws v e h = rw (e, h, append_assoc, option_then (f (field_view v)) (filter_map f (fields_view ws))) refl

pub map_end : {Y : Type 0} (f : Field → Option Y) (out : List Y) (vs : List FieldValue) → vs ≡ [] → out ≡ out ++ filter_map f (fields_view vs)
map_end f out vs e = rw (e, append-nil) refl
