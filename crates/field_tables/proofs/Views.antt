-- A value, level by level.
use Rattle.std.proofs.Common.{◌≡◌, ℕ, List, [], ◌∷◌, map, String, Global, Vec, refl, ap, rules}
use Rattle.field_tables.specs.Fields.{Field, array, table}
use Rattle.field_tables.specs.View.{fields_of, pairs_of, named, field_view, fields_view, pair_view, pairs_view}
use Rattle.field_tables.specs.declared.value.FieldValue.{FieldValue, the_lemmas}
use Rattle.field_tables.specs.declared.value.FieldValue.TheViews.{Array, Table, roll-Table}

pub named_pairs : (ps : List (String Global × FieldValue)) → map named (map (λ p. (p.0, field_view p.1)) ps) ≡ pairs_view ps
named_pairs [] = refl
named_pairs (p ∷ ps) = ap (λ (qs : List (List ℕ × Field)). pair_view p ∷ qs) (named_pairs ps)

pub view-Array : (v : Vec FieldValue Global) → field_view (Array v) ≡ array (fields_of (fields_view v.items))
view-Array v = search (rules, the_lemmas)

pub view-Table : (ps : Vec (String Global × FieldValue) Global) → field_view (Table (roll-Table record { pairs = ps })) ≡ table (pairs_of (pairs_view ps.items))
view-Table ps = search (rules, the_lemmas, named_pairs)
