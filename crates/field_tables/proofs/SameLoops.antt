-- Values and pairs one after the other, as a loop compares them.
use Rattle.std.proofs.Common.{◌≡◌, ◌≢◌, Bool, true, false, ◌&&◌, List, [], ◌∷◌, length, String, string_bytes, Global, refl, sym, ap, ◌∙◌, arith}
use Rattle.std.specs.Str.{bytes_eq}
use Rattle.field_tables.specs.Fields.{Field, table, Fields, Pairs}
use Rattle.field_tables.specs.View.{fields_of, pairs_of, field_view, fields_view, pairs_view}
use Rattle.field_tables.specs.declared.value.FieldValue.{FieldValue}
use Rattle.field_tables.specs.Same.{same_field, same_fields, same_pairs}

and_false : (a : Bool) → (a && false) ≡ false
and_false true = refl
and_false false = refl

abbrev pub fields : List FieldValue → Fields
fields vs = fields_of (fields_view vs)

abbrev pub pairs : List (String Global × FieldValue) → Pairs
pairs ps = pairs_of (pairs_view ps)

pub fields_differ : (vs ws : List FieldValue) → length vs ≢ length ws → same_fields (fields vs) (fields ws) ≡ false
unfolding same_field
fields_differ [] [] h = absurd (h refl)
fields_differ [] (w ∷ ws) h = refl
fields_differ (v ∷ vs) [] h = refl
fields_differ (v ∷ vs) (w ∷ ws) h = ap (λ (b : Bool). same_field (field_view v) (field_view w) && b) (fields_differ vs ws (λ e. h (omega arith))) ∙ and_false (same_field (field_view v) (field_view w))

pub fields_go : (vs ws vs' ws' : List FieldValue) (v w : FieldValue) → vs ≡ v ∷ vs' → ws ≡ w ∷ ws' → same_field (field_view v) (field_view w) ≡ true
    → same_fields (fields vs') (fields ws') ≡ same_fields (fields vs) (fields ws)
unfolding same_field
fields_go vs ws vs' ws' v w e f h = rw (e, f, h) refl

pub fields_stop : (vs ws vs' ws' : List FieldValue) (v w : FieldValue) → vs ≡ v ∷ vs' → ws ≡ w ∷ ws' → same_field (field_view v) (field_view w) ≡ false
    → false ≡ same_fields (fields vs) (fields ws)
unfolding same_field
fields_stop vs ws vs' ws' v w e f h = rw (e, f, h) refl

pub fields_end : (vs ws : List FieldValue) → vs ≡ [] → ws ≡ [] → true ≡ same_fields (fields vs) (fields ws)
unfolding same_field
fields_end vs ws e f = rw (e, f) refl

pub pairs_differ : (ps qs : List (String Global × FieldValue)) → length ps ≢ length qs → same_pairs (pairs ps) (pairs qs) ≡ false
unfolding same_field
pairs_differ [] [] h = absurd (h refl)
pairs_differ [] (q ∷ qs) h = refl
pairs_differ (p ∷ ps) [] h = refl
pairs_differ (p ∷ ps) (q ∷ qs) h =
    let first = bytes_eq (string_bytes p.0) (string_bytes q.0) && same_field (field_view p.1) (field_view q.1) in
    ap (λ (b : Bool). first && b) (pairs_differ ps qs (λ e. h (omega arith))) ∙ and_false first

pub pairs_go : (ps qs ps' qs' : List (String Global × FieldValue)) (p q : String Global × FieldValue) → ps ≡ p ∷ ps' → qs ≡ q ∷ qs'
    → bytes_eq (string_bytes p.0) (string_bytes q.0) ≡ true → same_field (field_view p.1) (field_view q.1) ≡ true
    → same_pairs (pairs ps') (pairs qs') ≡ same_pairs (pairs ps) (pairs qs)
unfolding same_field
pairs_go ps qs ps' qs' p q e f g h = rw (e, f, g, h) refl

pub pairs_stop_name : (ps qs ps' qs' : List (String Global × FieldValue)) (p q : String Global × FieldValue) → ps ≡ p ∷ ps' → qs ≡ q ∷ qs'
    → bytes_eq (string_bytes p.0) (string_bytes q.0) ≡ false → false ≡ same_pairs (pairs ps) (pairs qs)
unfolding same_field
pairs_stop_name ps qs ps' qs' p q e f g = rw (e, f, g) refl

pub pairs_stop_value : (ps qs ps' qs' : List (String Global × FieldValue)) (p q : String Global × FieldValue) → ps ≡ p ∷ ps' → qs ≡ q ∷ qs'
    → same_field (field_view p.1) (field_view q.1) ≡ false → false ≡ same_pairs (pairs ps) (pairs qs)
unfolding same_field
pairs_stop_value ps qs ps' qs' p q e f g =
    rw (e, f) (sym (ap (λ (b : Bool). bytes_eq (string_bytes p.0) (string_bytes q.0) && b && same_pairs (pairs ps') (pairs qs')) g ∙ ap (λ (b : Bool). b && same_pairs (pairs ps') (pairs qs')) (and_false (bytes_eq (string_bytes p.0) (string_bytes q.0)))))

pub pairs_end : (ps qs : List (String Global × FieldValue)) → ps ≡ [] → qs ≡ [] → true ≡ same_pairs (pairs ps) (pairs qs)
unfolding same_field
pairs_end ps qs e f = rw (e, f) refl

pub tables_same : (v w : Field) (ps qs : Pairs) {b : Bool} → v ≡ table ps → w ≡ table qs → b ≡ same_pairs ps qs → b ≡ same_field v w
unfolding same_field
tables_same v w ps qs e f h = rw (e, f) h
