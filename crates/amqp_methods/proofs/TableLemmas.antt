-- A list of rows that passes the test of all pairs has no method twice.
use Rattle.std.proofs.Common.{◌≡◌, ℕ, zero, suc, Bool, true, false, ◌&&◌, ◌||◌, not, eqb, List, [], ◌∷◌, Some, refl, sym, ap, ◌∙◌}
use Rattle.std.specs.Prelude.{slice_get}
use Rattle.std.specs.List.{list_any}
use Rattle.std.proofs.lemmas.Bool.{eq-eqb}
use Rattle.amqp_methods.specs.Table.{same_method, are_once, AreOnce}
use Rattle.amqp_methods.specs.declared.rows.Row.{Row}

both : (a b : Bool) → (a && b) ≡ true → (a ≡ true) × (b ≡ true)
both true b e = (refl, e)
both false b e = absurd cc

and_both : (a b : Bool) → a ≡ true → b ≡ true → (a && b) ≡ true
and_both a b e f = rw (e, f) refl

or_left : (a b : Bool) → a ≡ true → (a || b) ≡ true
or_left a b e = rw e refl

or_right : (a b : Bool) → b ≡ true → (a || b) ≡ true
or_right true b e = refl
or_right false b e = e

some_is : (a b : Row) → Some a ≡ Some b → a ≡ b
some_is a b e = cc

same_there : (row : Row) (rows : List Row) (j : ℕ) (b : Row) → slice_get rows j ≡ Some b → same_method row b ≡ true → list_any (same_method row) rows ≡ true
same_there row [] j b there same = absurd cc
same_there row (x ∷ rows) zero b there same = or_left (same_method row x) (list_any (same_method row) rows) (ap (same_method row) (some_is x b there) ∙ same)
same_there row (x ∷ rows) (suc j) b there same = or_right (same_method row x) (list_any (same_method row) rows) (same_there row rows j b there same)

none_there : (row : Row) (rows : List Row) (j : ℕ) (b : Row) → not (list_any (same_method row) rows) ≡ true → slice_get rows j ≡ Some b → row.class ≡ b.class → row.id ≡ b.id → ⊥
none_there row rows j b none there class id =
    let found : list_any (same_method row) rows ≡ true = same_there row rows j b there (and_both (eqb row.class b.class) (eqb row.id b.id) (eq-eqb row.class b.class class) (eq-eqb row.id b.id id)) in
    cc

index_once : (rows : List Row) → are_once rows ≡ true → (i j : ℕ) (a b : Row) → slice_get rows i ≡ Some a → slice_get rows j ≡ Some b → a.class ≡ b.class → a.id ≡ b.id → i ≡ j
index_once [] e i j a b at_i at_j class id = absurd cc
index_once (row ∷ rows) e zero zero a b at_i at_j class id = refl
index_once (row ∷ rows) e zero (suc j) a b at_i at_j class id =
    let parts = both (not (list_any (same_method row) rows)) (are_once rows) e in
    let is : row ≡ a = some_is row a at_i in
    absurd (none_there row rows j b parts.0 at_j (ap (λ (r : Row). r.class) is ∙ class) (ap (λ (r : Row). r.id) is ∙ id))
index_once (row ∷ rows) e (suc i) zero a b at_i at_j class id =
    let parts = both (not (list_any (same_method row) rows)) (are_once rows) e in
    let is : row ≡ b = some_is row b at_j in
    absurd (none_there row rows i a parts.0 at_i (ap (λ (r : Row). r.class) is ∙ sym class) (ap (λ (r : Row). r.id) is ∙ sym id))
index_once (row ∷ rows) e (suc i) (suc j) a b at_i at_j class id =
    let parts = both (not (list_any (same_method row) rows)) (are_once rows) e in
    ap suc (index_once rows parts.1 i j a b at_i at_j class id)

pub once_from_test : (rows : List Row) → are_once rows ≡ true → AreOnce rows
once_from_test rows e = record { same = index_once rows e }
