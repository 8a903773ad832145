-- The rows of the program's table of methods.
use Rattle.std.specs.Prelude.{ℕ, ◌≡◌, ◌==◌, ◌&&◌, Bool, true, not, List, [], ◌∷◌, Option, Some, None, take, position, slice_get}
use Rattle.std.specs.List.{list_any}
use Rattle.amqp_methods.specs.Rows.{Named}
use Rattle.amqp_methods.specs.declared.rows.Row.{Row}

-- the letters before the first space, if there is one
abbrev pub letters_before : Option ℕ → List ℕ → List ℕ
letters_before None args = args
letters_before (Some end) args = take end args

abbrev pub letters_of : List ℕ → List ℕ
letters_of args = letters_before (position (λ letter. letter == 32) args) args

-- a row with the letters of its arguments
abbrev pub row_view : Row → Named
row_view row = record { class = row.class; id = row.id; letters = letters_of row.args }

-- rows of one method
abbrev pub same_method : Row → Row → Bool
same_method a b = a.class == b.class && a.id == b.id

-- A test of all pairs: each row is of another method than those after it.
abbrev pub are_once : List Row → Bool
are_once [] = true
are_once (row ∷ rows) = not (list_any (same_method row) rows) && are_once rows

-- Two rows of one class and id are one row.
pub record AreOnce (rows : List Row) : Type 0 where
  pub same : (i j : ℕ) (a b : Row) → slice_get rows i ≡ Some a → slice_get rows j ≡ Some b → a.class ≡ b.class → a.id ≡ b.id → i ≡ j
