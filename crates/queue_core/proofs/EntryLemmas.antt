-- The map from each copy to its hold, and the rows that it stands for.
use Rattle.std.proofs.Common.{◌≡◌, ℕ, zero, suc, ◌+◌, ◌<◌, ◌≤◌, ◌==◌, ◌&&◌, ◌||◌, Bool, true, false, cond, not, List, [], ◌∷◌, ◌++◌, Option, Some, None, length, refl, ap, sym, subst, ◌∙◌, arith}
use Rattle.std.specs.Prelude.{map, filter, find, All, nat_le, slice_get}
use Rattle.std.specs.Option.{option_map, is_some}
use Rattle.std.specs.List.{list_any}
use Rattle.std.specs.Map.{lookup, set_value, remove_entry, keys_of}
use Rattle.std.specs.Map.Calls.{RetainsPairs}
use Rattle.std.specs.declared.ops.Bound.TheVariants.{Included, Unbounded}
use Rattle.std.specs.BTreeMap.Range.{range_contains}
use Rattle.std.specs.BTreeMap.{is_at, insert_entry}
use Rattle.std.specs.Ordering.{nat_cmp, match_ordering, is_lt}
use Rattle.std.specs.declared.cmp.Ordering.TheVariants.{Greater}
use Rattle.std.proofs.lemmas.Bool.Decides.{nat_tests}
use Rattle.std.proofs.lemmas.List.Elements.{All-head, All-tail}
use Rattle.queue_core.specs.declared.rows.Hold.{Hold}
use Rattle.std.proofs.lemmas.List.{map-append}
use Rattle.queue_core.specs.declared.rows.Hold.TheVariants.{Ready}
use Rattle.queue_core.specs.declared.rows.Row.{Row}
use Rattle.queue_core.specs.Rows.{Ascends, IsAbove, with_hold, without, all_stored, entered, is_ready, is_ready_hold, first_ready, copy_at}
use Rattle.queue_core.specs.Copies.{is_covered, row_with, rows_with, rows_from}

absorbed : (a b : Bool) → (a || (a && b)) ≡ (a && true)
absorbed true b = refl
absorbed false b = refl

-- a query by a number finds this number
pub at-is : (copy other : ℕ) → is_at (nat_cmp copy) other ≡ (other == copy)
at-is copy other = grind (arith, nat_tests)

-- a change of one copy's hold leaves those above it alone
pub hold_above : (copy : ℕ) (hold : Hold) (rows : List Row) → All (λ row. copy < row.copy) rows → map (with_hold copy hold) rows ≡ rows
hold_above copy hold [] above = refl
hold_above copy hold (r ∷ rows) above =
    let apart : (r.copy == copy) ≡ false = let less = All-head (λ (row : Row). copy < row.copy) r rows above in grind (arith, nat_tests, less) in
    ap (λ b. record r { hold = cond b hold r.hold } ∷ map (with_hold copy hold) rows) apart ∙ ap (λ rest. r ∷ rest) (hold_above copy hold rows (All-tail (λ (row : Row). copy < row.copy) r rows above))

pub without_above : (copy : ℕ) (rows : List Row) → All (λ row. copy < row.copy) rows → without copy rows ≡ rows
without_above copy [] above = refl
without_above copy (r ∷ rows) above =
    let apart : (r.copy == copy) ≡ false = let less = All-head (λ (row : Row). copy < row.copy) r rows above in grind (arith, nat_tests, less) in
    ap (λ b. cond (not b) (r ∷ without copy rows) (without copy rows)) apart ∙ ap (λ rest. r ∷ rest) (without_above copy rows (All-tail (λ (row : Row). copy < row.copy) r rows above))

-- one hold is written
pub written : (stored : Option ℕ) (copy : ℕ) (hold : Hold) (es : List (ℕ × Hold)) → Ascends (rows_with stored es) → rows_with stored (set_value (is_at (nat_cmp copy)) es hold) ≡ map (with_hold copy hold) (rows_with stored es)
written stored copy hold [] rising = refl
written stored copy hold (e ∷ es) rising =
    ap (λ b. rows_with stored (cond b ((e.0, hold) ∷ es) (e ∷ set_value (is_at (nat_cmp copy)) es hold))) (at-is copy e.0)
    ∙ elim (e.0 == copy) as (λ b. (e.0 == copy) ≡ b → rows_with stored (cond b ((e.0, hold) ∷ es) (e ∷ set_value (is_at (nat_cmp copy)) es hold)) ≡ record { copy = e.0; hold = cond b hold e.1; stored = is_covered stored e.0 } ∷ map (with_hold copy hold) (rows_with stored es)) [
      | true ↦ (λ same. let here : e.0 ≡ copy = grind (arith, nat_tests, same) in
          ap (λ rest. record { copy = e.0; hold = hold; stored = is_covered stored e.0 } ∷ rest) (sym (hold_above copy hold (rows_with stored es) (subst (λ number. All (λ (row : Row). number < row.copy) (rows_with stored es)) here rising.0))))
      | false ↦ (λ _. ap (λ rest. row_with stored e ∷ rest) (written stored copy hold es rising.1))
    ] refl

-- one copy is removed
pub removed : (stored : Option ℕ) (copy : ℕ) (es : List (ℕ × Hold)) → Ascends (rows_with stored es) → rows_with stored (remove_entry (is_at (nat_cmp copy)) es) ≡ without copy (rows_with stored es)
removed stored copy [] rising = refl
removed stored copy (e ∷ es) rising =
    ap (λ b. rows_with stored (cond b es (e ∷ remove_entry (is_at (nat_cmp copy)) es))) (at-is copy e.0)
    ∙ elim (e.0 == copy) as (λ b. (e.0 == copy) ≡ b → rows_with stored (cond b es (e ∷ remove_entry (is_at (nat_cmp copy)) es)) ≡ cond (not b) (row_with stored e ∷ without copy (rows_with stored es)) (without copy (rows_with stored es))) [
      | true ↦ (λ same. let here : e.0 ≡ copy = grind (arith, nat_tests, same) in
          sym (without_above copy (rows_with stored es) (subst (λ number. All (λ (row : Row). number < row.copy) (rows_with stored es)) here rising.0)))
      | false ↦ (λ _. ap (λ rest. row_with stored e ∷ rest) (removed stored copy es rising.1))
    ] refl

-- a copy above all others enters at the end
pub inserted : (stored : Option ℕ) (copy : ℕ) (hold : Hold) (es : List (ℕ × Hold)) → IsAbove (rows_with stored es) copy → insert_entry nat_cmp es copy hold ≡ es ++ (copy, hold) ∷ []
inserted stored copy hold [] above = refl
inserted stored copy hold (e ∷ es) above =
    let greater : nat_cmp copy e.0 ≡ Greater = let less : e.0 < copy = All-head (λ (row : Row). row.copy < copy) (row_with stored e) (rows_with stored es) above in grind (arith, nat_tests, less) in
    ap (λ o. match_ordering o ((copy, hold) ∷ e ∷ es) ((e.0, hold) ∷ es) (e ∷ insert_entry nat_cmp es copy hold)) greater
    ∙ ap (λ rest. e ∷ rest) (inserted stored copy hold es (All-tail (λ (row : Row). row.copy < copy) (row_with stored e) (rows_with stored es) above))

-- the rows stay as they were under another number up to which copies are stored
pub covered_alike : (was now : Option ℕ) (copy : ℕ) → ((other : ℕ) → other < copy → is_covered now other ≡ is_covered was other) → (es : List (ℕ × Hold)) → IsAbove (rows_with was es) copy → rows_with now es ≡ rows_with was es
covered_alike was now copy alike [] above = refl
covered_alike was now copy alike (e ∷ es) above =
    ap (λ b. record { copy = e.0; hold = e.1; stored = b } ∷ rows_with now es) (alike e.0 (All-head (λ (row : Row). row.copy < copy) (row_with was e) (rows_with was es) above))
    ∙ ap (λ rest. row_with was e ∷ rest) (covered_alike was now copy alike es (All-tail (λ (row : Row). row.copy < copy) (row_with was e) (rows_with was es) above))

-- a look-up finds the hold of the first row of that number
pub looked_up : (stored : Option ℕ) (copy : ℕ) (es : List (ℕ × Hold)) → option_map (λ (row : Row). row.hold) (find (λ row. row.copy == copy) (rows_with stored es)) ≡ lookup (is_at (nat_cmp copy)) es
looked_up stored copy [] = refl
looked_up stored copy (e ∷ es) =
    elim (e.0 == copy) as (λ b. option_map (λ (row : Row). row.hold) (cond b (Some (row_with stored e)) (find (λ row. row.copy == copy) (rows_with stored es))) ≡ cond b (Some e.1) (lookup (is_at (nat_cmp copy)) es)) [ true ↦ refl | false ↦ looked_up stored copy es ]
    ∙ ap (λ b. cond b (Some e.1) (lookup (is_at (nat_cmp copy)) es)) (sym (at-is copy e.0))

-- a copy is stored where the map has it and the number covers it
pub stored_there : (stored : Option ℕ) (copy : ℕ) (es : List (ℕ × Hold)) → list_any (λ row. (row.copy == copy) && row.stored) (rows_with stored es) ≡ (is_covered stored copy && is_some (lookup (is_at (nat_cmp copy)) es))
stored_there stored copy [] = elim (is_covered stored copy) as (λ b. false ≡ (b && false)) [ true ↦ refl | false ↦ refl ]
stored_there stored copy (e ∷ es) =
    elim (e.0 == copy) as (λ b. (e.0 == copy) ≡ b → ((b && is_covered stored e.0) || list_any (λ row. (row.copy == copy) && row.stored) (rows_with stored es)) ≡ (is_covered stored copy && is_some (cond b (Some e.1) (lookup (is_at (nat_cmp copy)) es)))) [
      | true ↦ (λ same. let here : e.0 ≡ copy = grind (arith, nat_tests, same) in
          ap (λ number. is_covered stored number || list_any (λ row. (row.copy == copy) && row.stored) (rows_with stored es)) here
          ∙ ap (λ rest. is_covered stored copy || rest) (stored_there stored copy es)
          ∙ absorbed (is_covered stored copy) (is_some (lookup (is_at (nat_cmp copy)) es)))
      | false ↦ (λ _. stored_there stored copy es)
    ] refl
    ∙ ap (λ b. is_covered stored copy && is_some (cond b (Some e.1) (lookup (is_at (nat_cmp copy)) es))) (sym (at-is copy e.0))

-- each hold is changed
pub held_over : (stored : Option ℕ) (change : Hold → Hold) (es : List (ℕ × Hold)) → rows_with stored (map (λ e. (e.0, change e.1)) es) ≡ map (λ (row : Row). record row { hold = change row.hold }) (rows_with stored es)
held_over stored change [] = refl
held_over stored change (e ∷ es) = ap (λ rest. record { copy = e.0; hold = change e.1; stored = is_covered stored e.0 } ∷ rest) (held_over stored change es)

-- those of a hold are kept
pub kept_over : (stored : Option ℕ) (test : Hold → Bool) (es : List (ℕ × Hold)) → rows_with stored (filter (λ e. test e.1) es) ≡ filter (λ row. test row.hold) (rows_with stored es)
kept_over stored test [] = refl
kept_over stored test (e ∷ es) =
    elim (test e.1) as (λ b. rows_with stored (cond b (e ∷ filter (λ e. test e.1) es) (filter (λ e. test e.1) es)) ≡ cond b (row_with stored e ∷ filter (λ row. test row.hold) (rows_with stored es)) (filter (λ row. test row.hold) (rows_with stored es))) [
      | true ↦ ap (λ rest. row_with stored e ∷ rest) (kept_over stored test es)
      | false ↦ kept_over stored test es
    ]

-- what `retain` leaves where it keeps each entry and writes each value
pub map_from_retain_pairs : {F K X : Type 0} (T : F → K → X → Bool → X → F → Type 0) (change : X → X) (f : F) → ((k : K) (v : X) (b : Bool) (w : X) (g : F) → T f k v b w g → (b ≡ true) × (w ≡ change v) × (g ≡ f)) → (es kept : List (K × X)) → RetainsPairs T f es kept → kept ≡ map (λ e. (e.0, change e.1)) es
map_from_retain_pairs T change f says [] kept is = is
map_from_retain_pairs T change f says (e ∷ es) kept (b, w, g, rest, called, more, is) =
    let said = says e.0 e.1 b w g called in
    is ∙ ap (λ b. cond b ((e.0, w) ∷ rest) rest) said.0 ∙ ap (λ value. (e.0, value) ∷ rest) said.1
    ∙ ap (λ left. (e.0, change e.1) ∷ left) (map_from_retain_pairs T change f says es rest (subst (λ g. RetainsPairs T g es rest) said.2 more))

-- and where it tests each value and writes none
pub filter_from_retain : {F K X : Type 0} (T : F → K → X → Bool → X → F → Type 0) (test : X → Bool) (f : F) → ((k : K) (v : X) (b : Bool) (w : X) (g : F) → T f k v b w g → (b ≡ test v) × (w ≡ v) × (g ≡ f)) → (es kept : List (K × X)) → RetainsPairs T f es kept → kept ≡ filter (λ e. test e.1) es
filter_from_retain T test f says [] kept is = is
filter_from_retain T test f says (e ∷ es) kept (b, w, g, rest, called, more, is) =
    let said = says e.0 e.1 b w g called in
    is ∙ ap (λ b. cond b ((e.0, w) ∷ rest) rest) said.0 ∙ ap (λ value. cond (test e.1) ((e.0, value) ∷ rest) rest) said.1
    ∙ ap (λ left. cond (test e.1) (e ∷ left) left) (filter_from_retain T test f says es rest (subst (λ g. RetainsPairs T g es rest) said.2 more))

-- a write at a number that isn't there changes nothing
pub written_nowhere : {K X : Type 0} (test : K → Bool) (w : X) (es : List (K × X)) → lookup test es ≡ None → set_value test es w ≡ es
written_nowhere test w [] none = refl
written_nowhere test w (e ∷ es) none =
    elim (test e.0) as (λ b. cond b (Some e.1) (lookup test es) ≡ None → cond b ((e.0, w) ∷ es) (e ∷ set_value test es w) ≡ e ∷ es) [
      | true ↦ (λ is. cc)
      | false ↦ (λ is. ap (λ rest. e ∷ rest) (written_nowhere test w es is))
    ] none

-- the rows say the entries again
pub entries_back : (stored : Option ℕ) (es : List (ℕ × Hold)) → map (λ (row : Row). (row.copy, row.hold)) (rows_with stored es) ≡ es
entries_back stored [] = refl
entries_back stored (e ∷ es) = ap (λ rest. e ∷ rest) (entries_back stored es)

-- the number up to which copies are stored is the last
pub stored_to_last : (was : Option ℕ) (last : ℕ) (es : List (ℕ × Hold)) → All (λ copy. is_lt (nat_cmp last copy) ≡ false) (keys_of es) → rows_with (Some last) es ≡ all_stored (rows_with was es)
stored_to_last was last [] upto = refl
stored_to_last was last (e ∷ es) upto =
    let within : nat_le e.0 last ≡ true = let not_less = All-head (λ copy. is_lt (nat_cmp last copy) ≡ false) e.0 (keys_of es) upto in grind (arith, nat_tests, not_less) in
    ap (λ b. record { copy = e.0; hold = e.1; stored = b } ∷ rows_with (Some last) es) within
    ∙ ap (λ rest. record { copy = e.0; hold = e.1; stored = true } ∷ rest) (stored_to_last was last es (All-tail (λ copy. is_lt (nat_cmp last copy) ≡ false) e.0 (keys_of es) upto))

-- the entries from a number on are the rows from it on
pub ranged : (stored : Option ℕ) (copy : ℕ) (es : List (ℕ × Hold)) → rows_with stored (filter (λ e. range_contains nat_cmp (Included copy) Unbounded e.0) es) ≡ rows_from copy (rows_with stored es)
ranged stored copy [] = refl
ranged stored copy (e ∷ es) =
    let same : range_contains nat_cmp (Included copy) Unbounded e.0 ≡ nat_le copy e.0 = grind (arith, nat_tests) in
    ap (λ b. rows_with stored (cond b (e ∷ filter (λ e. range_contains nat_cmp (Included copy) Unbounded e.0) es) (filter (λ e. range_contains nat_cmp (Included copy) Unbounded e.0) es))) same
    ∙ elim (nat_le copy e.0) as (λ b. rows_with stored (cond b (e ∷ filter (λ e. range_contains nat_cmp (Included copy) Unbounded e.0) es) (filter (λ e. range_contains nat_cmp (Included copy) Unbounded e.0) es)) ≡ cond b (row_with stored e ∷ rows_from copy (rows_with stored es)) (rows_from copy (rows_with stored es))) [
      | true ↦ ap (λ rest. row_with stored e ∷ rest) (ranged stored copy es)
      | false ↦ ranged stored copy es
    ]

-- the first ready one among the entries
pub first_entry : (stored : Option ℕ) (es : List (ℕ × Hold)) → first_ready (rows_with stored es) ≡ option_map (λ e. e.0) (find (λ e. is_ready_hold e.1) es)
first_entry stored [] = refl
first_entry stored (e ∷ es) =
    elim (is_ready_hold e.1) as (λ b. option_map (λ (row : Row). row.copy) (cond b (Some (row_with stored e)) (find is_ready (rows_with stored es))) ≡ option_map (λ e. e.0) (cond b (Some e) (find (λ e. is_ready_hold e.1) es))) [ true ↦ refl | false ↦ first_entry stored es ]

-- the copy at a place
pub place_of_key : (stored : Option ℕ) (es : List (ℕ × Hold)) (place : ℕ) → slice_get (keys_of es) place ≡ copy_at (rows_with stored es) place
place_of_key stored [] place = refl
place_of_key stored (e ∷ es) zero = refl
place_of_key stored (e ∷ es) (suc place) = place_of_key stored es place

-- a copy above all others is the last row, not stored, and the other rows are as they were
pub grown : (was now : Option ℕ) (copy : ℕ) → ((other : ℕ) → other < copy → is_covered now other ≡ is_covered was other) → is_covered now copy ≡ false → (es : List (ℕ × Hold)) → IsAbove (rows_with was es) copy → rows_with now (insert_entry nat_cmp es copy Ready) ≡ rows_with was es ++ entered copy ∷ []
grown was now copy alike out es above =
    ap (rows_with now) (inserted was copy Ready es above) ∙ map-append (row_with now) es ((copy, Ready) ∷ [])
    ∙ ap (λ rows. rows ++ row_with now (copy, Ready) ∷ []) (covered_alike was now copy alike es above)
    ∙ ap (λ b. rows_with was es ++ record { copy = copy; hold = Ready; stored = b } ∷ []) out
