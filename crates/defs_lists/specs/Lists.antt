-- What the lists of a definitions file hold, item by item. Some items are passed over, and what they hold is not looked at.
use Rattle.std.specs.Prelude.{ℕ, ◌+◌, List, [], ◌∷◌, ◌++◌, Bool, Option, None, option_and_then, unwrap_or, if◌then◌else◌}
use Rattle.std.specs.Option.{option_or}
use Rattle.serde_json.specs.Data.{Data, Items, no_items, item}
use Rattle.serde_json.specs.Find.{get, as_array}
use Rattle.defs_values.specs.declared.fault.KeyFault.{KeyFault}
use Rattle.defs_lists.specs.declared.names.Name.{Name}
use Rattle.defs_lists.specs.Names.{has_name}
use Rattle.defs_values.specs.Paths.{whole_fault}

-- a list, where one stands at the key
abbrev pub list_of : List ℕ → Data → Option Items
list_of k d = option_and_then as_array (get k d)

abbrev pub items_at : List ℕ → Data → Items
items_at k d = unwrap_or (list_of k d) no_items

-- what the items mean that aren't passed over
abbrev pub kept_of : {A : Type 0} → (Data → Bool) → (Data → A) → Items → List A
kept_of passes meaning no_items = []
kept_of passes meaning (item d ds) =
    if passes d then kept_of passes meaning ds else meaning d ∷ kept_of passes meaning ds

-- how many items are such
abbrev pub count_of : (Data → Bool) → Items → ℕ
count_of test no_items = 0
count_of test (item d ds) = if test d then 1 + count_of test ds else count_of test ds

-- a number of each item that isn't passed over, in all
abbrev pub total_of : (Data → Bool) → (Data → ℕ) → Items → ℕ
total_of passes number no_items = 0
total_of passes number (item d ds) =
    if passes d then total_of passes number ds else number d + total_of passes number ds

-- the names of such items, each once; some were seen before
abbrev pub names_once : (Data → Bool) → (Data → Name) → List Name → Items → List Name
names_once test named seen no_items = []
names_once test named seen (item d ds) =
    if test d then
    (if has_name (named d) seen then names_once test named seen ds
    else named d ∷ names_once test named (seen ++ named d ∷ []) ds)
    else names_once test named seen ds

-- the first fault of the items that aren't passed over, the first of which has this index: that of an item, or that its
-- name was seen before
abbrev pub list_fault : (Data → Bool) → (ℕ → Data → Option KeyFault) → (Data → Name) → List ℕ → List Name → ℕ → Items → Option KeyFault
list_fault passes fault named list seen index no_items = None
list_fault passes fault named list seen index (item d ds) =
    if passes d then list_fault passes fault named list seen (index + 1) ds else
    option_or (fault index d) (option_or (whole_fault list index (has_name (named d) seen))
    (list_fault passes fault named list (seen ++ named d ∷ []) (index + 1) ds))
