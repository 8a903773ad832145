-- Where a fault stands in a definitions file: the keys and the places in lists that lead there, as in
-- `policies[0].priority`.
use Rattle.std.specs.Prelude.{ℕ, List, ◌++◌, Bool, codes, Option, Some, None, is_some, option_map, if◌then◌else◌}
use Rattle.std.specs.Fmt.{decimal}
use Rattle.serde_json.specs.Data.{Data}
use Rattle.serde_json.specs.Find.{as_object}
use Rattle.defs_values.specs.declared.fault.Refusal.TheVariants.{Shape}
use Rattle.defs_values.specs.declared.fault.KeyFault.{KeyFault}
use Rattle.defs_values.specs.declared.fault.KeyFault.TheVariants as key
use Rattle.defs_values.specs.Values.{misfit}

-- an item of a list
unfoldable pub item_path : List ℕ → ℕ → List ℕ
item_path list index = list ++ codes "[" ++ decimal index ++ codes "]"

-- a fault further within: the path to it, and its path there
abbrev pub within : List ℕ → KeyFault → KeyFault
within path (key.Refused inner why) = key.Refused (path ++ inner) why
within path key.Memory = key.Memory

-- the steps to an item of a list, and to a key of an object
unfoldable pub index_step : ℕ → List ℕ
index_step index = codes "[" ++ decimal index ++ codes "]"

unfoldable pub key_step : List ℕ → List ℕ
key_step k = codes "." ++ k

-- a key of what stands at a path
unfoldable pub key_path : List ℕ → List ℕ → List ℕ
key_path path k = path ++ codes "." ++ k

-- a fault at a key of what stands at a path
abbrev pub below : List ℕ → KeyFault → KeyFault
below path (key.Refused k why) = key.Refused (key_path path k) why
below path key.Memory = key.Memory

-- the fault of an item: it has to be an object, and then it has the fault of its keys
unfoldable pub item_fault : List ℕ → ℕ → Data → Option KeyFault → Option KeyFault
item_fault list index d keys =
    if is_some (as_object d) then option_map (below (item_path list index)) keys
    else Some (key.Refused (item_path list index) (misfit d))

-- a whole item is refused
unfoldable pub whole_fault : List ℕ → ℕ → Bool → Option KeyFault
whole_fault list index refused = if refused then Some (key.Refused (item_path list index) Shape) else None

-- a value at a key that has to be an object, and then has the fault of its keys
unfoldable pub object_fault : (Data → Option KeyFault) → List ℕ → Data → Option KeyFault
object_fault keys k d = if is_some (as_object d) then option_map (below k) (keys d) else Some (key.Refused k (misfit d))

-- such a value may be missing
abbrev pub inside_fault : (Data → Option KeyFault) → List ℕ → Option Data → Option KeyFault
inside_fault keys k None = None
inside_fault keys k (Some d) = object_fault keys k d
