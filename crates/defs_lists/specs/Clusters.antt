-- The name of a broker's cluster: the global parameter `cluster_name` (RabbitMQ's "Clustering Guide" and "Parameters and
-- Policies", "Global Parameters"). Other global parameters are read over.
use Rattle.std.specs.Prelude.{ℕ, ◌+◌, List, [], ◌∷◌, Bool, true, false, not, codes, Option, Some, None, if◌then◌else◌}
use Rattle.std.specs.Option.{option_map_or, option_or}
use Rattle.serde_json.specs.Data.{Data, Items, no_items, item}
use Rattle.serde_json.specs.Find.{as_str}
use Rattle.defs_values.specs.declared.fault.KeyFault.{KeyFault}
use Rattle.defs_values.specs.Keys.{value_at, required_fault, first_fault}
use Rattle.defs_values.specs.Parameters.{component_refusal}
use Rattle.defs_values.specs.Paths.{item_fault, whole_fault}
use Rattle.fed_defs.specs.Texts.{same_text}
use Rattle.defs_values.specs.Texts.{text_at, filled_refusal}

abbrev pub is_other : List ℕ → Bool
is_other name = not (same_text name (codes "cluster_name"))

-- a global parameter of another name
unfoldable pub is_other_global : Data → Bool
is_other_global d = option_map_or is_other (value_at as_str (codes "name") d) false

-- the keys in their order
unfoldable pub global_keys_fault : Data → Option KeyFault
global_keys_fault d = first_fault (
    required_fault component_refusal (codes "name") d ∷ required_fault filled_refusal (codes "value") d ∷ [])

unfoldable pub global_fault : ℕ → Data → Option KeyFault
global_fault index d = item_fault (codes "global_parameters") index d (global_keys_fault d)

-- the name, where it is set
abbrev pub cluster_in : Items → Option (List ℕ)
cluster_in no_items = None
cluster_in (item d ds) = if is_other_global d then cluster_in ds else Some (text_at (codes "value") d)

-- it is set only once
abbrev pub clusters_fault : Bool → ℕ → Items → Option KeyFault
clusters_fault set index no_items = None
clusters_fault set index (item d ds) =
    if is_other_global d then clusters_fault set (index + 1) ds else
    option_or (global_fault index d) (option_or (whole_fault (codes "global_parameters") index set)
    (clusters_fault true (index + 1) ds))
