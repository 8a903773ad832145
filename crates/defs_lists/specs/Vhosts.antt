-- The virtual hosts that a definitions file holds (RabbitMQ's "Virtual Hosts" and "Schema Definition Export and
-- Import"): a file without the list has `/` alone.
use Rattle.std.specs.Prelude.{◌≡◌, ℕ, List, [], ◌∷◌, Bool, false, codes, Option, Some, None, unwrap_or, option_map, if◌then◌else◌}
use Rattle.serde_json.specs.Data.{Data, Items}
use Rattle.serde_json.specs.Find.{get, as_str}
use Rattle.defs_values.specs.declared.fault.Refusal.{Refusal}
use Rattle.defs_values.specs.declared.fault.Refusal.TheVariants.{Vhost}
use Rattle.defs_values.specs.declared.fault.KeyFault.{KeyFault}
use Rattle.defs_values.specs.declared.fault.KeyFault.TheVariants as key
use Rattle.defs_lists.specs.declared.names.Name.{Name}
use Rattle.defs_values.specs.Keys.{value_at, required_fault}
use Rattle.defs_lists.specs.Lists.{kept_of, list_fault}
use Rattle.defs_lists.specs.Names.{has_name}
use Rattle.defs_values.specs.Paths.{item_fault}
use Rattle.defs_values.specs.Shovels.{short_text_refusal, first_refusal}
use Rattle.defs_values.specs.Texts.{text_at}

-- the name of a virtual host
abbrev pub vhost_named : List ℕ → Name
vhost_named name = record { vhost = []; component = []; name = name }

-- these are all virtual hosts
abbrev pub AreHosts : List Name → Type 0
AreHosts [] = Unit {0}
AreHosts (n ∷ ns) = (n ≡ vhost_named n.name) × AreHosts ns

-- each item of `vhosts` is one
abbrev pub vhost_of : Data → Name
vhost_of d = vhost_named (text_at (codes "name") d)

abbrev pub no_item : Data → Bool
no_item d = false

unfoldable pub vhost_fault : ℕ → Data → Option KeyFault
vhost_fault index d = item_fault (codes "vhosts") index d (required_fault short_text_refusal (codes "name") d)

abbrev pub vhosts_of : Items → List Name
vhosts_of items = kept_of no_item vhost_of items

abbrev pub vhosts_fault : List Name → ℕ → Items → Option KeyFault
vhosts_fault seen index items = list_fault no_item vhost_fault vhost_of (codes "vhosts") seen index items

-- ---- the key `vhost` of objects, policies and parameters

-- the virtual host that an item is in: `/` where it names none
abbrev pub vhost_at : Data → List ℕ
vhost_at d = unwrap_or (value_at as_str (codes "vhost") d) (codes "/")

-- it has to be one of the file
abbrev pub unknown_name : List Name → Name → Option Refusal
unknown_name vhosts name = if has_name name vhosts then None else Some Vhost

abbrev pub unknown_refusal : List Name → List ℕ → Option Refusal
unknown_refusal vhosts name = unknown_name vhosts (vhost_named name)

abbrev pub own_vhost_refusal : List Name → Data → Option Data → Option Refusal
own_vhost_refusal vhosts d None = unknown_refusal vhosts (vhost_at d)
own_vhost_refusal vhosts d (Some v) = first_refusal (short_text_refusal v) (unknown_refusal vhosts (vhost_at d))

unfoldable pub own_vhost_fault : List Name → Data → Option KeyFault
own_vhost_fault vhosts d = option_map (key.Refused (codes "vhost")) (own_vhost_refusal vhosts d (get (codes "vhost") d))
