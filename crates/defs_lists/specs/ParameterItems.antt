-- The parameters of a definitions file (RabbitMQ's "Parameters and Policies"): upstreams, sets of upstreams ("Federation
-- Reference") and shovels ("Configuring Dynamic Shovels"). Those of other components are inert.
use Rattle.std.specs.Prelude.{ℕ, ◌+◌, List, [], ◌∷◌, codes, Option}
use Rattle.serde_json.specs.Data.{Data, Items, item}
use Rattle.serde_json.specs.Find.{get}
use Rattle.fed_defs.specs.declared.config.ParameterDef.{ParameterDef}
use Rattle.defs_values.specs.declared.fault.KeyFault.{KeyFault}
use Rattle.defs_lists.specs.declared.names.Name.{Name}
use Rattle.defs_lists.specs.declared.placed.Placed.{Placed}
use Rattle.defs_values.specs.Keys.{required_fault, first_fault}
use Rattle.defs_lists.specs.Lists.{kept_of, count_of, total_of, list_fault}
use Rattle.defs_values.specs.Paths.{item_fault}
use Rattle.defs_values.specs.Shovels.{short_text_refusal}
use Rattle.defs_values.specs.Texts.{text_at}
use Rattle.defs_lists.specs.Vhosts.{vhost_at, own_vhost_fault}
use Rattle.defs_values.specs.Parameters.{is_other_component, component_refusal, value_of, value_inert, own_component, own_value, own_value_fault}

-- ---- components

-- ---- values

-- ---- one parameter

unfoldable pub parameter_of : Data → Placed ParameterDef
parameter_of d = record {
  vhost = vhost_at d;
  item = record { name = text_at (codes "name") d; value = value_of (own_component d) (own_value d) };
}

unfoldable pub parameter_name : Data → Name
parameter_name d = record { vhost = vhost_at d; component = text_at (codes "component") d; name = text_at (codes "name") d }

-- the keys in their order
unfoldable pub parameter_front_fault : List Name → Data → Option KeyFault
parameter_front_fault vhosts d = first_fault (
    own_vhost_fault vhosts d
    ∷ required_fault component_refusal (codes "component") d
    ∷ required_fault short_text_refusal (codes "name") d
    ∷ [])

unfoldable pub parameter_all_fault : List Name → Data → Option KeyFault
parameter_all_fault vhosts d = first_fault (
    parameter_front_fault vhosts d ∷ own_value_fault (own_component d) (get (codes "value") d) ∷ [])

unfoldable pub parameter_fault : List Name → ℕ → Data → Option KeyFault
parameter_fault vhosts index d = item_fault (codes "parameters") index d (parameter_all_fault vhosts d)

unfoldable pub parameter_inert : Data → ℕ
parameter_inert d = value_inert (own_component d) (own_value d)

-- ---- the list

abbrev pub parameters_of : Items → List (Placed ParameterDef)
parameters_of items = kept_of is_other_component parameter_of items

-- a parameter of another component is inert
abbrev pub parameters_inert : Items → ℕ
parameters_inert items = count_of is_other_component items + total_of is_other_component parameter_inert items

abbrev pub parameters_fault : List Name → List Name → ℕ → Items → Option KeyFault
parameters_fault vhosts seen index items = list_fault is_other_component (parameter_fault vhosts) parameter_name (codes "parameters") seen index items
