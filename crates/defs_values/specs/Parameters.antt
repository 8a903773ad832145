-- The values of parameters (RabbitMQ's "Parameters and Policies"): upstreams, sets of upstreams ("Federation Reference") and
-- shovels ("Configuring Dynamic Shovels"). Those of other components are inert.
use Rattle.std.specs.Prelude.{ℕ, ◌+◌, List, [], ◌∷◌, Bool, false, not, codes, Option, Some, None, is_some, unwrap_or, option_and_then, if◌then◌else◌}
use Rattle.std.specs.Option.{option_map_or, option_or}
use Rattle.serde_json.specs.Data.{Data, null, Items, no_items, item}
use Rattle.serde_json.specs.Find.{get, as_str, as_array}
use Rattle.fed_defs.specs.declared.config.ParameterValue.{ParameterValue}
use Rattle.fed_defs.specs.declared.config.ParameterValue.TheVariants as parameter
use Rattle.fed_defs.specs.declared.config.SetMember.{SetMember}
use Rattle.defs_values.specs.declared.parameters.Component.{Component}
use Rattle.defs_values.specs.declared.parameters.Component.TheVariants.{Upstream, Set, Shovel}
use Rattle.defs_values.specs.declared.fault.Refusal.{Refusal}
use Rattle.defs_values.specs.declared.fault.Refusal.TheVariants.{Shape}
use Rattle.defs_values.specs.declared.fault.KeyFault.{KeyFault}
use Rattle.defs_values.specs.declared.fault.KeyFault.TheVariants as key
use Rattle.defs_values.specs.declared.inert.KeySet.TheVariants as keys
use Rattle.defs_values.specs.Inert.{inert_of, shovel_inert}
use Rattle.defs_values.specs.Keys.{value_at, required_fault, first_fault}
use Rattle.defs_values.specs.Paths.{item_fault, object_fault}
use Rattle.defs_values.specs.Shovels.{short_text_refusal, shovel_of, shovel_fault}
use Rattle.defs_values.specs.Upstreams.{overrides_of, overrides_fault, upstream_of, upstream_fault}
use Rattle.fed_defs.specs.Texts.{same_text}
use Rattle.defs_values.specs.Values.{misfit, refused_unless}
use Rattle.defs_values.specs.Texts.{text_at}

unfoldable pub component_word : List ℕ → Option Component
component_word text =
    if same_text text (codes "federation-upstream") then Some Upstream else
    if same_text text (codes "federation-upstream-set") then Some Set else
    if same_text text (codes "shovel") then Some Shovel else None

abbrev pub component_at : Data → Option Component
component_at d = option_and_then component_word (value_at as_str (codes "component") d)

-- a component that is none of these
unfoldable pub is_other_component : Data → Bool
is_other_component d =
    option_map_or (λ text. not (is_some (component_word text))) (value_at as_str (codes "component") d) false

unfoldable pub component_refusal : Data → Option Refusal
component_refusal d = refused_unless (as_str d) d

-- a member of a set: the name of an upstream, and what it overrides
unfoldable pub member_of : Data → SetMember
member_of d = record { upstream = text_at (codes "upstream") d; own = overrides_of d }

unfoldable pub member_fault : Data → Option KeyFault
member_fault d = first_fault (overrides_fault d ∷ required_fault short_text_refusal (codes "upstream") d ∷ [])

-- the members of a set in their order
abbrev pub members_of : Items → List SetMember
members_of no_items = []
members_of (item d ds) = member_of d ∷ members_of ds

abbrev pub members_fault : ℕ → Items → Option KeyFault
members_fault index no_items = None
members_fault index (item d ds) =
    option_or (item_fault (codes "value") index d (member_fault d)) (members_fault (index + 1) ds)

abbrev pub set_fault_of : Data → Option Items → Option KeyFault
set_fault_of d None = Some (key.Refused (codes "value") (misfit d))
set_fault_of d (Some items) = members_fault 0 items

unfoldable pub set_fault : Data → Option KeyFault
set_fault d = set_fault_of d (as_array d)

unfoldable pub set_of : Data → List SetMember
set_of d = option_map_or members_of (as_array d) []

abbrev pub members_inert : Items → ℕ
members_inert no_items = 0
members_inert (item d ds) = inert_of keys.Member d + members_inert ds

-- by component
abbrev pub value_of : Component → Data → ParameterValue
value_of Upstream d = parameter.Upstream (upstream_of d)
value_of Set d = parameter.Set (set_of d)
value_of Shovel d = parameter.Shovel (shovel_of d)

abbrev pub value_fault : Component → Data → Option KeyFault
value_fault Upstream d = object_fault upstream_fault (codes "value") d
value_fault Set d = set_fault d
value_fault Shovel d = object_fault shovel_fault (codes "value") d

abbrev pub value_inert : Component → Data → ℕ
value_inert Upstream d = inert_of keys.Upstream d
value_inert Set d = option_map_or members_inert (as_array d) 0
value_inert Shovel d = shovel_inert d

-- the component of a parameter that is kept
abbrev pub own_component : Data → Component
own_component d = unwrap_or (component_at d) Upstream

abbrev pub own_value : Data → Data
own_value d = unwrap_or (get (codes "value") d) null

-- a value has to be there
abbrev pub own_value_fault : Component → Option Data → Option KeyFault
own_value_fault component None = Some (key.Refused (codes "value") Shape)
own_value_fault component (Some d) = value_fault component d
