-- Upstreams and sets of upstreams under their names: RabbitMQ's "Parameters and Policies", "Per-vhost Parameters".
use Rattle.std.specs.Prelude.{◌≡◌, ℕ, Bool, true, false, ◌&&◌, List, [], ◌∷◌, ◌++◌, Option, find, is_some, if◌then◌else◌}
use Rattle.std.specs.Coded.{Coded-set, coded_option, Π_prop}
use Rattle.std.specs.Map.{lookup}
use Rattle.std.specs.Str.{bytes_eq}
use Rattle.fed_defs.specs.declared.config.ParameterDef.{ParameterDef}
use Rattle.fed_defs.specs.declared.config.ParameterValue.{ParameterValue}
use Rattle.fed_defs.specs.declared.config.ParameterValue.TheVariants.{Upstream, Set}
use Rattle.fed_defs.specs.contracts.config.ParameterDef as contracts
use Rattle.fed_defs.specs.Texts.{same_text}
use Rattle.upstream_sets.specs.declared.table.Component.{Component}
use Rattle.upstream_sets.specs.declared.table.Component.TheVariants as component

-- a parameter under its name
abbrev pub Named : Type 0
Named = List ℕ × ParameterDef

-- the value is of the component
abbrev pub is_value_of : Component → ParameterValue → Bool
is_value_of component.Upstream (Upstream upstream) = true
is_value_of component.Set (Set members) = true
is_value_of _ _ = false

-- the parameter is of the component
abbrev pub is_of : Component → ParameterDef → Bool
is_of component parameter = is_value_of component parameter.value

-- the first parameter of the component that has the name
abbrev pub named : Component → List ℕ → List ParameterDef → Option ParameterDef
named component name parameters = find (λ p. is_of component p && same_text p.name name) parameters

-- a parameter is added unless there is one of its name
abbrev pub with_first : List Named → ParameterDef → List Named
with_first table parameter =
    if is_some (lookup (bytes_eq parameter.name) table) then table else table ++ (parameter.name, parameter) ∷ []

-- under each name the table has the first parameter of the component that has it
abbrev pub IsTableOf : Component → List Named → List ParameterDef → Type 0
IsTableOf component table parameters = (name : List ℕ) → lookup (bytes_eq name) table ≡ named component name parameters

-- that a table is of these parameters says no more than that it is
pub IsTableOf-prop : (component : Component) (table : List Named) (parameters : List ParameterDef) → IsProp (IsTableOf component table parameters)
IsTableOf-prop component table parameters =
    Π_prop (λ name. Coded-set (coded_option contracts.the_row.coded) (lookup (bytes_eq name) table) (named component name parameters))
