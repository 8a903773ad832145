-- Which items of a definitions file are in a virtual host.
use Rattle.std.specs.Prelude.{◌≢◌, ℕ, List, [], ◌∷◌, ◌++◌, map, if◌then◌else◌}
use Rattle.std.specs.List.{AllByRecursion}
use Rattle.fed_defs.specs.declared.config.BindingDef.{BindingDef}
use Rattle.fed_defs.specs.declared.config.ExchangeDef.{ExchangeDef}
use Rattle.fed_defs.specs.declared.config.ParameterDef.{ParameterDef}
use Rattle.fed_defs.specs.declared.config.PolicyDef.{PolicyDef}
use Rattle.fed_defs.specs.declared.config.QueueDef.{QueueDef}
use Rattle.fed_defs.specs.declared.config.VhostConfig.{VhostConfig}
use Rattle.defs_lists.specs.declared.names.Name.{Name}
use Rattle.defs_lists.specs.declared.placed.Placed.{Placed}
use Rattle.defs_lists.specs.Names.{same_name}
use Rattle.fed_defs.specs.Texts.{same_text}
use Rattle.defs_lists.specs.Vhosts.{vhost_named}

-- the items of the virtual host of that name, in their order
abbrev pub placed_in : {A : Type 0} → List ℕ → List (Placed A) → List A
placed_in vhost [] = []
placed_in vhost (p ∷ ps) = if same_text p.vhost vhost then p.item ∷ placed_in vhost ps else placed_in vhost ps

-- those of each virtual host
abbrev pub placed_in_each : {A : Type 0} → List Name → List (Placed A) → List (List A)
placed_in_each vhosts placed = map (λ vhost. placed_in vhost.name placed) vhosts

-- the list with the item of that virtual host behind the others; the first virtual host of the name has it
abbrev pub given : {A : Type 0} → Placed A → List Name → List (List A) → List (List A)
given p [] lists = lists
given p (n ∷ ns) [] = []
given p (n ∷ ns) (list ∷ lists) =
    if same_name (vhost_named p.vhost) n then (list ++ p.item ∷ []) ∷ lists else list ∷ given p ns lists

-- no name stands twice
abbrev pub AreDistinct : List Name → Type 0
AreDistinct [] = Unit {0}
AreDistinct (n ∷ ns) = AllByRecursion (λ other. other.name ≢ n.name) ns × AreDistinct ns

-- a virtual host with its share of all lists
unfoldable pub host_config : List (Placed ExchangeDef) → List (Placed QueueDef) → List (Placed BindingDef) → List (Placed PolicyDef)
    → List (Placed ParameterDef) → Name → VhostConfig
host_config exchanges queues bindings policies parameters vhost = record {
  name = vhost.name;
  exchanges = placed_in vhost.name exchanges;
  queues = placed_in vhost.name queues;
  bindings = placed_in vhost.name bindings;
  policies = placed_in vhost.name policies;
  parameters = placed_in vhost.name parameters;
}
