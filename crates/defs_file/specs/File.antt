-- What a definitions file means (RabbitMQ's "Schema Definition Export and Import"): a JSON object of lists. A list that is
-- missing is empty; all other keys are read over.
use Rattle.std.specs.Prelude.{ℕ, ◌+◌, List, [], ◌∷◌, false, map, codes, Option, Some, None, is_some, option_map, unwrap_or, if◌then◌else◌}
use Rattle.std.specs.Option.{option_or}
use Rattle.std.specs.Str.{is_utf8}
use Rattle.serde_json.specs.Data.{Data, Items}
use Rattle.serde_json.specs.Find.{as_array, as_object}
use Rattle.serde_json.specs.Read.{read}
use Rattle.serde_json.specs.Written.{compact_text}
use Rattle.defs_lists.specs.declared.bindings.Objects.{Objects}
use Rattle.fed_defs.specs.declared.config.BindingDef.{BindingDef}
use Rattle.fed_defs.specs.declared.config.ExchangeDef.{ExchangeDef}
use Rattle.fed_defs.specs.declared.config.ParameterDef.{ParameterDef}
use Rattle.fed_defs.specs.declared.config.PolicyDef.{PolicyDef}
use Rattle.fed_defs.specs.declared.config.QueueDef.{QueueDef}
use Rattle.fed_defs.specs.declared.config.BrokerConfig.{BrokerConfig}
use Rattle.fed_defs.specs.declared.config.VhostConfig.{VhostConfig}
use Rattle.defs_file.specs.declared.definitions.Definitions.{Definitions}
use Rattle.defs_values.specs.declared.fault.DefFault.{DefFault}
use Rattle.defs_values.specs.declared.fault.DefFault.TheVariants as fault
use Rattle.defs_values.specs.declared.fault.KeyFault.{KeyFault}
use Rattle.defs_values.specs.declared.fault.Refusal.{Refusal}
use Rattle.defs_lists.specs.declared.names.Name.{Name}
use Rattle.defs_lists.specs.declared.placed.Placed.{Placed}
use Rattle.defs_lists.specs.Bindings.{bindings_of, bindings_fault, passed_bindings}
use Rattle.defs_lists.specs.Clusters.{cluster_in, clusters_fault}
use Rattle.defs_lists.specs.Exchanges.{exchanges_of, exchange_names, passed_exchanges, passed_exchange_count, exchanges_inert, exchanges_fault}
use Rattle.defs_values.specs.Faults.{named_fault}
use Rattle.defs_kept.specs.Kept.{kept_beside}
use Rattle.defs_values.specs.Keys.{optional_fault, first_fault}
use Rattle.defs_lists.specs.Lists.{list_of, items_at}
use Rattle.defs_lists.specs.ParameterItems.{parameters_of, parameters_inert, parameters_fault}
use Rattle.defs_lists.specs.PlacedItems.{host_config}
use Rattle.defs_lists.specs.PolicyItems.{policies_of, policies_inert, policies_fault}
use Rattle.defs_lists.specs.Queues.{queues_of, queue_names, passed_queues, passed_queue_count, queues_inert, queues_fault}
use Rattle.defs_values.specs.Values.{refused_unless}
use Rattle.defs_lists.specs.Vhosts.{vhost_named, vhosts_of, vhosts_fault}

-- ---- lists

-- what is no list is refused, and then what its items refuse
unfoldable pub list_refusal : Data → Option Refusal
list_refusal d = refused_unless (as_array d) d

unfoldable pub list_fault_at : (Items → Option KeyFault) → List ℕ → Data → Option KeyFault
list_fault_at items k d = option_or (optional_fault list_refusal k d) (items (items_at k d))

-- ---- the configuration

-- without a list of virtual hosts there is `/` alone
abbrev pub hosts_of : Option Items → List Name
hosts_of None = vhost_named (codes "/") ∷ []
hosts_of (Some items) = vhosts_of items

unfoldable pub file_vhosts : Data → List Name
file_vhosts d = hosts_of (list_of (codes "vhosts") d)

unfoldable pub file_cluster : Data → Option (List ℕ)
file_cluster d = cluster_in (items_at (codes "global_parameters") d)

-- the names of the objects that are kept, and of those that are passed over
unfoldable pub kept_objects : Data → Objects
kept_objects d = record {
  queues = queue_names (items_at (codes "queues") d);
  exchanges = exchange_names (items_at (codes "exchanges") d);
}

unfoldable pub passed_objects : Data → Objects
passed_objects d = record {
  queues = passed_queues [] (items_at (codes "queues") d);
  exchanges = passed_exchanges [] (items_at (codes "exchanges") d);
}

-- the lists, each item with its virtual host
unfoldable pub file_parameters : Data → List (Placed ParameterDef)
file_parameters d = parameters_of (items_at (codes "parameters") d)

unfoldable pub file_policies : Data → List (Placed PolicyDef)
file_policies d = policies_of (items_at (codes "policies") d)

unfoldable pub file_queues : Data → List (Placed QueueDef)
file_queues d = queues_of (items_at (codes "queues") d)

unfoldable pub file_exchanges : Data → List (Placed ExchangeDef)
file_exchanges d = exchanges_of (items_at (codes "exchanges") d)

unfoldable pub file_bindings : Data → List (Placed BindingDef)
file_bindings d = bindings_of (passed_objects d) (items_at (codes "bindings") d)

unfoldable pub hosts_in : Data → List VhostConfig
hosts_in d = map (host_config (file_exchanges d) (file_queues d) (file_bindings d) (file_policies d) (file_parameters d)) (file_vhosts d)

-- ---- the counts

unfoldable pub passed_named : Data → ℕ
passed_named d = passed_queue_count (items_at (codes "queues") d) + passed_exchange_count (items_at (codes "exchanges") d)

unfoldable pub passed_over : Data → ℕ
passed_over d = passed_named d + passed_bindings (passed_objects d) (items_at (codes "bindings") d)

unfoldable pub settings_inert : Data → ℕ
settings_inert d = parameters_inert (items_at (codes "parameters") d) + policies_inert (items_at (codes "policies") d)

unfoldable pub objects_inert : Data → ℕ
objects_inert d = queues_inert (items_at (codes "queues") d) + exchanges_inert (items_at (codes "exchanges") d)

unfoldable pub inert : Data → ℕ
inert d = settings_inert d + objects_inert d

-- ---- the broker

-- what is kept of the file
unfoldable pub kept_file : Data → Data
kept_file d = kept_beside (passed_objects d) d

-- a broker whose cluster isn't named has the name of the run
unfoldable pub broker_of : List ℕ → Data → BrokerConfig
broker_of name d = record {
  name = name;
  cluster = unwrap_or (file_cluster d) name;
  vhosts = hosts_in d;
  kept = compact_text (kept_file d);
}

unfoldable pub definitions_of : List ℕ → Data → Definitions
definitions_of name d = record {
  broker = broker_of name d;
  passed_over = passed_over d;
  inert = inert d;
}

-- ---- what is refused

-- each list
unfoldable pub vhosts_list_fault : Data → Option KeyFault
vhosts_list_fault d = list_fault_at (vhosts_fault [] 0) (codes "vhosts") d

unfoldable pub globals_list_fault : Data → Option KeyFault
globals_list_fault d = list_fault_at (clusters_fault false 0) (codes "global_parameters") d

unfoldable pub parameters_list_fault : List Name → Data → Option KeyFault
parameters_list_fault vhosts d = list_fault_at (parameters_fault vhosts [] 0) (codes "parameters") d

unfoldable pub policies_list_fault : List Name → Data → Option KeyFault
policies_list_fault vhosts d = list_fault_at (policies_fault vhosts [] 0) (codes "policies") d

unfoldable pub queues_list_fault : List Name → Data → Option KeyFault
queues_list_fault vhosts d = list_fault_at (queues_fault vhosts [] 0) (codes "queues") d

unfoldable pub exchanges_list_fault : List Name → Data → Option KeyFault
exchanges_list_fault vhosts d = list_fault_at (exchanges_fault vhosts [] 0) (codes "exchanges") d

unfoldable pub bindings_list_fault : List Name → Objects → Objects → Data → Option KeyFault
bindings_list_fault vhosts kept passed d = list_fault_at (bindings_fault vhosts kept passed 0) (codes "bindings") d

-- the lists in their order
unfoldable pub settings_fault : List Name → Data → Option KeyFault
settings_fault vhosts d = first_fault (parameters_list_fault vhosts d ∷ policies_list_fault vhosts d ∷ [])

unfoldable pub named_fault_in : List Name → Data → Option KeyFault
named_fault_in vhosts d = first_fault (queues_list_fault vhosts d ∷ exchanges_list_fault vhosts d ∷ [])

unfoldable pub objects_fault : List Name → Data → Option KeyFault
objects_fault vhosts d = first_fault (
    named_fault_in vhosts d ∷ bindings_list_fault vhosts (kept_objects d) (passed_objects d) d ∷ [])

unfoldable pub lists_fault : Data → Option KeyFault
lists_fault d = first_fault (
    vhosts_list_fault d ∷ globals_list_fault d ∷ settings_fault (file_vhosts d) d ∷ objects_fault (file_vhosts d) d ∷ [])

-- ---- the file

-- the value of JSON (RFC 8259) that the octets spell, which have to be UTF-8
unfoldable pub value_of : List ℕ → Option Data
value_of octets = if is_utf8 octets then read octets else None

-- the file has to be an object
abbrev pub value_fault : Data → Option DefFault
value_fault d = if is_some (as_object d) then option_map named_fault (lists_fault d) else Some (fault.Shape (codes "-"))

abbrev pub file_fault_of : Option Data → Option DefFault
file_fault_of None = Some fault.NotJson
file_fault_of (Some d) = value_fault d

unfoldable pub file_fault : List ℕ → Option DefFault
file_fault octets = file_fault_of (value_of octets)
