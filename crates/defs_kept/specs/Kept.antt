-- The kept configuration: what a definitions file says that is read, as JSON (RFC 8259) with the lists and keys of RabbitMQ's
-- "Schema Definition Export and Import". It holds the keys that stand in the file, without what is passed over, read over or
-- inert, and a shovel's older keys under their newer names ("Configuring Dynamic Shovels"). What is kept is a choice.
use Rattle.std.specs.Prelude.{ℕ, List, [], ◌∷◌, Bool, false, codes, Option, Some, None, option_map, unwrap_or, if◌then◌else◌}
use Rattle.std.specs.Option.{option_or}
use Rattle.serde_json.specs.Data.{Data, array, object, Items, no_items, Members, no_members, put}
use Rattle.serde_json.specs.Find.{get, as_array}
use Rattle.serde_json.specs.View.{items_of}
use Rattle.defs_lists.specs.declared.bindings.Objects.{Objects}
use Rattle.defs_values.specs.declared.parameters.Component.{Component}
use Rattle.defs_values.specs.declared.parameters.Component.TheVariants.{Upstream, Set, Shovel}
use Rattle.defs_lists.specs.Bindings.{is_passed_binding}
use Rattle.defs_lists.specs.Clusters.{is_other_global}
use Rattle.defs_lists.specs.Exchanges.{is_passed_exchange}
use Rattle.defs_lists.specs.Lists.{kept_of, list_of}
use Rattle.defs_values.specs.Parameters.{is_other_component, own_component}
use Rattle.defs_lists.specs.Queues.{flag_at, is_passed_queue}
use Rattle.defs_values.specs.Shovels.{has_key}
use Rattle.defs_lists.specs.Vhosts.{no_item}

-- ---- objects and lists

-- the members with one more, where there is one
abbrev pub with_some : List ℕ → Option Data → Members → Members
with_some k None ms = ms
with_some k (Some d) ms = put k d ms

-- the members with these keys of an object, as far as they stand there
abbrev pub with_keys : List (List ℕ) → Data → Members → Members
with_keys [] d ms = ms
with_keys (k ∷ ks) d ms = with_keys ks d (with_some k (get k d) ms)

-- these keys of an object alone
abbrev pub keys_alone : List (List ℕ) → Data → Data
keys_alone ks d = object (with_keys ks d no_members)

-- the items that aren't left out
abbrev pub kept_items : (Data → Bool) → (Data → Data) → Items → Data
kept_items passes keep items = array (items_of (kept_of passes keep items))

-- ---- virtual hosts and the cluster

unfoldable pub kept_vhost : Data → Data
kept_vhost d = keys_alone (codes "name" ∷ []) d

unfoldable pub kept_global : Data → Data
kept_global d = keys_alone (codes "name" ∷ codes "value" ∷ []) d

-- ---- parameters

-- the keys of an upstream that a member of a set may override
abbrev pub override_keys : List (List ℕ)
override_keys =
    codes "ack-mode" ∷ codes "exchange" ∷ codes "max-hops" ∷ codes "prefetch-count" ∷ codes "queue" ∷ codes "reconnect-delay" ∷ []

unfoldable pub kept_overrides : Data → Members → Members
kept_overrides d ms = with_keys override_keys d ms

unfoldable pub kept_upstream : Data → Data
kept_upstream d = object (with_some (codes "uri") (get (codes "uri") d) (kept_overrides d no_members))

unfoldable pub kept_member : Data → Data
kept_member d = object (with_some (codes "upstream") (get (codes "upstream") d) (kept_overrides d no_members))

unfoldable pub kept_set : Data → Data
kept_set d = kept_items no_item kept_member (unwrap_or (as_array d) no_items)

-- the value of the newer key, or where that isn't there of the older
abbrev pub either_value : List ℕ → List ℕ → Data → Option Data
either_value newer older d = option_or (get newer d) (get older d)

-- a routing key stays only beside its exchange
abbrev pub value_beside : List ℕ → List ℕ → Data → Option Data
value_beside exchange k d = if has_key exchange d then get k d else None

-- what a shovel does with messages
unfoldable pub kept_settings : Data → Members → Members
kept_settings d ms =
    with_some (codes "dest-publish-properties") (either_value (codes "dest-publish-properties") (codes "publish-properties") d)
    (with_some (codes "dest-add-forward-headers") (either_value (codes "dest-add-forward-headers") (codes "add-forward-headers") d)
    (with_some (codes "src-delete-after") (either_value (codes "src-delete-after") (codes "delete-after") d)
    (with_some (codes "src-prefetch-count") (either_value (codes "src-prefetch-count") (codes "prefetch-count") d)
    (with_keys (codes "ack-mode" ∷ codes "reconnect-delay" ∷ []) d ms))))

-- where it takes from
unfoldable pub kept_source : Data → Members → Members
kept_source d ms =
    with_some (codes "src-exchange-key") (value_beside (codes "src-exchange") (codes "src-exchange-key") d)
    (with_keys (codes "src-exchange" ∷ codes "src-protocol" ∷ codes "src-queue" ∷ codes "src-uri" ∷ []) d ms)

-- where it publishes
unfoldable pub kept_target : Data → Members → Members
kept_target d ms =
    with_some (codes "dest-exchange-key") (value_beside (codes "dest-exchange") (codes "dest-exchange-key") d)
    (with_keys (codes "dest-exchange" ∷ codes "dest-protocol" ∷ codes "dest-queue" ∷ codes "dest-uri" ∷ []) d ms)

unfoldable pub kept_shovel : Data → Data
kept_shovel d = object (kept_target d (kept_source d (kept_settings d no_members)))

-- by component
abbrev pub kept_value : Component → Data → Data
kept_value Upstream d = kept_upstream d
kept_value Set d = kept_set d
kept_value Shovel d = kept_shovel d

unfoldable pub kept_parameter : Data → Data
kept_parameter d =
    object (with_some (codes "value") (option_map (kept_value (own_component d)) (get (codes "value") d))
    (with_keys (codes "component" ∷ codes "name" ∷ codes "vhost" ∷ []) d no_members))

-- ---- policies

unfoldable pub kept_definition : Data → Data
kept_definition d =
    keys_alone (codes "federation-upstream" ∷ codes "federation-upstream-pattern" ∷ codes "federation-upstream-set" ∷ []) d

unfoldable pub kept_policy : Data → Data
kept_policy d =
    object (with_some (codes "definition") (option_map kept_definition (get (codes "definition") d))
    (with_keys (codes "apply-to" ∷ codes "name" ∷ codes "pattern" ∷ codes "priority" ∷ codes "vhost" ∷ []) d no_members))

-- ---- queues, exchanges and bindings

-- of a queue's arguments its type
unfoldable pub kept_arguments : Data → Data
kept_arguments d = keys_alone (codes "x-queue-type" ∷ []) d

unfoldable pub kept_queue : Data → Data
kept_queue d =
    object (with_some (codes "arguments") (option_map kept_arguments (get (codes "arguments") d))
    (with_keys (codes "auto_delete" ∷ codes "durable" ∷ codes "name" ∷ codes "vhost" ∷ []) d no_members))

-- an exchange has no arguments
unfoldable pub no_arguments : Data → Data
no_arguments d = object no_members

-- an auto-delete exchange is kept as a plain one
unfoldable pub kept_auto_delete : Data → Option Data
kept_auto_delete d = if flag_at (codes "auto_delete") false d then None else get (codes "auto_delete") d

unfoldable pub kept_exchange : Data → Data
kept_exchange d =
    object (with_some (codes "auto_delete") (kept_auto_delete d)
    (with_some (codes "arguments") (option_map no_arguments (get (codes "arguments") d))
    (with_keys (codes "durable" ∷ codes "internal" ∷ codes "name" ∷ codes "type" ∷ codes "vhost" ∷ []) d no_members)))

unfoldable pub kept_binding : Data → Data
kept_binding d =
    keys_alone (codes "arguments" ∷ codes "destination" ∷ codes "destination_type" ∷ codes "routing_key" ∷ codes "source"
    ∷ codes "vhost" ∷ []) d

-- ---- the file

-- the members with what is kept of the list at a key, where there is one
abbrev pub with_list : (Items → Data) → List ℕ → Data → Members → Members
with_list keep k d ms = with_some k (option_map keep (list_of k d)) ms

-- what is kept of a file in which these objects are passed over, and with them their bindings
unfoldable pub kept_beside : Objects → Data → Data
kept_beside passed d = object (
    with_list (kept_items (is_passed_binding passed) kept_binding) (codes "bindings") d
    (with_list (kept_items is_passed_exchange kept_exchange) (codes "exchanges") d
    (with_list (kept_items is_passed_queue kept_queue) (codes "queues") d
    (with_list (kept_items no_item kept_policy) (codes "policies") d
    (with_list (kept_items is_other_component kept_parameter) (codes "parameters") d
    (with_list (kept_items is_other_global kept_global) (codes "global_parameters") d
    (with_list (kept_items no_item kept_vhost) (codes "vhosts") d no_members)))))))
