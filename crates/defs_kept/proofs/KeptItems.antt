-- An item that isn't refused has no floating-point number in what is kept of it.
use Rattle.std.proofs.Common.{◌≡◌, ℕ, ◌+◌, List, [], ◌∷◌, Bool, true, false, Option, Some, None, option_map, refl, cond}
use Rattle.std.specs.Prelude.{unwrap_or, codes}
use Rattle.serde_json.specs.Data.{Data, Items, no_items, item, Members}
use Rattle.serde_json.specs.Find.{get, as_array}
use Rattle.serde_json.specs.View.{items_of}
use Rattle.serde_json.specs.Written.{has_float, items_have_float, members_have_float}
use Rattle.defs_values.specs.declared.parameters.Component.{Component}
use Rattle.defs_values.specs.declared.parameters.Component.TheVariants.{Upstream, Set, Shovel}
use Rattle.defs_lists.specs.declared.names.Name.{Name}
use Rattle.defs_lists.specs.Bindings.{binding_ends_fault, binding_rest_fault, binding_all_fault, binding_fault}
use Rattle.defs_lists.specs.Clusters.{global_keys_fault, global_fault}
use Rattle.defs_lists.specs.Exchanges.{exchange_name_fault, exchange_flags_fault, exchange_arguments_fault, exchange_all_fault, exchange_fault, no_fault}
use Rattle.defs_values.specs.Keys.{optional_fault}
use Rattle.defs_kept.specs.Kept.{kept_vhost, kept_global, kept_overrides, kept_upstream, kept_member, kept_set, kept_settings, kept_source, kept_target, kept_shovel, kept_value, kept_parameter, kept_definition, kept_policy, kept_arguments, kept_queue, no_arguments, kept_auto_delete, kept_exchange, kept_binding}
use Rattle.defs_lists.specs.Lists.{kept_of}
use Rattle.defs_values.specs.Parameters.{member_fault, members_fault, set_fault_of, set_fault, value_fault, own_component, own_value_fault}
use Rattle.defs_lists.specs.ParameterItems.{parameter_front_fault, parameter_all_fault, parameter_fault}
use Rattle.defs_values.specs.Policies.{definition_fault, required_object}
use Rattle.defs_lists.specs.PolicyItems.{policy_front_fault, policy_all_fault, policy_fault}
use Rattle.defs_lists.specs.Queues.{flag_at, type_fault, queue_keys_fault, queue_arguments_fault, queue_all_fault, queue_fault}
use Rattle.defs_values.specs.Shovels.{exchange_refusal, fault_with, protocol_refusal, short_text_refusal, front_fault, target_names_fault, target_fault, middle_fault, source_names_fault, source_fault, shovel_fault}
use Rattle.defs_values.specs.Upstreams.{most_prefetch, first_half, second_half, overrides_fault, upstream_fault}
use Rattle.defs_values.specs.Values.{number_refusal}
use Rattle.defs_lists.specs.Vhosts.{no_item, vhost_fault}
use Rattle.defs_kept.proofs.KeptLemmas.{IsPlain, or_none, firsts, split_plain, some_plain, optional_plain, required_plain, required_within_plain, item_keys, object_plain, inside_plain}
use Rattle.defs_kept.proofs.KeptValues.{flag_plain, mode_plain, number_plain, name_plain, short_text_plain, filled_plain, exchange_plain, delete_plain, protocol_plain, component_plain, pattern_plain, apply_plain, priority_plain, type_plain, kind_plain, destination_plain, uris_plain, props_plain, arguments_plain, either_plain, either_within_plain, beside_plain, source_queue_plain, target_queue_plain, own_vhost_plain}

-- ---- virtual hosts and the cluster

pub vhost_plain : (index : ℕ) (d : Data) → vhost_fault index d ≡ None → has_float (kept_vhost d) ≡ false
unfolding vhost_fault kept_vhost
vhost_plain index d h = some_plain _ _ _ (required_plain _ _ d short_text_plain (item_keys _ index d _ h)) refl

global_keys : (d : Data) → global_keys_fault d ≡ None → has_float (kept_global d) ≡ false
unfolding global_keys_fault kept_global
global_keys d h =
    let name = firsts _ _ h in
    let value = firsts _ _ name.1 in
    some_plain _ _ _ (required_plain _ _ d filled_plain value.0)
    (some_plain _ _ _ (required_plain _ _ d component_plain name.0) refl)

pub global_plain : (index : ℕ) (d : Data) → global_fault index d ≡ None → has_float (kept_global d) ≡ false
unfolding global_fault
global_plain index d h = global_keys d (item_keys _ index d _ h)

-- ---- upstreams and sets

first_half_plain : (d : Data) → first_half d ≡ None
    → IsPlain (get (codes "ack-mode") d) × IsPlain (get (codes "exchange") d) × IsPlain (get (codes "max-hops") d)
unfolding first_half
first_half_plain d h =
    let mode = firsts _ _ h in
    let exchange = firsts _ _ mode.1 in
    let hops = firsts _ _ exchange.1 in
    (optional_plain _ _ d mode_plain mode.0, optional_plain _ _ d name_plain exchange.0, optional_plain _ _ d (number_plain _ _) hops.0)

second_half_plain : (d : Data) → second_half d ≡ None
    → IsPlain (get (codes "prefetch-count") d) × IsPlain (get (codes "queue") d) × IsPlain (get (codes "reconnect-delay") d)
unfolding second_half
second_half_plain d h =
    let prefetch = firsts _ _ h in
    let queue = firsts _ _ prefetch.1 in
    let delay = firsts _ _ queue.1 in
    (optional_plain _ _ d (number_plain _ _) prefetch.0, optional_plain _ _ d name_plain queue.0, optional_plain _ _ d (number_plain _ _) delay.0)

overrides_plain : (d : Data) (ms : Members) → overrides_fault d ≡ None → members_have_float ms ≡ false
    → members_have_float (kept_overrides d ms) ≡ false
unfolding overrides_fault kept_overrides
overrides_plain d ms h p =
    let halves = firsts _ _ h in
    let a = first_half_plain d halves.0 in
    let b = second_half_plain d (firsts _ _ halves.1).0 in
    some_plain _ _ _ b.2 (some_plain _ _ _ b.1 (some_plain _ _ _ b.0
    (some_plain _ _ _ a.2 (some_plain _ _ _ a.1 (some_plain _ _ _ a.0 p)))))

upstream_plain : (d : Data) → upstream_fault d ≡ None → has_float (kept_upstream d) ≡ false
unfolding upstream_fault kept_upstream
upstream_plain d h =
    let own = firsts _ _ h in
    let uri = firsts _ _ own.1 in
    some_plain _ _ _ (required_within_plain _ _ d uris_plain uri.0) (overrides_plain d _ own.0 refl)

member_plain : (d : Data) → member_fault d ≡ None → has_float (kept_member d) ≡ false
unfolding member_fault kept_member
member_plain d h =
    let own = firsts _ _ h in
    let upstream = firsts _ _ own.1 in
    some_plain _ _ _ (required_plain _ _ d short_text_plain upstream.0) (overrides_plain d _ own.0 refl)

members_plain : (index : ℕ) (ds : Items) → members_fault index ds ≡ None → items_have_float (items_of (kept_of no_item kept_member ds)) ≡ false
members_plain index no_items h = refl
members_plain index (item d ds) h =
    let both = or_none _ _ h in
    split_plain _ _ (member_plain d (item_keys _ index d _ both.0)) (members_plain (index + 1) ds both.1)

set_at : (d : Data) (o : Option Items) → set_fault_of d o ≡ None
    → items_have_float (items_of (kept_of no_item kept_member (unwrap_or o no_items))) ≡ false
set_at d None h = refl
set_at d (Some ds) h = members_plain 0 ds h

set_plain : (d : Data) → set_fault d ≡ None → has_float (kept_set d) ≡ false
unfolding set_fault kept_set
set_plain d h = set_at d (as_array d) h

-- ---- shovels

settings_plain : (d : Data) (ms : Members) → front_fault d ≡ None → middle_fault d ≡ None → target_names_fault d ≡ None
    → source_names_fault d ≡ None → members_have_float ms ≡ false → members_have_float (kept_settings d ms) ≡ false
unfolding front_fault middle_fault target_names_fault source_names_fault kept_settings
settings_plain d ms f m t s p =
    let mode = firsts _ _ f in
    let older_stamp = firsts _ _ mode.1 in
    let older_delete = firsts _ _ older_stamp.1 in
    let stamp = firsts _ _ older_delete.1 in
    let older_prefetch = firsts _ _ m in
    let older_props = firsts _ _ older_prefetch.1 in
    let delay = firsts _ _ older_props.1 in
    let delete = firsts _ _ delay.1 in
    let target = firsts (optional_fault exchange_refusal (codes "dest-exchange") d) _ t in
    let target_key = firsts (fault_with short_text_refusal (codes "dest-exchange") (codes "dest-exchange-key") d) _ target.1 in
    let target_protocol = firsts (optional_fault protocol_refusal (codes "dest-protocol") d) _ target_key.1 in
    let props = firsts _ [] target_protocol.1 in
    let source = firsts (optional_fault exchange_refusal (codes "src-exchange") d) _ s in
    let source_key = firsts (fault_with short_text_refusal (codes "src-exchange") (codes "src-exchange-key") d) _ source.1 in
    let prefetch = firsts _ (optional_fault protocol_refusal (codes "src-protocol") d ∷ []) source_key.1 in
    some_plain _ _ _ (either_within_plain _ _ _ d props_plain props.0 older_props.0)
    (some_plain _ _ _ (either_plain _ _ _ d flag_plain stamp.0 older_stamp.0)
    (some_plain _ _ _ (either_plain _ _ _ d delete_plain delete.0 older_delete.0)
    (some_plain _ _ _ (either_plain _ _ _ d (number_plain _ _) prefetch.0 older_prefetch.0)
    (some_plain _ _ _ (optional_plain _ _ d (number_plain _ _) delay.0)
    (some_plain _ _ _ (optional_plain _ _ d mode_plain mode.0) p)))))

source_plain : (d : Data) (ms : Members) → source_fault d ≡ None → members_have_float ms ≡ false
    → members_have_float (kept_source d ms) ≡ false
unfolding source_fault source_names_fault kept_source
source_plain d ms h p =
    let names = firsts _ _ h in
    let queue = firsts _ _ names.1 in
    let uri = firsts _ _ queue.1 in
    let exchange = firsts _ _ names.0 in
    let routing = firsts _ _ exchange.1 in
    let prefetch = firsts (optional_fault (number_refusal 0 most_prefetch) (codes "src-prefetch-count") d) _ routing.1 in
    let protocol = firsts _ [] prefetch.1 in
    some_plain _ _ _ (beside_plain _ _ _ d short_text_plain routing.0)
    (some_plain _ _ _ (required_within_plain _ _ d uris_plain uri.0)
    (some_plain _ _ _ (source_queue_plain d queue.0)
    (some_plain (codes "src-protocol") _ _ (optional_plain protocol_refusal (codes "src-protocol") d protocol_plain protocol.0)
    (some_plain (codes "src-exchange") _ ms (optional_plain exchange_refusal (codes "src-exchange") d exchange_plain exchange.0) p))))

target_plain : (d : Data) (ms : Members) → target_fault d ≡ None → members_have_float ms ≡ false
    → members_have_float (kept_target d ms) ≡ false
unfolding target_fault target_names_fault kept_target
target_plain d ms h p =
    let names = firsts _ _ h in
    let queue = firsts _ _ names.1 in
    let uri = firsts _ _ queue.1 in
    let exchange = firsts _ _ names.0 in
    let routing = firsts _ _ exchange.1 in
    let protocol = firsts _ _ routing.1 in
    some_plain _ _ _ (beside_plain _ _ _ d short_text_plain routing.0)
    (some_plain _ _ _ (required_within_plain _ _ d uris_plain uri.0)
    (some_plain _ _ _ (target_queue_plain d queue.0)
    (some_plain _ _ _ (optional_plain _ _ d protocol_plain protocol.0)
    (some_plain _ _ _ (optional_plain _ _ d exchange_plain exchange.0) p))))

target_names : (d : Data) → target_fault d ≡ None → target_names_fault d ≡ None
unfolding target_fault
target_names d h = (firsts _ _ h).0

source_names : (d : Data) → source_fault d ≡ None → source_names_fault d ≡ None
unfolding source_fault
source_names d h = (firsts _ _ h).0

shovel_plain : (d : Data) → shovel_fault d ≡ None → has_float (kept_shovel d) ≡ false
unfolding shovel_fault kept_shovel
shovel_plain d h =
    let front = firsts _ _ h in
    let target = firsts _ _ front.1 in
    let middle = firsts _ _ target.1 in
    let source = firsts _ _ middle.1 in
    target_plain d _ target.0 (source_plain d _ source.0
    (settings_plain d _ front.0 middle.0 (target_names d target.0) (source_names d source.0) refl))

-- ---- parameters

value_plain : (component : Component) (o : Option Data) → own_value_fault component o ≡ None → IsPlain (option_map (kept_value component) o)
value_plain component None h = tt
value_plain Upstream (Some d) h = object_plain _ kept_upstream _ d (upstream_plain d) h
value_plain Set (Some d) h = set_plain d h
value_plain Shovel (Some d) h = object_plain _ kept_shovel _ d (shovel_plain d) h

parameter_front : (vhosts : List Name) (d : Data) → parameter_front_fault vhosts d ≡ None
    → IsPlain (get (codes "vhost") d) × IsPlain (get (codes "component") d) × IsPlain (get (codes "name") d)
unfolding parameter_front_fault
parameter_front vhosts d h =
    let vhost = firsts _ _ h in
    let component = firsts _ _ vhost.1 in
    let name = firsts _ _ component.1 in
    (own_vhost_plain vhosts d vhost.0, required_plain _ _ d component_plain component.0, required_plain _ _ d short_text_plain name.0)

parameter_keys : (vhosts : List Name) (d : Data) → parameter_all_fault vhosts d ≡ None → has_float (kept_parameter d) ≡ false
unfolding parameter_all_fault kept_parameter
parameter_keys vhosts d h =
    let front = firsts _ _ h in
    let keys = parameter_front vhosts d front.0 in
    some_plain _ _ _ (value_plain (own_component d) (get (codes "value") d) (firsts _ _ front.1).0)
    (some_plain _ _ _ keys.0 (some_plain _ _ _ keys.2 (some_plain _ _ _ keys.1 refl)))

pub parameter_plain : (vhosts : List Name) (index : ℕ) (d : Data) → parameter_fault vhosts index d ≡ None → has_float (kept_parameter d) ≡ false
unfolding parameter_fault
parameter_plain vhosts index d h = parameter_keys vhosts d (item_keys _ index d _ h)

-- ---- policies

definition_plain : (d : Data) → definition_fault d ≡ None → has_float (kept_definition d) ≡ false
unfolding definition_fault kept_definition
definition_plain d h =
    let upstream = firsts _ _ h in
    let pattern = firsts _ _ upstream.1 in
    let set = firsts _ _ pattern.1 in
    some_plain _ _ _ (optional_plain _ _ d short_text_plain set.0)
    (some_plain _ _ _ (optional_plain _ _ d pattern_plain pattern.0)
    (some_plain _ _ _ (optional_plain _ _ d short_text_plain upstream.0) refl))

definition_at : (o : Option Data) → required_object definition_fault (codes "definition") o ≡ None → IsPlain (option_map kept_definition o)
definition_at None h = tt
definition_at (Some d) h = object_plain _ kept_definition _ d (definition_plain d) h

policy_front : (vhosts : List Name) (d : Data) → policy_front_fault vhosts d ≡ None
    → IsPlain (get (codes "vhost") d) × IsPlain (get (codes "name") d) × IsPlain (get (codes "pattern") d) × IsPlain (get (codes "apply-to") d)
unfolding policy_front_fault
policy_front vhosts d h =
    let vhost = firsts _ _ h in
    let name = firsts _ _ vhost.1 in
    let pattern = firsts _ _ name.1 in
    let apply = firsts _ _ pattern.1 in
    (own_vhost_plain vhosts d vhost.0, required_plain _ _ d short_text_plain name.0, required_plain _ _ d pattern_plain pattern.0, optional_plain _ _ d apply_plain apply.0)

policy_keys : (vhosts : List Name) (d : Data) → policy_all_fault vhosts d ≡ None → has_float (kept_policy d) ≡ false
unfolding policy_all_fault kept_policy
policy_keys vhosts d h =
    let front = firsts _ _ h in
    let definition = firsts _ _ front.1 in
    let priority = firsts _ _ definition.1 in
    let keys = policy_front vhosts d front.0 in
    some_plain _ _ _ (definition_at (get (codes "definition") d) definition.0)
    (some_plain _ _ _ keys.0
    (some_plain _ _ _ (optional_plain _ _ d priority_plain priority.0)
    (some_plain _ _ _ keys.2 (some_plain _ _ _ keys.1 (some_plain _ _ _ keys.3 refl)))))

pub policy_plain : (vhosts : List Name) (index : ℕ) (d : Data) → policy_fault vhosts index d ≡ None → has_float (kept_policy d) ≡ false
unfolding policy_fault
policy_plain vhosts index d h = policy_keys vhosts d (item_keys _ index d _ h)

-- ---- queues

type_at_plain : (d : Data) → type_fault d ≡ None → has_float (kept_arguments d) ≡ false
unfolding kept_arguments
type_at_plain d h = some_plain _ _ _ (optional_plain _ _ d type_plain h) refl

queue_keys : (vhosts : List Name) (d : Data) → queue_keys_fault vhosts d ≡ None
    → IsPlain (get (codes "vhost") d) × IsPlain (get (codes "name") d) × IsPlain (get (codes "durable") d) × IsPlain (get (codes "auto_delete") d)
unfolding queue_keys_fault
queue_keys vhosts d h =
    let vhost = firsts _ _ h in
    let name = firsts _ _ vhost.1 in
    let durable = firsts _ _ name.1 in
    let auto_delete = firsts _ _ durable.1 in
    (own_vhost_plain vhosts d vhost.0, required_plain _ _ d name_plain name.0, optional_plain _ _ d flag_plain durable.0, optional_plain _ _ d flag_plain auto_delete.0)

queue_arguments : (d : Data) → queue_arguments_fault d ≡ None → IsPlain (option_map kept_arguments (get (codes "arguments") d))
unfolding queue_arguments_fault
queue_arguments d h = inside_plain _ kept_arguments _ (get (codes "arguments") d) type_at_plain h

queue_all : (vhosts : List Name) (d : Data) → queue_all_fault vhosts d ≡ None → has_float (kept_queue d) ≡ false
unfolding queue_all_fault kept_queue
queue_all vhosts d h =
    let front = firsts _ _ h in
    let keys = queue_keys vhosts d front.0 in
    some_plain _ _ _ (queue_arguments d (firsts _ _ front.1).0)
    (some_plain _ _ _ keys.0 (some_plain _ _ _ keys.1 (some_plain _ _ _ keys.2 (some_plain _ _ _ keys.3 refl))))

pub queue_plain : (vhosts : List Name) (index : ℕ) (d : Data) → queue_fault vhosts index d ≡ None → has_float (kept_queue d) ≡ false
unfolding queue_fault
queue_plain vhosts index d h = queue_all vhosts d (item_keys _ index d _ h)

-- ---- exchanges

exchange_names : (vhosts : List Name) (d : Data) → exchange_name_fault vhosts d ≡ None
    → IsPlain (get (codes "vhost") d) × IsPlain (get (codes "name") d) × IsPlain (get (codes "type") d)
unfolding exchange_name_fault
exchange_names vhosts d h =
    let vhost = firsts _ _ h in
    let name = firsts _ _ vhost.1 in
    let kind = firsts _ _ name.1 in
    (own_vhost_plain vhosts d vhost.0, required_plain _ _ d name_plain name.0, required_plain _ _ d kind_plain kind.0)

exchange_flags : (d : Data) → exchange_flags_fault d ≡ None
    → IsPlain (get (codes "durable") d) × IsPlain (get (codes "auto_delete") d) × IsPlain (get (codes "internal") d)
unfolding exchange_flags_fault
exchange_flags d h =
    let durable = firsts _ _ h in
    let auto_delete = firsts _ _ durable.1 in
    let internal = firsts _ _ auto_delete.1 in
    (optional_plain _ _ d flag_plain durable.0, optional_plain _ _ d flag_plain auto_delete.0, optional_plain _ _ d flag_plain internal.0)

auto_delete_at : (b : Bool) (o : Option Data) → IsPlain o → IsPlain (cond b None o)
auto_delete_at true o p = tt
auto_delete_at false o p = p

auto_delete_plain : (d : Data) → IsPlain (get (codes "auto_delete") d) → IsPlain (kept_auto_delete d)
unfolding kept_auto_delete
auto_delete_plain d p = auto_delete_at _ _ p

no_arguments_at : (o : Option Data) → IsPlain (option_map no_arguments o)
unfolding no_arguments
no_arguments_at None = tt
no_arguments_at (Some d) = refl

exchange_all : (vhosts : List Name) (d : Data) → exchange_all_fault vhosts d ≡ None → has_float (kept_exchange d) ≡ false
unfolding exchange_all_fault kept_exchange
exchange_all vhosts d h =
    let front = firsts _ _ h in
    let names = exchange_names vhosts d front.0 in
    let flags = exchange_flags d (firsts _ _ front.1).0 in
    some_plain _ _ _ (auto_delete_plain d flags.1)
    (some_plain _ _ _ (no_arguments_at (get (codes "arguments") d))
    (some_plain _ _ _ names.0 (some_plain _ _ _ names.2 (some_plain _ _ _ names.1
    (some_plain _ _ _ flags.2 (some_plain _ _ _ flags.0 refl))))))

pub exchange_item_plain : (vhosts : List Name) (index : ℕ) (d : Data) → exchange_fault vhosts index d ≡ None → has_float (kept_exchange d) ≡ false
unfolding exchange_fault
exchange_item_plain vhosts index d h = exchange_all vhosts d (item_keys _ index d _ h)

-- ---- bindings

binding_ends : (vhosts : List Name) (d : Data) → binding_ends_fault vhosts d ≡ None
    → IsPlain (get (codes "vhost") d) × IsPlain (get (codes "source") d) × IsPlain (get (codes "destination") d)
unfolding binding_ends_fault
binding_ends vhosts d h =
    let vhost = firsts _ _ h in
    let source = firsts _ _ vhost.1 in
    let destination = firsts _ _ source.1 in
    (own_vhost_plain vhosts d vhost.0, required_plain _ _ d short_text_plain source.0, required_plain _ _ d short_text_plain destination.0)

binding_rest : (d : Data) → binding_rest_fault d ≡ None
    → IsPlain (get (codes "destination_type") d) × IsPlain (get (codes "routing_key") d) × IsPlain (get (codes "arguments") d)
unfolding binding_rest_fault
binding_rest d h =
    let kind = firsts _ _ h in
    let routing = firsts _ _ kind.1 in
    let arguments = firsts _ _ routing.1 in
    (optional_plain _ _ d destination_plain kind.0, optional_plain _ _ d short_text_plain routing.0, arguments_plain d arguments.0)

binding_all : (vhosts : List Name) (d : Data) → binding_all_fault vhosts d ≡ None → has_float (kept_binding d) ≡ false
unfolding binding_all_fault kept_binding
binding_all vhosts d h =
    let front = firsts _ _ h in
    let ends = binding_ends vhosts d front.0 in
    let rest = binding_rest d (firsts _ _ front.1).0 in
    some_plain _ _ _ ends.0 (some_plain _ _ _ ends.1 (some_plain _ _ _ rest.1
    (some_plain _ _ _ rest.0 (some_plain _ _ _ ends.2 (some_plain _ _ _ rest.2 refl)))))

pub binding_plain : (vhosts : List Name) (index : ℕ) (d : Data) → binding_fault vhosts index d ≡ None → has_float (kept_binding d) ≡ false
unfolding binding_fault
binding_plain vhosts index d h = binding_all vhosts d (item_keys _ index d _ h)
