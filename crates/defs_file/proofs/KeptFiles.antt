-- A file that isn't refused has no floating-point number in what is kept of it, list by list.
use Rattle.std.proofs.Common.{◌≡◌, ℕ, ◌+◌, List, [], ◌∷◌, Bool, true, false, Option, Some, None, option_map, refl, cond}
use Rattle.std.specs.Prelude.{unwrap_or, codes}
use Rattle.std.specs.Option.{option_or}
use Rattle.serde_json.specs.Data.{Data, Items, no_items, item}
use Rattle.serde_json.specs.View.{items_of}
use Rattle.serde_json.specs.Written.{has_float, items_have_float}
use Rattle.defs_lists.specs.declared.bindings.Objects.{Objects}
use Rattle.defs_values.specs.declared.fault.KeyFault.{KeyFault}
use Rattle.defs_lists.specs.declared.names.Name.{Name}
use Rattle.defs_lists.specs.Bindings.{is_passed_binding, one_fault, bindings_fault}
use Rattle.defs_lists.specs.Clusters.{is_other_global, clusters_fault}
use Rattle.defs_file.specs.File.{list_fault_at, vhosts_list_fault, globals_list_fault, parameters_list_fault, policies_list_fault, queues_list_fault, exchanges_list_fault, bindings_list_fault, settings_fault, named_fault_in, objects_fault, lists_fault, file_vhosts, kept_objects, passed_objects, kept_file}
use Rattle.defs_kept.specs.Kept.{kept_items, kept_vhost, kept_global, kept_parameter, kept_policy, kept_queue, kept_exchange, kept_binding, kept_beside}
use Rattle.defs_lists.specs.Lists.{list_of, items_at, kept_of}
use Rattle.defs_values.specs.Parameters.{is_other_component}
use Rattle.defs_lists.specs.PolicyItems.{policy_fault}
use Rattle.defs_lists.specs.Queues.{is_passed_queue, object_name}
use Rattle.defs_lists.specs.Exchanges.{is_passed_exchange}
use Rattle.defs_lists.specs.Vhosts.{no_item, vhost_of, vhost_fault}
use Rattle.defs_kept.proofs.KeptLemmas.{IsPlain, or_none, firsts, split_plain, some_plain, list_step, list_plain}
use Rattle.defs_kept.proofs.KeptItems.{vhost_plain, global_plain, parameter_plain, policy_plain, queue_plain, exchange_item_plain, binding_plain}

-- ---- lists of their own kinds

globals_plain : (set : Bool) (index : ℕ) (ds : Items) → clusters_fault set index ds ≡ None
    → items_have_float (items_of (kept_of is_other_global kept_global ds)) ≡ false
globals_plain set index no_items h = refl
globals_plain set index (item d ds) h =
    list_step (is_other_global d) (kept_global d) (kept_of is_other_global kept_global ds) _ _ _ _ (global_plain index d)
    (globals_plain set (index + 1) ds) (globals_plain true (index + 1) ds) h

binding_step : (b : Bool) (d : Data) (ds : List Data) (refused whole rest : Option KeyFault)
    → (refused ≡ None → has_float d ≡ false) → (rest ≡ None → items_have_float (items_of ds) ≡ false)
    → option_or (cond b None (option_or refused whole)) rest ≡ None → items_have_float (items_of (cond b ds (d ∷ ds))) ≡ false
binding_step true d ds refused whole rest fits later h = later h
binding_step false d ds refused whole rest fits later h =
    let both = or_none (option_or refused whole) rest h in
    split_plain _ _ (fits (or_none refused whole both.0).0) (later both.1)

bindings_plain : (vhosts : List Name) (kept passed : Objects) (index : ℕ) (ds : Items) → bindings_fault vhosts kept passed index ds ≡ None
    → items_have_float (items_of (kept_of (is_passed_binding passed) kept_binding ds)) ≡ false
unfolding one_fault
bindings_plain vhosts kept passed index no_items h = refl
bindings_plain vhosts kept passed index (item d ds) h =
    binding_step (is_passed_binding passed d) (kept_binding d) (kept_of (is_passed_binding passed) kept_binding ds) _ _ _
    (binding_plain vhosts index d) (bindings_plain vhosts kept passed (index + 1) ds) h

-- ---- lists at their keys

list_in : (fault : Items → Option KeyFault) (keep : Items → Data) (o : Option Items)
    → ((ds : Items) → fault ds ≡ None → has_float (keep ds) ≡ false) → fault (unwrap_or o no_items) ≡ None → IsPlain (option_map keep o)
list_in fault keep None fits h = tt
list_in fault keep (Some ds) fits h = fits ds h

at_plain : (fault : Items → Option KeyFault) (keep : Items → Data) (k : List ℕ) (d : Data)
    → ((ds : Items) → fault ds ≡ None → has_float (keep ds) ≡ false) → list_fault_at fault k d ≡ None → IsPlain (option_map keep (list_of k d))
unfolding list_fault_at
at_plain fault keep k d fits h = list_in fault keep (list_of k d) fits (or_none _ _ h).1

vhosts_at : (d : Data) → vhosts_list_fault d ≡ None → IsPlain (option_map (kept_items no_item kept_vhost) (list_of (codes "vhosts") d))
unfolding vhosts_list_fault
vhosts_at d h = at_plain _ _ _ d (λ ds g. list_plain no_item vhost_fault vhost_of kept_vhost (codes "vhosts") [] 0 ds vhost_plain g) h

globals_at : (d : Data) → globals_list_fault d ≡ None
    → IsPlain (option_map (kept_items is_other_global kept_global) (list_of (codes "global_parameters") d))
unfolding globals_list_fault
globals_at d h = at_plain _ _ _ d (λ ds g. globals_plain false 0 ds g) h

parameters_at : (vhosts : List Name) (d : Data) → parameters_list_fault vhosts d ≡ None
    → IsPlain (option_map (kept_items is_other_component kept_parameter) (list_of (codes "parameters") d))
unfolding parameters_list_fault
parameters_at vhosts d h = at_plain _ _ _ d (λ ds g. list_plain _ _ _ kept_parameter _ [] 0 ds (parameter_plain vhosts) g) h

policies_at : (vhosts : List Name) (d : Data) → policies_list_fault vhosts d ≡ None
    → IsPlain (option_map (kept_items no_item kept_policy) (list_of (codes "policies") d))
unfolding policies_list_fault
policies_at vhosts d h = at_plain _ _ _ d (λ ds g. list_plain no_item (policy_fault vhosts) object_name kept_policy (codes "policies") [] 0 ds (policy_plain vhosts) g) h

queues_at : (vhosts : List Name) (d : Data) → queues_list_fault vhosts d ≡ None
    → IsPlain (option_map (kept_items is_passed_queue kept_queue) (list_of (codes "queues") d))
unfolding queues_list_fault
queues_at vhosts d h = at_plain _ _ _ d (λ ds g. list_plain _ _ _ kept_queue _ [] 0 ds (queue_plain vhosts) g) h

exchanges_at : (vhosts : List Name) (d : Data) → exchanges_list_fault vhosts d ≡ None
    → IsPlain (option_map (kept_items is_passed_exchange kept_exchange) (list_of (codes "exchanges") d))
unfolding exchanges_list_fault
exchanges_at vhosts d h = at_plain _ _ _ d (λ ds g. list_plain _ _ _ kept_exchange _ [] 0 ds (exchange_item_plain vhosts) g) h

bindings_at : (vhosts : List Name) (kept passed : Objects) (d : Data) → bindings_list_fault vhosts kept passed d ≡ None
    → IsPlain (option_map (kept_items (is_passed_binding passed) kept_binding) (list_of (codes "bindings") d))
unfolding bindings_list_fault
bindings_at vhosts kept passed d h = at_plain _ _ _ d (λ ds g. bindings_plain vhosts kept passed 0 ds g) h

-- ---- the file

settings_none : (vhosts : List Name) (d : Data) → settings_fault vhosts d ≡ None
    → (parameters_list_fault vhosts d ≡ None) × (policies_list_fault vhosts d ≡ None)
unfolding settings_fault
settings_none vhosts d h =
    let parameters = firsts _ _ h in
    (parameters.0, (firsts _ _ parameters.1).0)

named_none : (vhosts : List Name) (d : Data) → named_fault_in vhosts d ≡ None
    → (queues_list_fault vhosts d ≡ None) × (exchanges_list_fault vhosts d ≡ None)
unfolding named_fault_in
named_none vhosts d h =
    let queues = firsts _ _ h in
    (queues.0, (firsts _ _ queues.1).0)

objects_none : (vhosts : List Name) (d : Data) → objects_fault vhosts d ≡ None
    → (named_fault_in vhosts d ≡ None) × (bindings_list_fault vhosts (kept_objects d) (passed_objects d) d ≡ None)
unfolding objects_fault
objects_none vhosts d h =
    let named = firsts _ _ h in
    (named.0, (firsts _ _ named.1).0)

pub no_float : (d : Data) → lists_fault d ≡ None → has_float (kept_file d) ≡ false
unfolding lists_fault kept_file kept_beside
no_float d h =
    let vhosts = firsts _ _ h in
    let globals = firsts _ _ vhosts.1 in
    let settings = firsts _ _ globals.1 in
    let objects = firsts _ _ settings.1 in
    let set = settings_none (file_vhosts d) d settings.0 in
    let made = objects_none (file_vhosts d) d objects.0 in
    let named = named_none (file_vhosts d) d made.0 in
    some_plain _ _ _ (bindings_at _ _ _ d made.1)
    (some_plain _ _ _ (exchanges_at _ d named.1)
    (some_plain _ _ _ (queues_at _ d named.0)
    (some_plain _ _ _ (policies_at _ d set.1)
    (some_plain _ _ _ (parameters_at _ d set.0)
    (some_plain _ _ _ (globals_at d globals.0)
    (some_plain _ _ _ (vhosts_at d vhosts.0) refl))))))
