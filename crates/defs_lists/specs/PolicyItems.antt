-- The policies of a definitions file (RabbitMQ's "Parameters and Policies"). Of a definition, the three keys that federate
-- are read ("Federation Plugin": `federation-upstream`, `federation-upstream-set`, `federation-upstream-pattern`).
use Rattle.std.specs.Prelude.{ℕ, pos, List, [], ◌∷◌, codes, Option, unwrap_or}
use Rattle.serde_json.specs.Data.{Data, Items}
use Rattle.serde_json.specs.Find.{get}
use Rattle.policy_core.specs.declared.policy.Apply.TheVariants as apply
use Rattle.fed_defs.specs.declared.config.PolicyDef.{PolicyDef}
use Rattle.defs_values.specs.declared.fault.KeyFault.{KeyFault}
use Rattle.defs_values.specs.declared.inert.KeySet.TheVariants as keys
use Rattle.defs_lists.specs.declared.names.Name.{Name}
use Rattle.defs_lists.specs.declared.placed.Placed.{Placed}
use Rattle.defs_values.specs.Inert.{inert_at}
use Rattle.defs_values.specs.Keys.{value_at, optional_fault, required_fault, first_fault}
use Rattle.defs_lists.specs.Lists.{kept_of, total_of, list_fault}
use Rattle.defs_values.specs.Paths.{item_fault}
use Rattle.defs_lists.specs.Queues.{object_name}
use Rattle.defs_values.specs.Shovels.{short_text_refusal}
use Rattle.defs_lists.specs.Vhosts.{no_item, vhost_at, own_vhost_fault}
use Rattle.defs_values.specs.Texts.{text_at}
use Rattle.defs_values.specs.Policies.{pattern_refusal, apply_at, apply_refusal, signed_at, priority_refusal, defined_at, definition_fault, required_object}

-- ---- values

-- ---- one policy

unfoldable pub policy_of : Data → Placed PolicyDef
policy_of d = record {
  vhost = vhost_at d;
  item = record {
    name = text_at (codes "name") d;
    pattern = text_at (codes "pattern") d;
    apply = unwrap_or (value_at apply_at (codes "apply-to") d) apply.All;
    priority = unwrap_or (value_at signed_at (codes "priority") d) (pos 0);
    upstream = defined_at (codes "federation-upstream") d;
    set = defined_at (codes "federation-upstream-set") d;
    upstream_pattern = defined_at (codes "federation-upstream-pattern") d;
  };
}

-- the keys in their order
unfoldable pub policy_front_fault : List Name → Data → Option KeyFault
policy_front_fault vhosts d = first_fault (
    own_vhost_fault vhosts d
    ∷ required_fault short_text_refusal (codes "name") d
    ∷ required_fault pattern_refusal (codes "pattern") d
    ∷ optional_fault apply_refusal (codes "apply-to") d
    ∷ [])

unfoldable pub policy_all_fault : List Name → Data → Option KeyFault
policy_all_fault vhosts d = first_fault (
    policy_front_fault vhosts d
    ∷ required_object definition_fault (codes "definition") (get (codes "definition") d)
    ∷ optional_fault priority_refusal (codes "priority") d
    ∷ [])

unfoldable pub policy_fault : List Name → ℕ → Data → Option KeyFault
policy_fault vhosts index d = item_fault (codes "policies") index d (policy_all_fault vhosts d)

-- the other keys of its definition are inert
unfoldable pub policy_inert : Data → ℕ
policy_inert d = inert_at keys.Policy (codes "definition") d

-- ---- the list

abbrev pub policies_of : Items → List (Placed PolicyDef)
policies_of items = kept_of no_item policy_of items

abbrev pub policies_inert : Items → ℕ
policies_inert items = total_of no_item policy_inert items

abbrev pub policies_fault : List Name → List Name → ℕ → Items → Option KeyFault
policies_fault vhosts seen index items = list_fault no_item (policy_fault vhosts) object_name (codes "policies") seen index items
