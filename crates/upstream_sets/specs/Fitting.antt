-- The policies that choose upstreams: RabbitMQ's "Federation Plugin" (the policy keys).
use Rattle.std.specs.Prelude.{ℕ, Bool, true, false, ◌&&◌, List, Option, Some, None}
use Rattle.policy_core.specs.Policies.{fits}
use Rattle.policy_core.specs.declared.policy.ObjectKind.{ObjectKind}
use Rattle.fed_defs.specs.declared.config.PolicyDef.{PolicyDef}
use Rattle.fed_defs.specs.Policies.{rule_of}

-- exactly one of the three is there
abbrev pub is_one : {A B C : Type 0} → Option A → Option B → Option C → Bool
is_one (Some a) None None = true
is_one None (Some b) None = true
is_one None None (Some c) = true
is_one _ _ _ = false

-- exactly one of the three federation keys is in the policy
abbrev pub has_one_key : PolicyDef → Bool
has_one_key policy = is_one policy.upstream policy.set policy.upstream_pattern

-- the policy chooses upstreams, and fits the object
unfoldable pub could_choose : ObjectKind → List ℕ → PolicyDef → Bool
could_choose kind name policy = has_one_key policy && fits kind name (rule_of policy)
