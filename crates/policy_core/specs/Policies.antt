-- Which policy of a virtual host applies to an object: RabbitMQ's "Parameters and Policies", sections "How Policies
-- Work" and "Combining Policy Definitions". That equal priorities are decided by the least name is a choice.
use Rattle.std.specs.Prelude.{ℕ, ℤ, Bool, true, false, ◌&&◌, not, List, Option, string_bytes}
use Rattle.std.specs.List.{list_any, position}
use Rattle.std.specs.declared.cmp.Ordering.{Ordering}
use Rattle.std.specs.Ordering.{ordering_then, int_cmp, nat_cmp, is_gt}
use Rattle.std.specs.Cmp.Lexicographic.{slice_cmp}
use Rattle.policy_core.specs.Patterns.{is_found}
use Rattle.policy_core.specs.declared.policy.Apply.{Apply}
use Rattle.policy_core.specs.declared.policy.Apply.TheVariants.{All, Exchanges, Queues, Classic, Quorum, Streams}
use Rattle.policy_core.specs.declared.policy.ObjectKind.{ObjectKind}
use Rattle.policy_core.specs.declared.policy.ObjectKind.TheVariants as object
use Rattle.policy_core.specs.declared.policy.PolicyText.{PolicyText}

-- a policy, by what decides between policies
pub record Policy : Type 0 where
  pub name : List ℕ
  -- its text
  pub pattern : List ℕ
  pub apply : Apply
  pub priority : ℤ

-- the policy that is kept with a shared pattern
abbrev pub policy_of : PolicyText → Policy
policy_of p = record {
  name = string_bytes p.name;
  pattern = p.pattern.value;
  apply = p.apply;
  priority = p.priority;
}

-- whether a policy with this `apply-to` applies to objects of the kind: `queues` to queues of every type
abbrev pub applies_to : Apply → ObjectKind → Bool
applies_to All kind = true
applies_to Exchanges object.Exchange = true
applies_to Exchanges kind = false
applies_to Queues object.Exchange = false
applies_to Queues kind = true
applies_to Classic object.Classic = true
applies_to Classic kind = false
applies_to Quorum object.Quorum = true
applies_to Quorum kind = false
applies_to Streams kind = false

-- a policy fits an object where it applies to its kind and its pattern is found in the name
unfoldable pub fits : ObjectKind → List ℕ → Policy → Bool
fits kind name policy = applies_to policy.apply kind && is_found policy.pattern name

-- how two policies stand: the greater priority is above, and of equal ones the lesser name, by bytes
abbrev pub rank : Policy → Policy → Ordering
rank a b = ordering_then (int_cmp a.priority b.priority) (slice_cmp nat_cmp b.name a.name)

abbrev pub is_above : Policy → Policy → Bool
is_above a b = is_gt (rank a b)

-- the policy fits, and none that fits stands above it
unfoldable pub is_best : List Policy → ObjectKind → List ℕ → Policy → Bool
is_best policies kind name policy =
    fits kind name policy && not (list_any (λ other. fits kind name other && is_above other policy) policies)

-- the place of the policy that applies: of those that fit, the one above all others
unfoldable pub chosen : List Policy → ObjectKind → List ℕ → Option ℕ
chosen policies kind name = position (is_best policies kind name) policies
