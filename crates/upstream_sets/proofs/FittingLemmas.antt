-- An object that no policy fits that chooses upstreams has no links to upstreams: the policy that applies fits.
use Rattle.std.proofs.Common.{◌≡◌, ℕ, List, [], Bool, true, false, ◌&&◌, cond, map, length, get_or, Option, Some, None, refl, sym, ap, subst, ◌∙◌, option_map, true≢false}
use Rattle.std.specs.Prelude.{option_and_then, position, slice_get, nat_lt}
use Rattle.std.specs.List.{list_any, position_or_len}
use Rattle.std.specs.Option.{option_map_or}
use Rattle.std.proofs.lemmas.List.Sums.{passes_at_first}
use Rattle.std.proofs.lemmas.Map.Keys.{any_passes_from_place}
use Rattle.std.proofs.lemmas.Option.{slice_get-map, get_or_from_slice_get}
use borrow.Author.Tests.{ltb-true}
use Rattle.policy_core.specs.Policies.{Policy, fits, is_best, chosen}
use Rattle.policy_core.specs.declared.policy.ObjectKind.{ObjectKind}
use Rattle.fed_defs.specs.declared.config.Config.{Config}
use Rattle.fed_defs.specs.declared.config.VhostConfig.{VhostConfig}
use Rattle.fed_defs.specs.declared.config.PolicyDef.{PolicyDef}
use Rattle.fed_defs.specs.declared.federation.Owner.{Owner}
use Rattle.fed_defs.specs.Policies.{rule_of, policy_in}
use Rattle.fed_defs.specs.Choices.{choices_by, policy_choices}
use Rattle.fed_defs.specs.Links.{object_choices}
use Rattle.upstream_sets.specs.Fitting.{is_one, has_one_key, could_choose}

place_from : (b : Bool) (place i : ℕ) → cond b (Some place) None ≡ Some i → (b ≡ true) × (place ≡ i)
place_from true place i e = (refl, cc)
place_from false place i e = absurd (cc)

-- what is found at the first place that passes passes
passes_at_place : {X Y : Type 0} (h : X → Y) (p : Y → Bool) (xs : List X) (i : ℕ) (x : X) → position p (map h xs) ≡ Some i → slice_get xs i ≡ Some x → p (h x) ≡ true
passes_at_place h p xs i x found got =
    let at = place_from (nat_lt (position_or_len p (map h xs)) (length (map h xs))) (position_or_len p (map h xs)) i found in
    let there : slice_get (map h xs) i ≡ Some (h x) = slice_get-map h xs i ∙ ap (option_map h) got in
    let here : get_or (map h xs) i (h x) ≡ h x = get_or_from_slice_get (map h xs) i (h x) (h x) there in
    let passes = passes_at_first p (map h xs) (h x) (ltb-true _ _ at.0) in
    ap p (sym here) ∙ subst (λ k. p (get_or (map h xs) k (h x)) ≡ true) at.1 passes

first_holds : (a b : Bool) → (a && b) ≡ true → a ≡ true
first_holds true b e = refl
first_holds false b e = e

best_fits : (rules : List Policy) (kind : ObjectKind) (name : List ℕ) (rule : Policy) → is_best rules kind name rule ≡ true → fits kind name rule ≡ true
unfolding is_best
best_fits rules kind name rule best = first_holds _ _ best

both_hold : (a b : Bool) → a ≡ true → b ≡ true → (a && b) ≡ true
both_hold a b e f = ap (λ (x : Bool). x && b) e ∙ f

-- the policy at the place that is chosen could choose upstreams where it has one of the keys
at_place : (policies : List PolicyDef) (kind : ObjectKind) (name : List ℕ) (place : Option ℕ) (policy : PolicyDef) → chosen (map rule_of policies) kind name ≡ place → option_and_then (slice_get policies) place ≡ Some policy → has_one_key policy ≡ true → list_any (could_choose kind name) policies ≡ true
unfolding chosen could_choose
at_place policies kind name None policy found got key = absurd (cc)
at_place policies kind name (Some i) policy found got key =
    let best = passes_at_place rule_of (is_best (map rule_of policies) kind name) policies i policy found got in
    any_passes_from_place (could_choose kind name) policies i policy got
    (both_hold (has_one_key policy) (fits kind name (rule_of policy)) key
    (best_fits (map rule_of policies) kind name (rule_of policy) best))

applies : (vhost : VhostConfig) (kind : ObjectKind) (name : List ℕ) (policy : PolicyDef) → policy_in vhost kind name ≡ Some policy → has_one_key policy ≡ true → list_any (could_choose kind name) vhost.policies ≡ true
unfolding policy_in
applies vhost kind name policy is key =
    at_place vhost.policies kind name (chosen (map rule_of vhost.policies) kind name) policy refl is key

-- without exactly one of the keys nothing is chosen
no_choices : (config : Config) (owner : Owner) (vhost : VhostConfig) (upstream set pattern : Option (List ℕ)) → is_one upstream set pattern ≡ false → choices_by config owner vhost upstream set pattern ≡ []
no_choices config owner vhost (Some name) None None none = absurd (true≢false none)
no_choices config owner vhost None (Some set) None none = absurd (true≢false none)
no_choices config owner vhost None None (Some pattern) none = absurd (true≢false none)
no_choices config owner vhost None None None none = refl
no_choices config owner vhost (Some name) (Some set) pattern none = refl
no_choices config owner vhost (Some name) None (Some pattern) none = refl
no_choices config owner vhost None (Some set) (Some pattern) none = refl

no_key : (config : Config) (owner : Owner) (vhost : VhostConfig) (policy : PolicyDef) → has_one_key policy ≡ false → policy_choices config owner vhost policy ≡ []
unfolding policy_choices
no_key config owner vhost policy none = no_choices config owner vhost policy.upstream policy.set policy.upstream_pattern none

by_key : (config : Config) (owner : Owner) (vhost : VhostConfig) (kind : ObjectKind) (name : List ℕ) (policy : PolicyDef) (key : Bool) → has_one_key policy ≡ key → policy_in vhost kind name ≡ Some policy → list_any (could_choose kind name) vhost.policies ≡ false → policy_choices config owner vhost policy ≡ []
by_key config owner vhost kind name policy true key is none = absurd (true≢false (sym (applies vhost kind name policy is key) ∙ none))
by_key config owner vhost kind name policy false key is none = no_key config owner vhost policy key

by_policy : (config : Config) (owner : Owner) (vhost : VhostConfig) (kind : ObjectKind) (name : List ℕ) (policy : Option PolicyDef) → policy_in vhost kind name ≡ policy → list_any (could_choose kind name) vhost.policies ≡ false → option_map_or (policy_choices config owner vhost) policy [] ≡ []
by_policy config owner vhost kind name None is none = refl
by_policy config owner vhost kind name (Some policy) is none = by_key config owner vhost kind name policy (has_one_key policy) refl is none

-- where no policy could choose upstreams for the object, it has none
pub none_could : (config : Config) (owner : Owner) (vhost : VhostConfig) (kind : ObjectKind) (name : List ℕ) → list_any (could_choose kind name) vhost.policies ≡ false → object_choices config owner vhost kind name ≡ []
unfolding object_choices
none_could config owner vhost kind name none = by_policy config owner vhost kind name (policy_in vhost kind name) refl none
