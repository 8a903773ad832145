-- One policy more: it takes the place of the best so far, or leaves it.
use Rattle.std.proofs.Common.{◌≡◌, ℕ, ◌+◌, ◌<◌, ◌≤◌, Bool, true, false, ◌&&◌, List, [], ◌∷◌, ◌++◌, map, take, length, get_or, Option, Some, None, option_map, refl, ap, sym, subst, ◌∙◌, arith}
use Rattle.std.specs.Prelude.{is_some}
use Rattle.std.specs.Option.{option_map_or}
use Rattle.std.specs.Borrow.{Bor}
use Rattle.std.proofs.lemmas.List.{take_more, map-append, length-map, length-take-le, take_all}
use Rattle.std.specs.List.{list_any}
use Rattle.policy_core.specs.Policies.{Policy, policy_of, is_above, fits, is_best, chosen}
use Rattle.policy_core.specs.declared.policy.ObjectKind.{ObjectKind}
use Rattle.policy_core.specs.declared.policy.PolicyText.{PolicyText}
use Rattle.policy_core.proofs.BestLemmas.{IsBestOf, replaces, best_kept, best_replaced, position_best, is_some_best_of}
use Rattle.policy_core.proofs.RankLemmas.{above_ranks}

-- the best so far, as a policy with its place
abbrev pub seen : Option (ℕ × Bor PolicyText) → Option (ℕ × Policy)
seen = option_map (λ b. (b.0, policy_of b.1.now))

-- the code's test is the definition's
pub replaces_seen : (x : Policy) (best : Option (ℕ × Bor PolicyText)) →
    replaces is_above x (seen best) ≡ option_map_or (λ b. is_above x (policy_of b.1.now)) best true
replaces_seen x None = refl
replaces_seen x (Some b) = refl

one_more : (list : List PolicyText) (i : ℕ) (p : PolicyText) → i < length list → p ≡ get_or list i p →
    map policy_of (take (i + 1) list) ≡ map policy_of (take i list) ++ policy_of p ∷ []
one_more list i p within is =
    ap (map policy_of) (take_more list i p within) ∙ map-append policy_of (take i list) (get_or list i p ∷ [])
    ∙ ap (λ q. map policy_of (take i list) ++ policy_of q ∷ []) (sym is)

pub seen_kept : (fit : Policy → Bool) (list : List PolicyText) (i : ℕ) (p : PolicyText) → i < length list →
    p ≡ get_or list i p → (best : Option (ℕ × Policy)) → IsBestOf fit is_above (map policy_of (take i list)) best →
    (fit (policy_of p) && replaces is_above (policy_of p) best) ≡ false →
    IsBestOf fit is_above (map policy_of (take (i + 1) list)) best
seen_kept fit list i p within is best so_far lower =
    subst (λ xs. IsBestOf fit is_above xs best) (sym (one_more list i p within is))
    (best_kept fit is_above (map policy_of (take i list)) (policy_of p) best so_far lower)

pub seen_replaced : (fit : Policy → Bool) (list : List PolicyText) (i : ℕ) (p : PolicyText) → i < length list →
    p ≡ get_or list i p → (best : Option (ℕ × Policy)) → IsBestOf fit is_above (map policy_of (take i list)) best →
    (fit (policy_of p) && replaces is_above (policy_of p) best) ≡ true →
    IsBestOf fit is_above (map policy_of (take (i + 1) list)) (Some (i, policy_of p))
seen_replaced fit list i p within is best so_far higher =
    let place : length (map policy_of (take i list)) ≡ i =
    length-map (take i list) policy_of ∙ length-take-le i list (omega arith) in
    subst (λ xs. IsBestOf fit is_above xs (Some (i, policy_of p))) (sym (one_more list i p within is))
    (subst (λ n. IsBestOf fit is_above (map policy_of (take i list) ++ policy_of p ∷ []) (Some (n, policy_of p))) place
    (best_replaced fit is_above above_ranks (map policy_of (take i list)) (policy_of p) best so_far higher))

-- the best of the whole list is the one that applies
pub chosen_is : (kind : ObjectKind) (name : List ℕ) (list : List PolicyText) (i : ℕ) → length list ≤ i →
    (best : Option (ℕ × Policy)) → IsBestOf (fits kind name) is_above (map policy_of (take i list)) best →
    option_map (λ b. b.0) best ≡ chosen (map policy_of list) kind name
unfolding chosen is_best
chosen_is kind name list i all best so_far =
    sym (position_best (fits kind name) is_above above_ranks (map policy_of list) best
    (subst (λ xs. IsBestOf (fits kind name) is_above (map policy_of xs) best) (take_all i list all) so_far))

-- and there is one exactly where one fits
pub is_some_chosen : (kind : ObjectKind) (name : List ℕ) (list : List PolicyText) (i : ℕ) → length list ≤ i →
    (best : Option (ℕ × Policy)) → IsBestOf (fits kind name) is_above (map policy_of (take i list)) best →
    is_some best ≡ list_any (fits kind name) (map policy_of list)
is_some_chosen kind name list i all best so_far =
    is_some_best_of (fits kind name) is_above (map policy_of list) best
    (subst (λ xs. IsBestOf (fits kind name) is_above (map policy_of xs) best) (take_all i list all) so_far)
