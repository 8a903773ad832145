-- Each policy takes the place of the best so far or leaves it, and at the end the best is the one that applies.
use Rattle.std.proofs.Common.{◌≡◌, ℕ, ◌+◌, ◌<◌, false, ◌&&◌, map, take, length, option_map, subst, sym, ap, ◌∙◌, arith}
use Rattle.std.proofs.lemmas.Bool.{and_from, and_left, and_right}
use Rattle.policy_core.specs.Policies.{Policy, policy_of, fits, is_above}
use Rattle.policy_core.proofs.BestLemmas.{IsBestOf, replaces}
use Rattle.policy_core.proofs.ChoiceLemmas.{seen, replaces_seen, seen_kept, seen_replaced, chosen_is}
use Rattle.policy_core.proofs.policy.choose.Goals as goal
use Rattle.policy_core.proofs.policy.choose.Goals.{then-fits+then-replaces, else-fits, else-fits-via-then-fits+else-replaces, else-fits-via-else-fits}

pub loop-place-preserved : goal.loop-place-preserved
loop-place-preserved c =
    let fit = fits c.args.kind c.args.name.now in
    let list = c.args.list.now in
    let i = c.loop-place.place in
    let p = c.index-list-place.result in
    let best = c.loop-place.best in
    let within : i < length list = omega arith in
    let kept = λ (lower : (fit (policy_of p) && replaces is_above (policy_of p) (seen best)) ≡ false).
    seen_kept fit list i p within c.index-list-place.is (seen best) c.loop-place.invariant lower in
    let is_now = IsBestOf fit is_above (map policy_of (take (i + 1) list)) in
    elim c.if-fits.branch [
      | then-fits+then-replaces w ↦
          subst (λ b. is_now (seen b)) (sym w.best-is)
          (seen_replaced fit list i p within c.index-list-place.is (seen best) c.loop-place.invariant
          (and_from _ _ (sym c.in_ok-fits.ensures ∙ w.if-fits.true)
          (replaces_seen (policy_of p) best ∙ sym w.replaces.ensures ∙ w.if-replaces.true)))
      | else-fits w ↦ subst (λ b. is_now (seen b)) (sym w.best-is) (kept
          (elim w.else-fits.branch [
            | else-fits-via-then-fits+else-replaces w' ↦
                and_right _ _ (replaces_seen (policy_of p) best ∙ sym w'.replaces.ensures ∙ w'.if-replaces.false)
            | else-fits-via-else-fits w' ↦ and_left _ _ (sym c.in_ok-fits.ensures ∙ w'.if-fits.false)
          ]))
    ]

pub returns-in-Some-clause-chosen : goal.returns-in-Some-clause-chosen
returns-in-Some-clause-chosen c =
    ap (λ b. option_map (λ (x : ℕ × Policy). x.0) (seen b)) (sym c.in-Some.is)
    ∙ chosen_is c.args.kind c.args.name.now c.args.list.now c.loop-place.place (omega arith) (seen c.loop-place.best)
    c.loop-place.invariant

pub returns-in-None-clause-chosen : goal.returns-in-None-clause-chosen
returns-in-None-clause-chosen c =
    ap (λ b. option_map (λ (x : ℕ × Policy). x.0) (seen b)) (sym c.in-None.is)
    ∙ chosen_is c.args.kind c.args.name.now c.args.list.now c.loop-place.place (omega arith) (seen c.loop-place.best)
    c.loop-place.invariant
