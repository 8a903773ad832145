-- The rank of policies is a total order, by priority and then by name.
use Rattle.std.proofs.Common.{◌≡◌, true, false, ap, ◌∙◌, refl, sym}
use Rattle.std.specs.Cmp.{IsTotalOrder}
use Rattle.std.specs.declared.cmp.Ordering.{Ordering}
use Rattle.std.specs.declared.cmp.Ordering.TheVariants.{Less, Equal, Greater}
use Rattle.std.specs.Ordering.{is_gt, ordering_reverse}
use Rattle.std.proofs.lemmas.Cmp.{int_cmp_total, nat_list_cmp_total, on_total, then_total, back_total, tied_itself, upto}
use Rattle.policy_core.specs.Policies.{Policy, rank, is_above}
use Rattle.policy_core.proofs.BestLemmas.{IsRanking}

rank_total : IsTotalOrder rank
rank_total =
    then_total (on_total (λ (p : Policy). p.priority) int_cmp_total)
    (on_total (λ (p : Policy). p.name) (back_total nat_list_cmp_total))

not_back : (o : Ordering) → is_gt (ordering_reverse o) ≡ true → is_gt o ≡ false
not_back Less h = refl
not_back Equal h = refl
not_back Greater h = sym h

pub above_ranks : IsRanking is_above
above_ranks = record {
  irreflexive = λ x. ap is_gt (tied_itself rank_total x);
  asymmetric = λ x y h. not_back (rank y x) (ap is_gt (sym (rank_total.antisymm x y)) ∙ h);
  transitive = upto rank_total;
}
