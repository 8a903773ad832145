-- The test of bindings says whether they are one (AMQP 0-9-1, queue.bind: a duplicate is ignored).
use Rattle.std.specs.Prelude.{◌≡◌, Bool, true, ◌&&◌}
use Rattle.std.specs.Cmp.{IsEquivalence}
use Rattle.std.proofs.Common.{refl, sym, ap, ◌∙◌, true≢false}
use Rattle.std.proofs.lemmas.Slice.Eq.{bytes_eq-Decides}
use Rattle.field_tables.specs.SameLaws.{both, equivalence, same_pairs_yes, same_pairs_self}
use Rattle.route_core.specs.declared.object.Sort.{Sort}
use Rattle.route_core.specs.declared.object.Sort.TheVariants as sorts
use Rattle.route_core.specs.declared.binding.Binding.{Binding}
use Rattle.route_core.specs.Objects.{same_sort}
use Rattle.route_core.specs.Bindings.{is_same}

pub sort_yes : (a b : Sort) → same_sort a b ≡ true → a ≡ b
sort_yes sorts.Queue sorts.Queue h = refl
sort_yes sorts.Queue sorts.Exchange h = absurd (true≢false (sym h))
sort_yes sorts.Exchange sorts.Queue h = absurd (true≢false (sym h))
sort_yes sorts.Exchange sorts.Exchange h = refl

pub sort_self : (a : Sort) → same_sort a a ≡ true
sort_self sorts.Queue = refl
sort_self sorts.Exchange = refl

both_true : (a b : Bool) → a ≡ true → b ≡ true → (a && b) ≡ true
both_true a b e f = ap (λ (x : Bool). x && b) e ∙ f

pub binding_yes : (asked b : Binding) → is_same asked b ≡ true → asked ≡ b
binding_yes asked b h =
    let t0 = both _ _ h in
    let t1 = both _ _ t0.0 in
    let t2 = both _ _ t1.0 in
    let t3 = both _ _ t2.0 in
    λ i. record {
      source = sym ((bytes_eq-Decides b.source asked.source).0 t3.0) i;
      sort = sym (sort_yes b.sort asked.sort t3.1) i;
      dest = sym ((bytes_eq-Decides b.dest asked.dest).0 t2.1) i;
      key = sym ((bytes_eq-Decides b.key asked.key).0 t1.1) i;
      args = sym (same_pairs_yes b.args asked.args t0.1) i;
    }

pub binding_self : (b : Binding) → is_same b b ≡ true
binding_self b =
    both_true _ _ (both_true _ _ (both_true _ _ (both_true _ _ ((bytes_eq-Decides b.source b.source).1 refl) (sort_self b.sort)) ((bytes_eq-Decides b.dest b.dest).1 refl)) ((bytes_eq-Decides b.key b.key).1 refl)) (same_pairs_self b.args)

pub binding_laws : IsEquivalence is_same
binding_laws = equivalence is_same binding_yes binding_self
