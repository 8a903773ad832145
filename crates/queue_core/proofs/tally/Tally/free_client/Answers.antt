use Rattle.std.proofs.Common.{◌≡◌, ◌+◌, ◌<◌, ◌≤◌, ◌^◌, not, ap, sym, refl, subst, ◌∙◌, arith}
use Rattle.std.specs.Prelude.{filter}
use Rattle.std.proofs.lemmas.List.Elements.{All-filter}
use Rattle.queue_core.specs.declared.rows.Hold.TheVariants.{Ready}
use Rattle.queue_core.specs.declared.tally.Count.{Count}
use Rattle.queue_core.specs.Rows.{is_of_client, freed_of}
use Rattle.queue_core.specs.Copies.{tally_of, held_in, any_hold, ArePositive}
use Rattle.queue_core.proofs.TallyLemmas.{fewer_kept, freed_counts, freed_tally}
use Rattle.queue_core.proofs.tally.Tally.free_client.Goals as goal

pub total-requires-2 : goal.total-requires-2
total-requires-2 c =
    let fits : c.self.inside.ready + held_in any_hold c.self.inside.counts.items < 2 ^ 64 = subst (λ t. tally_of any_hold t < 2 ^ 64) (sym c.self.view_is) c.requires in
    let less = fewer_kept (λ (count : Count). not (is_of_client c.args.client count.holder)) c.self.inside.counts.items in
    subst (λ list. held_in any_hold list < 2 ^ 64) (sym (c.deref-2.ensures.value ∙ c.forget_client.ensures.kept)) (omega (arith, fits, less))

pub overflow_sub-self : goal.overflow_sub-self
overflow_sub-self c =
    let less = fewer_kept (λ (count : Count). not (is_of_client c.args.client count.holder)) c.self.inside.counts.items in
    let now = c.total-2.ensures ∙ ap (held_in any_hold) (c.deref-2.ensures.value ∙ c.forget_client.ensures.kept) in
    let was = c.total.ensures ∙ ap (held_in any_hold) c.deref.ensures.value in
    omega (arith, less, now, was)

pub invariant_of-self : goal.invariant_of-self
invariant_of-self c = subst ArePositive (sym c.forget_client.ensures.kept) (All-filter (λ (count : Count). not (is_of_client c.args.client count.holder)) (λ (count : Count). 1 ≤ count.copies) c.self.inside.counts.items c.self.invariant)

pub returns-clause-counts : goal.returns-clause-counts
returns-clause-counts c = λ test.
    let kept = filter (λ (count : Count). not (is_of_client c.args.client count.holder)) c.self.inside.counts.items in
    let less = fewer_kept (λ (count : Count). not (is_of_client c.args.client count.holder)) c.self.inside.counts.items in
    let now : c.total-2.result ≡ held_in any_hold kept = c.total-2.ensures ∙ ap (held_in any_hold) (c.deref-2.ensures.value ∙ c.forget_client.ensures.kept) in
    let was : c.total.result ≡ held_in any_hold c.self.inside.counts.items = c.total.ensures ∙ ap (held_in any_hold) c.deref.ensures.value in
    rw (now, was, c.forget_client.ensures.kept) (freed_tally (test Ready) c.self.inside.ready (held_in any_hold c.self.inside.counts.items) (held_in any_hold kept) (held_in (λ hold. test (freed_of c.args.client hold)) c.self.inside.counts.items) (held_in test kept) less (freed_counts (is_of_client c.args.client) (freed_of c.args.client) (λ _. refl) test c.self.inside.counts.items))
    ∙ ap (tally_of (λ hold. test (freed_of c.args.client hold))) c.self.view_is
