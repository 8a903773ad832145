use Rattle.std.proofs.Common.{refl, ap, sym, subst, ◌∙◌}
use Rattle.queue_core.specs.Rows.{Ascends, all_stored}
use Rattle.queue_core.proofs.RowLemmas.{Ascends-map}
use Rattle.queue_core.proofs.EntryLemmas.{stored_to_last}
use Rattle.queue_core.proofs.copies.Copies.mark_stored.Goals as goal

pub invariant_of-self : goal.invariant_of-self
invariant_of-self c = subst Ascends (sym (stored_to_last c.self.inside.stored c.in-Some.last.now c.self.inside.holds.entries c.in-Some.ensures.all_up_to)) (Ascends-map _ (λ _. refl) _ c.self.invariant)

pub returns-in-Some : goal.returns-in-Some
returns-in-Some c = stored_to_last c.self.inside.stored c.in-Some.last.now c.self.inside.holds.entries c.in-Some.ensures.all_up_to ∙ ap all_stored c.self.view_is
