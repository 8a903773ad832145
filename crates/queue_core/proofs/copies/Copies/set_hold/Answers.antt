use Rattle.std.proofs.Common.{refl, ap, sym, subst, ◌∙◌}
use Rattle.std.specs.Prelude.{map}
use Rattle.queue_core.specs.Rows.{Ascends, with_hold}
use Rattle.queue_core.specs.Copies.{rows_with}
use Rattle.queue_core.proofs.RowLemmas.{Ascends-map}
use Rattle.queue_core.proofs.EntryLemmas.{written}
use Rattle.queue_core.proofs.copies.Copies.set_hold.Goals as goal

pub invariant_of-self : goal.invariant_of-self
invariant_of-self c = subst Ascends (sym (ap (rows_with c.self.inside.stored) c.write.ensures ∙ written c.self.inside.stored c.args.copy c.args.hold c.self.inside.holds.entries c.self.invariant)) (Ascends-map (with_hold c.args.copy c.args.hold) (λ _. refl) _ c.self.invariant)

pub returns : goal.returns
returns c = ap (rows_with c.self.inside.stored) c.write.ensures ∙ written c.self.inside.stored c.args.copy c.args.hold c.self.inside.holds.entries c.self.invariant ∙ ap (map (with_hold c.args.copy c.args.hold)) c.self.view_is
