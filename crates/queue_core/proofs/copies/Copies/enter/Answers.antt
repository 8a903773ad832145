use Rattle.std.proofs.Common.{◌≡◌, [], ◌∷◌, ◌++◌, ap, sym, subst, ◌∙◌}
use Rattle.std.proofs.lemmas.List.{map-append}
use Rattle.queue_core.specs.declared.rows.Hold.TheVariants.{Ready}
use Rattle.queue_core.specs.Rows.{Ascends, IsAbove, entered}
use Rattle.queue_core.specs.Copies.{rows_with}
use Rattle.queue_core.proofs.RowLemmas.{Ascends-push}
use Rattle.queue_core.proofs.EntryLemmas.{grown}
use Rattle.queue_core.proofs.copies.Copies.enter.Goals as goal

pub invariant_of-self-2 : goal.invariant_of-self-2
invariant_of-self-2 c =
    let above : IsAbove (rows_with c.self.inside.stored c.self.inside.holds.entries) c.args.copy = subst (λ rows. IsAbove rows c.args.copy) (sym c.self.view_is) c.requires in
    subst Ascends (sym (ap (rows_with c.below-self-inside.result) c.in_ok-insert.ensures.entries ∙ grown c.self.inside.stored c.below-self-inside.result c.args.copy c.below-self-inside.ensures.stays c.below-self-inside.ensures.out c.self.inside.holds.entries above)) (Ascends-push _ (entered c.args.copy) c.self.invariant above)

pub returns-clause-ok : goal.returns-clause-ok
returns-clause-ok c =
    let above : IsAbove (rows_with c.self.inside.stored c.self.inside.holds.entries) c.args.copy = subst (λ rows. IsAbove rows c.args.copy) (sym c.self.view_is) c.requires in
    ap (rows_with c.below-self-inside.result) c.in_ok-insert.ensures.entries ∙ grown c.self.inside.stored c.below-self-inside.result c.args.copy c.below-self-inside.ensures.stays c.below-self-inside.ensures.out c.self.inside.holds.entries above
    ∙ ap (λ rows. rows ++ entered c.args.copy ∷ []) c.self.view_is
