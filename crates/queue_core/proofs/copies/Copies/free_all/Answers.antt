use Rattle.std.proofs.Common.{refl, ap, sym, subst, ◌∙◌, rules}
use Rattle.queue_core.specs.Rows.{Ascends, freed, released_all}
use Rattle.queue_core.specs.Copies.{rows_with}
use Rattle.queue_core.proofs.RowLemmas.{Ascends-map}
use Rattle.queue_core.proofs.EntryLemmas.{map_from_retain_pairs, held_over}
use Rattle.queue_core.proofs.copies.Copies.free_all.Goals as goal

pub invariant_of-self : goal.invariant_of-self
invariant_of-self c = subst Ascends (sym (ap (rows_with c.self.inside.stored) (map_from_retain_pairs _ (freed c.args.holder) _ (λ k v b w g called. search rules) _ _ c.retain.ensures.filtered) ∙ held_over c.self.inside.stored (freed c.args.holder) c.self.inside.holds.entries)) (Ascends-map _ (λ _. refl) _ c.self.invariant)

pub returns : goal.returns
returns c = ap (rows_with c.self.inside.stored) (map_from_retain_pairs _ (freed c.args.holder) _ (λ k v b w g called. search rules) _ _ c.retain.ensures.filtered) ∙ held_over c.self.inside.stored (freed c.args.holder) c.self.inside.holds.entries ∙ ap (released_all c.args.holder) c.self.view_is
