use Rattle.std.proofs.Common.{refl, ap, sym, subst, ◌∙◌, rules}
use Rattle.queue_core.specs.Rows.{Ascends, freed_of, released_client}
use Rattle.queue_core.specs.Copies.{rows_with}
use Rattle.queue_core.proofs.RowLemmas.{Ascends-map}
use Rattle.queue_core.proofs.EntryLemmas.{map_from_retain_pairs, held_over}
use Rattle.queue_core.proofs.copies.Copies.free_client.Goals as goal

pub invariant_of-self : goal.invariant_of-self
invariant_of-self c = subst Ascends (sym (ap (rows_with c.self.inside.stored) (map_from_retain_pairs _ (freed_of c.args.client) _ (λ k v b w g called. search rules) _ _ c.retain.ensures.filtered) ∙ held_over c.self.inside.stored (freed_of c.args.client) c.self.inside.holds.entries)) (Ascends-map _ (λ _. refl) _ c.self.invariant)

pub returns : goal.returns
returns c = ap (rows_with c.self.inside.stored) (map_from_retain_pairs _ (freed_of c.args.client) _ (λ k v b w g called. search rules) _ _ c.retain.ensures.filtered) ∙ held_over c.self.inside.stored (freed_of c.args.client) c.self.inside.holds.entries ∙ ap (released_client c.args.client) c.self.view_is
