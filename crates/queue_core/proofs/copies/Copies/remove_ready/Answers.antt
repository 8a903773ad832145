use Rattle.std.proofs.Common.{ap, sym, subst, ◌∙◌, rules}
use Rattle.std.specs.Prelude.{filter}
use Rattle.queue_core.specs.Rows.{Ascends, is_held}
use Rattle.queue_core.specs.Copies.{rows_with, is_held_hold}
use Rattle.queue_core.proofs.RowLemmas.{Ascends-filter}
use Rattle.queue_core.proofs.EntryLemmas.{filter_from_retain, kept_over}
use Rattle.queue_core.proofs.copies.Copies.remove_ready.Goals as goal

pub invariant_of-self : goal.invariant_of-self
invariant_of-self c = subst Ascends (sym (ap (rows_with c.self.inside.stored) (filter_from_retain _ is_held_hold _ (λ k v b w g called. search rules) _ _ c.retain.ensures.filtered) ∙ kept_over c.self.inside.stored is_held_hold c.self.inside.holds.entries)) (Ascends-filter _ _ c.self.invariant)

pub returns : goal.returns
returns c = ap (rows_with c.self.inside.stored) (filter_from_retain _ is_held_hold _ (λ k v b w g called. search rules) _ _ c.retain.ensures.filtered) ∙ kept_over c.self.inside.stored is_held_hold c.self.inside.holds.entries ∙ ap (filter is_held) c.self.view_is
