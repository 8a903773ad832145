use Rattle.std.proofs.Common.{true, refl, ap, sym, subst, ◌∙◌}
use Rattle.std.proofs.lemmas.List.{length-map}
use Rattle.queue_core.specs.declared.rows.Row.{Row}
use Rattle.queue_core.specs.Rows.{all_stored}
use Rattle.queue_core.specs.Copies.{AgreesWith}
use Rattle.queue_core.proofs.RowLemmas.{Ascends-map, first_stored}
use Rattle.queue_core.proofs.TallyLemmas.{count_stored}
use Rattle.queue_core.proofs.queue.Queue.mark_stored.Goals as goal

pub invariant_of-self : goal.invariant_of-self
invariant_of-self c = let was = c.self.invariant in let rows = c.self.inside.copies in
    subst (λ rows. AgreesWith rows c.self.inside.first c.self.inside.tally) (sym c.mark_stored.ensures) (record {
      rising = Ascends-map _ (λ _. refl) rows was.rising;
      first = was.first ∙ sym (first_stored rows);
      counts = λ test. was.counts test ∙ sym (count_stored test rows);
      room = rw (length-map rows (λ (row : Row). record row { stored = true })) was.room;
      fits = rw (length-map rows (λ (row : Row). record row { stored = true })) was.fits;
    })
