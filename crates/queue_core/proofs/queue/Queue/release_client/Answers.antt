use Rattle.std.proofs.Common.{refl, ap, sym, subst, ◌∙◌}
use Rattle.std.proofs.lemmas.List.{length-map}
use Rattle.queue_core.specs.declared.rows.Row.{Row}
use Rattle.queue_core.specs.Rows.{freed_of, released_client}
use Rattle.queue_core.specs.Copies.{AgreesWith, rows_from}
use Rattle.queue_core.specs.Rows.{first_ready}
use Rattle.queue_core.proofs.RowLemmas.{Ascends-map, first_from, from_zero}
use Rattle.queue_core.proofs.TallyLemmas.{count_over}
use Rattle.queue_core.proofs.queue.Queue.release_client.Goals as goal

pub invariant_of-self : goal.invariant_of-self
invariant_of-self c = let was = c.self.invariant in let rows = c.self.inside.copies in let now = released_client c.args.client rows in
    subst (λ rows. AgreesWith rows c.first_from-self-inside.result c.free_client.new.self) (sym c.free_client-2.ensures) (record {
      rising = Ascends-map _ (λ _. refl) rows was.rising;
      first = c.first_from-self-inside.ensures ∙ ap (λ rows. first_ready (rows_from 0 rows)) c.free_client-2.ensures ∙ first_from 0 now (from_zero now);
      counts = λ test. c.free_client.ensures.counts test ∙ was.counts (λ hold. test (freed_of c.args.client hold)) ∙ sym (count_over test (freed_of c.args.client) rows);
      room = rw (length-map rows (λ (row : Row). record row { hold = freed_of c.args.client row.hold }), c.free_client.ensures.room) was.room;
      fits = rw (length-map rows (λ (row : Row). record row { hold = freed_of c.args.client row.hold })) was.fits;
    })
