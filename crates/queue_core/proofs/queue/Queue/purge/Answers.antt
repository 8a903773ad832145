use Rattle.std.proofs.Common.{◌≤◌, ◌&&◌, length, ap, sym, subst, ◌∙◌, arith}
use Rattle.std.specs.Prelude.{filter}
use Rattle.queue_core.specs.Rows.{is_held}
use Rattle.queue_core.specs.Copies.{AgreesWith, is_held_hold}
use Rattle.queue_core.proofs.RowLemmas.{Ascends-filter, none_left}
use Rattle.queue_core.proofs.TallyLemmas.{count_held, shorter}
use Rattle.queue_core.proofs.queue.Queue.purge.Goals as goal

pub invariant_of-self : goal.invariant_of-self
invariant_of-self c = let was = c.self.invariant in let rows = c.self.inside.copies in
    let fewer = shorter is_held rows in
    let room = was.room in let fits = was.fits in let same = c.drop_ready.ensures.room in
    subst (λ rows. AgreesWith rows _ c.drop_ready.new.self) (sym c.remove_ready.ensures) (record {
      rising = Ascends-filter is_held rows was.rising;
      first = sym (none_left rows);
      counts = λ test. c.drop_ready.ensures.counts test ∙ was.counts (λ hold. test hold && is_held_hold hold) ∙ sym (count_held test rows);
      room = omega (arith, fewer, room, same);
      fits = omega (arith, fewer, fits);
    })
