use Rattle.std.proofs.Common.{cond, false, arith}
use Rattle.std.proofs.lemmas.List.Sums.{sum_by_more_le_part}
use Rattle.queue_core.specs.declared.rows.Hold.TheVariants.{Held}
use Rattle.queue_core.specs.declared.tally.Count.{Count}
use Rattle.queue_core.specs.Rows.{is_hold_of}
use Rattle.queue_core.proofs.TallyLemmas.{part}
use Rattle.queue_core.proofs.tally.held_by.Goals as goal

pub overflow_add-copies : goal.overflow_add-copies
overflow_add-copies c =
    let within = sum_by_more_le_part (λ (count : Count). cond (is_hold_of c.args.holder (Held count.holder)) count.copies 0) (λ (count : Count). count.copies) c.args.counts.now c.loop-count.count-index (record { holder = record { link = false; number = 0; part = 0 }; copies = 0 }) c.loop-count-test.true (λ count. part (is_hold_of c.args.holder (Held count.holder)) count.copies) in
    let so_far = c.loop-count.invariant in
    let fits = c.requires in
    omega (arith, within, so_far, fits)
