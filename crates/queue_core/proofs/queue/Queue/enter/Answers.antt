use Rattle.std.proofs.Common.{◌≡◌, ◌+◌, [], ◌∷◌, ◌++◌, Some, length, length-append, ap, sym, subst, ◌∙◌, arith}
use Rattle.std.specs.Option.{option_or}
use Rattle.queue_core.specs.Rows.{IsAbove, entered, first_ready}
use Rattle.queue_core.specs.Copies.{AgreesWith}
use Rattle.queue_core.proofs.RowLemmas.{Ascends-push, first_entered}
use Rattle.queue_core.proofs.TallyLemmas.{count-entered}
use Rattle.queue_core.proofs.queue.Queue.enter.Goals as goal

pub invariant_of-self-2 : goal.invariant_of-self-2
invariant_of-self-2 c =
    let was = c.self.invariant in let rows = c.self.inside.copies in
    let above : IsAbove rows c.args.copy = subst (λ rows. IsAbove rows c.args.copy) (sym c.self.view_is) c.requires in
    let size : length (rows ++ entered c.args.copy ∷ []) ≡ length rows + 1 = length-append rows (entered c.args.copy ∷ []) in
    let count = c.count.ensures.count in let small = c.count.ensures.small in let room = c.in_ok-reserve.ensures.room in let more = c.put.ensures.room in
    subst (λ rows. AgreesWith rows c.or-self-inside.result c.put.new.self) (sym c.in_ok-enter.ensures.ok) (record {
      rising = Ascends-push rows (entered c.args.copy) was.rising above;
      first = c.or-self-inside.ensures ∙ ap (λ first. option_or first (Some c.args.copy)) was.first ∙ sym (first_entered c.args.copy rows);
      counts = λ test. let put = c.put.ensures.counts test in let same = c.reserve.ensures.same test in let all = was.counts test in let one = count-entered test c.args.copy rows in omega (arith, put, same, all, one);
      room = omega (arith, size, count, room, more);
      fits = omega (arith, size, count, small);
    })
