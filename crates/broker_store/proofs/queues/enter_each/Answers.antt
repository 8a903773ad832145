use Rattle.std.proofs.Common.{◌≡◌, ◌≤◌, ◌+◌, suc, take, cond, true, false, sym, ap, ◌∙◌, subst, arith, length}
use Rattle.std.specs.Option.{is_some}
use Rattle.broker_store.specs.Mail.{entered}
use Rattle.broker_store.specs.Messages.{AreMore}
use Rattle.broker_store.specs.Queues.{named, changed, with_mail, queue_of, all_entered, all_left_again, AreAbove}
use Rattle.broker_store.proofs.CountLemmas.{one_more, more_more, at_most_one}
use Rattle.broker_store.proofs.EnterLemmas.{above_more, entered_more, undone_all}
use Rattle.broker_store.proofs.queues.enter_each.Goals as goal

pub enter-requires : goal.enter-requires
enter-requires c = subst (AreAbove (c.args.number + c.loop-place.place)) (sym c.loop-place.invariant.entered) (above_more c.args.names.now c.loop-place.place c.args.number c.args.key (named c.args.table.now.entries) (omega arith) c.requires.above)

pub loop-place-preserved : goal.loop-place-preserved
loop-place-preserved c =
    let was = named c.args.table.now.entries in let queues = named c.loop-place.table.entries in let now = named c.enter.new.table.entries in
    let number = c.args.number + c.loop-place.place in let name = c.as_str.result.now in
    let one : c.in-Ok.entered ≤ 1 = subst (λ n. n ≤ 1) (sym c.in-Ok.ensures.count) (at_most_one (is_some (queue_of name queues))) in
    let few = c.loop-place.invariant.few in
    let next : suc c.loop-place.place ≡ c.loop-place.place + 1 = omega arith in
    record {
      entered =
          c.in-Ok.ensures.ok ∙ ap (λ name. changed name (with_mail (entered number c.args.key)) queues) (c.as_str.ensures ∙ c.index-names-place.is)
          ∙ ap (changed _ (with_mail (entered number c.args.key))) c.loop-place.invariant.entered
          ∙ sym (entered_more c.args.names.now c.loop-place.place c.args.number c.index-names-place.result c.args.key was c.loop-place-test.true)
          ∙ ap (λ count. all_entered (take count c.args.names.now) c.args.number c.args.key was) next;
      more =
          more_more c.args.key c.loop-place.copies c.in-Ok.entered was queues now c.loop-place.invariant.more
          (subst (λ list. AreMore c.args.key c.in-Ok.entered queues list) (sym c.in-Ok.ensures.ok) (subst (λ copies. AreMore c.args.key copies queues (changed name (with_mail (entered number c.args.key)) queues)) (sym c.in-Ok.ensures.count) (one_more name number c.args.key queues)));
      few = omega (arith, one, few);
    }

pub returns-in-Err-clause-err : goal.returns-in-Err-clause-err
returns-in-Err-clause-err c =
    let names = take c.loop-place.place c.args.names.now in let was = named c.args.table.now.entries in
    c.withdraw_each.ensures ∙ ap (all_left_again names c.args.number) (c.in-Err.ensures.err ∙ c.loop-place.invariant.entered) ∙ undone_all names c.args.number c.args.key was c.requires.above
