use Rattle.std.proofs.Common.{◌≡◌, ◌+◌, ◌-◌, ◌<◌, length, take, suc, ap, sym, ◌∙◌, arith}
use Rattle.broker_store.specs.Mail.{left}
use Rattle.broker_store.specs.Queues.{named, changed, with_mail, all_left_again}
use Rattle.broker_store.proofs.EnterLemmas.{left_more}
use Rattle.broker_store.proofs.queues.withdraw_each.Goals as goal

pub loop-left-preserved : goal.loop-left-preserved
loop-left-preserved c =
    let place = c.loop-left.left - 1 in let queues = named c.loop-left.table.entries in
    let inside = c.loop-left.invariant.within in let some = c.loop-left-test.true in let most = c.requires.within in
    let next : suc place ≡ c.loop-left.left = omega (arith, some) in
    let within : place < length c.args.names.now = omega (arith, inside, some, most) in
    record {
      within = omega (arith, inside);
      same =
          ap (all_left_again (take place c.args.names.now) c.args.number) (c.withdraw.ensures ∙ ap (λ name. changed name (with_mail (left (c.args.number + place))) queues) (c.as_str.ensures ∙ c.index-names-left.is))
          ∙ sym (left_more c.args.names.now place c.args.number c.index-names-left.result queues within)
          ∙ ap (λ count. all_left_again (take count c.args.names.now) c.args.number queues) next
          ∙ c.loop-left.invariant.same;
    }
