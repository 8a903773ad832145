use Rattle.std.proofs.Common.{◌≡◌, sym, ap, ◌∙◌, subst}
use Rattle.broker_store.specs.Messages.{message_at, copies_at, queues_with, IsCounted, AreMore}
use Rattle.broker_store.specs.Queues.{all_entered, named, AreAbove}
use Rattle.broker_store.proofs.QueueLemmas.{always_err}
use Rattle.broker_store.proofs.KeyLemmas.{above_with}
use Rattle.broker_store.proofs.CountLemmas.{added_seen}
use Rattle.broker_store.proofs.queues.Queues.enter_all.Goals as goal

pub enter_each-requires-clause-above : goal.enter_each-requires-clause-above
enter_each-requires-clause-above c = above_with (message_at c.self.inside.messages) c.args.number (named c.self.inside.table.entries) (subst (AreAbove c.args.number) (sym c.self.view_is) c.requires.above)

pub returns-in_err-reserve-clause-err : goal.returns-in_err-reserve-clause-err
returns-in_err-reserve-clause-err c = always_err c.from_residual.result (ap (λ kept. queues_with (message_at kept) (named c.self.inside.table.entries)) c.reserve.ensures.same ∙ c.self.view_is)

pub returns-in_err-copies-clause-err : goal.returns-in_err-copies-clause-err
returns-in_err-copies-clause-err c =
    always_err c.from_residual-in_err-copies.result (ap (λ kept. queues_with (message_at kept) (named c.enter_each.new.table.entries)) c.reserve.ensures.same ∙ ap (queues_with (message_at c.self.inside.messages)) c.in_err-copies.ensures.err ∙ c.self.view_is)

pub returns-clause-ok : goal.returns-clause-ok
returns-clause-ok c =
    let counted : IsCounted c.reserve.new.self (named c.self.inside.table.entries) = subst (λ kept. IsCounted kept (named c.self.inside.table.entries)) (sym c.reserve.ensures.same) c.self.invariant in
    let next = c.next_key-key.ensures.next in
    added_seen c.args.message c.in_ok-copies.copies c.reserve.new.self c.keep.new.self (named c.self.inside.table.entries) (named c.enter_each.new.table.entries) counted (subst (λ key. copies_at key c.reserve.new.self ≡ 0) next c.next_key-key.ensures.free) c.keep.ensures (subst (λ key. AreMore key c.in_ok-copies.copies (named c.self.inside.table.entries) (named c.enter_each.new.table.entries)) next c.in_ok-copies.ensures.count) c.args.names.now c.args.number (subst (λ key. named c.enter_each.new.table.entries ≡ all_entered c.args.names.now c.args.number key (named c.self.inside.table.entries)) next c.in_ok-copies.ensures.ok)
    ∙ ap (all_entered c.args.names.now c.args.number c.args.message) (ap (λ kept. queues_with (message_at kept) (named c.self.inside.table.entries)) c.reserve.ensures.same ∙ c.self.view_is)
