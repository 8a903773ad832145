use Rattle.std.proofs.Common.{ℕ, sym, ap, ◌∙◌}
use Rattle.std.specs.Option.{option_and_then}
use Rattle.queue_core.specs.Rows.{first_ready}
use Rattle.broker_store.specs.Mail.{given}
use Rattle.broker_store.specs.Messages.{message_at}
use Rattle.broker_store.specs.Queues.{Standing, named, with_mail, changed, ready_in}
use Rattle.broker_store.proofs.QueueLemmas.{if_some, if_none}
use Rattle.broker_store.proofs.KeyLemmas.{mail_given, ready_in_with}
use Rattle.broker_store.proofs.CountLemmas.{covers_at, counted_at}
use Rattle.broker_store.proofs.TableLemmas.{changed_seen, same_seen, found_at, found_none}
use Rattle.broker_store.proofs.queues.Queues.hand_out.Goals as goal

pub hand_out-requires : goal.hand_out-requires
hand_out-requires c = covers_at c.self.inside.messages c.self.inside.table.entries c.in-Some.place c.index_mut.result.now c.self.invariant c.index_mut.ensures.value

pub returns-in-Some-clause-first : goal.returns-in-Some-clause-first
returns-in-Some-clause-first c =
    c.hand_out.ensures.first
    ∙ sym (ap (option_and_then (λ (queue : Standing ℕ). first_ready queue.mail.rows)) (found_at c.args.name.now c.self.inside.table.entries c.in-Some.place c.index_mut.result.now c.in-Some.ensures.value c.index_mut.ensures.value))
    ∙ ready_in_with (message_at c.self.inside.messages) c.args.name.now (named c.self.inside.table.entries)
    ∙ ap (ready_in c.args.name.now) c.self.view_is

pub returns-in-Some-clause-given : goal.returns-in-Some-clause-given
returns-in-Some-clause-given c =
    if_some c.hand_out.result (λ number same.
    changed_seen c.self.inside.messages c.hand_out.new.messages c.self.inside.table.entries c.args.name.now (given number c.args.holder c.args.no_ack) (given number c.args.holder c.args.no_ack) (mail_given (message_at c.self.inside.messages) number c.args.holder c.args.no_ack) c.in-Some.place c.index_mut.result.now c.hand_out.new.self c.in-Some.ensures.index c.index_mut.ensures.value same c.self.invariant c.hand_out.ensures.follows
    ∙ ap (changed c.args.name.now (with_mail (given number c.args.holder c.args.no_ack))) c.self.view_is) c.hand_out.ensures.given

pub returns-in-Some-clause-none : goal.returns-in-Some-clause-none
returns-in-Some-clause-none c =
    if_none c.hand_out.result (λ same.
    same_seen c.self.inside.messages c.hand_out.new.messages c.self.inside.table.entries c.in-Some.place c.index_mut.result.now c.hand_out.new.self c.index_mut.ensures.value same c.self.invariant c.hand_out.ensures.follows
    ∙ c.self.view_is) c.hand_out.ensures.none

pub returns-in-None-clause-first : goal.returns-in-None-clause-first
returns-in-None-clause-first c =
    sym (ap (option_and_then (λ (queue : Standing ℕ). first_ready queue.mail.rows)) (found_none c.args.name.now c.self.inside.table.entries c.in-None.ensures.found))
    ∙ ready_in_with (message_at c.self.inside.messages) c.args.name.now (named c.self.inside.table.entries)
    ∙ ap (ready_in c.args.name.now) c.self.view_is

pub invariant_of-self : goal.invariant_of-self
invariant_of-self c = (counted_at c.self.inside.messages c.hand_out.new.messages c.self.inside.table.entries c.in-Some.place c.index_mut.result.now (record c.index_mut.result.now { mail = c.hand_out.new.self }) c.self.invariant c.index_mut.ensures.value c.hand_out.ensures.follows).counted
