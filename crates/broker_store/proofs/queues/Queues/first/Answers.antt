use Rattle.std.proofs.Common.{ℕ, Option, Some, Bor, sym, ap, ◌∙◌}
use Rattle.std.specs.Option.{option_map, option_and_then, option_copied}
use Rattle.amqp_props.specs.declared.message.Message.{Message}
use Rattle.queue_core.specs.Rows.{first_ready}
use Rattle.broker_store.specs.declared.mailbox.CopyMessage.{CopyMessage}
use Rattle.broker_store.specs.Mail.{first_copy}
use Rattle.broker_store.specs.Messages.{message_at, copy_with, shown}
use Rattle.broker_store.specs.Queues.{Standing, first_in, ready_in}
use Rattle.broker_store.proofs.TableLemmas.{seen_first, seen_ready, first_kept}
use Rattle.broker_store.proofs.queues.Queues.first.Goals as goal

abbrev offered : (ℕ → Message) → Option (Bor (Standing ℕ)) → Option (CopyMessage Message)
offered of found = option_map (copy_with of) (option_and_then (λ (q : Standing ℕ). first_copy q.mail) (option_copied found))

abbrev ready : Option (Bor (Standing ℕ)) → Option ℕ
ready found = option_and_then (λ (q : Standing ℕ). first_ready q.mail.rows) (option_copied found)

pub returns-in_err-get-clause-first : goal.returns-in_err-get-clause-first
returns-in_err-get-clause-first c =
    ap (option_map shown) c.from_residual.ensures
    ∙ sym (seen_first c.self.inside.messages c.args.name.now c.self.inside.table.entries c.get.result c.get.ensures.value ∙ ap (offered (message_at c.self.inside.messages)) c.in_err-get.was)
    ∙ ap (first_in c.args.name.now) c.self.view_is

pub returns-in_err-get-clause-ready : goal.returns-in_err-get-clause-ready
returns-in_err-get-clause-ready c =
    ap (option_map (λ (first : Bor (CopyMessage ℕ) × Bor Message). first.0.now.number)) c.from_residual.ensures
    ∙ sym (seen_ready c.self.inside.messages c.args.name.now c.self.inside.table.entries c.get.result c.get.ensures.value ∙ ap ready c.in_err-get.was)
    ∙ ap (ready_in c.args.name.now) c.self.view_is

pub returns-in_err-copy-clause-first : goal.returns-in_err-copy-clause-first
returns-in_err-copy-clause-first c =
    ap (option_map shown) c.from_residual-in_err-copy.ensures
    ∙ sym (seen_first c.self.inside.messages c.args.name.now c.self.inside.table.entries c.get.result c.get.ensures.value ∙ ap (offered (message_at c.self.inside.messages)) c.in_ok-get.was ∙ ap (option_map (copy_with (message_at c.self.inside.messages))) (sym c.first.ensures.first ∙ ap option_copied c.in_err-copy.was))
    ∙ ap (first_in c.args.name.now) c.self.view_is

pub returns-in_err-copy-clause-ready : goal.returns-in_err-copy-clause-ready
returns-in_err-copy-clause-ready c =
    ap (option_map (λ (first : Bor (CopyMessage ℕ) × Bor Message). first.0.now.number)) c.from_residual-in_err-copy.ensures
    ∙ sym (seen_ready c.self.inside.messages c.args.name.now c.self.inside.table.entries c.get.result c.get.ensures.value ∙ ap ready c.in_ok-get.was ∙ sym c.first.ensures.ready ∙ ap (option_map (λ (copy : Bor (CopyMessage ℕ)). copy.now.number)) c.in_err-copy.was)
    ∙ ap (ready_in c.args.name.now) c.self.view_is

pub returns-in-Some-clause-first : goal.returns-in-Some-clause-first
returns-in-Some-clause-first c =
    ap (λ m. Some (record { number = c.in_ok-copy.copy.now.number; again = c.in_ok-copy.copy.now.again; message = m })) c.in-Some.ensures.found
    ∙ sym (seen_first c.self.inside.messages c.args.name.now c.self.inside.table.entries c.get.result c.get.ensures.value ∙ ap (offered (message_at c.self.inside.messages)) c.in_ok-get.was ∙ ap (option_map (copy_with (message_at c.self.inside.messages))) (sym c.first.ensures.first ∙ ap option_copied c.in_ok-copy.was))
    ∙ ap (first_in c.args.name.now) c.self.view_is

pub returns-in-Some-clause-ready : goal.returns-in-Some-clause-ready
returns-in-Some-clause-ready c =
    sym (seen_ready c.self.inside.messages c.args.name.now c.self.inside.table.entries c.get.result c.get.ensures.value ∙ ap ready c.in_ok-get.was ∙ sym c.first.ensures.ready ∙ ap (option_map (λ (copy : Bor (CopyMessage ℕ)). copy.now.number)) c.in_ok-copy.was)
    ∙ ap (ready_in c.args.name.now) c.self.view_is

pub returns-in-None-clause-first : goal.returns-in-None-clause-first
returns-in-None-clause-first c = first_kept c.self.inside.messages c.args.name.now c.self.inside.table.entries c.in_ok-get.field-0.now c.in_ok-copy.copy.now c.self.invariant (sym c.get.ensures.value ∙ ap option_copied c.in_ok-get.was) (sym c.first.ensures.first ∙ ap option_copied c.in_ok-copy.was) c.in-None.ensures.absent

pub returns-in-None-clause-ready : goal.returns-in-None-clause-ready
returns-in-None-clause-ready c = first_kept c.self.inside.messages c.args.name.now c.self.inside.table.entries c.in_ok-get.field-0.now c.in_ok-copy.copy.now c.self.invariant (sym c.get.ensures.value ∙ ap option_copied c.in_ok-get.was) (sym c.first.ensures.first ∙ ap option_copied c.in_ok-copy.was) c.in-None.ensures.absent
