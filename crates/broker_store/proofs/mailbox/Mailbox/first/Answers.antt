use Rattle.std.proofs.Common.{◌≡◌, ℕ, Some, sym, ap, ◌∙◌}
use Rattle.std.specs.Option.{option_map, option_and_then}
use Rattle.queue_core.specs.Rows.{first_ready}
use Rattle.broker_store.specs.declared.mailbox.CopyMessage.{CopyMessage}
use Rattle.broker_store.specs.Mail.{copy_of}
use Rattle.broker_store.proofs.MailLemmas.{copied, first_there}
use Rattle.broker_store.proofs.mailbox.Mailbox.first.Goals as goal

pub returns-clause-ready : goal.returns-clause-ready
returns-clause-ready c =
    let found : first_ready c.self.inside.queue ≡ Some c.in_ok-number.number = sym c.first_ready.ensures ∙ c.in_ok-number.was in
    copied c.find_copy.result
    ∙ ap (option_map (λ (copy : CopyMessage ℕ). copy.number)) (c.find_copy.ensures ∙ ap (copy_of c.in_ok-number.number) c.deref.ensures.value)
    ∙ ap (λ r. option_map (λ (copy : CopyMessage ℕ). copy.number) (option_and_then (λ number. copy_of number c.self.inside.copies.items) r)) (sym found)
    ∙ first_there _ _ c.self.invariant
    ∙ ap (λ m. first_ready m.rows) c.self.view_is
