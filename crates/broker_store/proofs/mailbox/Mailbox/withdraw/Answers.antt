use Rattle.broker_store.proofs.MailLemmas.{without_it}
use Rattle.broker_store.proofs.mailbox.Mailbox.withdraw.Goals as goal

pub invariant_of-self : goal.invariant_of-self
invariant_of-self c = rw (c.remove.ensures, c.leave-there.ensures.left) (without_it _ _ _ c.self.invariant)
