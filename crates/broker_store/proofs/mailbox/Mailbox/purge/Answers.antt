use Rattle.broker_store.proofs.MailLemmas.{held_ones}
use Rattle.broker_store.proofs.mailbox.Mailbox.purge.Goals as goal

pub invariant_of-self : goal.invariant_of-self
invariant_of-self c = rw (c.keep_held.ensures, c.purge-count.ensures.held) (held_ones _ _ c.self.invariant)
