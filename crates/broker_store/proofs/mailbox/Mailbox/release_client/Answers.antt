use Rattle.std.proofs.Common.{refl}
use Rattle.broker_store.proofs.MailLemmas.{same_numbers}
use Rattle.broker_store.proofs.mailbox.Mailbox.release_client.Goals as goal

pub invariant_of-self : goal.invariant_of-self
invariant_of-self c = rw c.release_client.ensures (same_numbers _ (λ _. refl) _ _ c.self.invariant)
