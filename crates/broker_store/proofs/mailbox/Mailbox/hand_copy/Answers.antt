use Rattle.std.proofs.Common.{refl}
use Rattle.broker_store.proofs.MailLemmas.{same_numbers, seen_all}
use Rattle.broker_store.proofs.mailbox.Mailbox.hand_copy.Goals as goal

pub invariant_of-self : goal.invariant_of-self
invariant_of-self c = rw (c.see.ensures, c.hand_copy.ensures) (seen_all _ _ _ (same_numbers _ (λ _. refl) _ _ c.self.invariant))
