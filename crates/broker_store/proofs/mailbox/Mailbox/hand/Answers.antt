use Rattle.std.proofs.Common.{refl}
use Rattle.broker_store.proofs.MailLemmas.{same_numbers, seen_all}
use Rattle.broker_store.proofs.mailbox.Mailbox.hand.Goals as goal

pub invariant_of-self-2 : goal.invariant_of-self-2
invariant_of-self-2 c = rw (c.see.ensures, c.in_ok-number.ensures.held) (seen_all _ _ _ (same_numbers _ (λ _. refl) _ _ c.self.invariant))
