use Rattle.std.proofs.Common.{◌≡◌, [], ◌∷◌, ◌++◌, take, drop}
use Rattle.broker_store.specs.Confirms.{its_ledger}
use Rattle.broker_store.proofs.confirms.open_in.Given as goal

abbrev pub invariant-loop-account : goal.invariant-loop-account
invariant-loop-account l =
    l.account-items ≡ its_ledger l.link l.session (λ ledger. ledger ++ record { number = l.number; waits = l.waits } ∷ []) (take l.account-index l.initial.account-items) ++ drop l.account-index l.initial.account-items
