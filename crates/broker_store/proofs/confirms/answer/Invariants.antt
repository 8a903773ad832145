use Rattle.std.proofs.Common.{◌≡◌, ◌++◌, take, drop}
use Rattle.confirm_core.specs.Waits.{without}
use Rattle.broker_store.specs.Confirms.{its_ledger}
use Rattle.broker_store.proofs.confirms.answer.Given as goal

abbrev pub invariant-loop-account : goal.invariant-loop-account
invariant-loop-account l = l.account-items ≡ its_ledger l.link l.session (without l.number) (take l.account-index l.initial.account-items) ++ drop l.account-index l.initial.account-items
