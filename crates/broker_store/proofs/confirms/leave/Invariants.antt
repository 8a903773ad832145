use Rattle.std.proofs.Common.{◌≡◌, ◌++◌, take, drop}
use Rattle.confirm_core.specs.Waits.{released}
use Rattle.broker_store.specs.Confirms.{all_ledgers}
use Rattle.broker_store.proofs.confirms.leave.Given as goal

abbrev pub invariant-loop-account : goal.invariant-loop-account
invariant-loop-account l = l.account-items ≡ all_ledgers (released l.copy) (take l.account-index l.initial.account-items) ++ drop l.account-index l.initial.account-items
