use Rattle.std.proofs.Common.{◌≡◌, ◌++◌, take, drop}
use Rattle.confirm_core.specs.Waits.{all_stored}
use Rattle.broker_store.specs.Confirms.{all_ledgers}
use Rattle.broker_store.proofs.confirms.store_all.Given as goal

abbrev pub invariant-loop-account : goal.invariant-loop-account
invariant-loop-account l = l.account-items ≡ all_ledgers all_stored (take l.account-index l.initial.account-items) ++ drop l.account-index l.initial.account-items
