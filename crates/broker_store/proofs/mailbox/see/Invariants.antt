use Rattle.std.proofs.Common.{◌≡◌, ◌++◌, take, drop}
use Rattle.std.specs.Prelude.{map}
use Rattle.broker_store.specs.Mail.{as_seen}
use Rattle.broker_store.proofs.mailbox.see.Given as goal

abbrev pub invariant-loop-copy : goal.invariant-loop-copy
invariant-loop-copy l = l.copy-items ≡ map (as_seen l.number) (take l.copy-index l.initial.copy-items) ++ drop l.copy-index l.initial.copy-items
