use Rattle.std.proofs.Common.{◌==◌, not, take}
use Rattle.std.specs.Prelude.{filter}
use Rattle.broker_store.specs.Messages.{Follows}
use Rattle.broker_store.proofs.messages.free_numbered.Given as goal

abbrev pub invariant-loop-copy : goal.invariant-loop-copy
invariant-loop-copy l = Follows l.initial.messages l.messages (take l.copy-index l.copies) (filter (λ copy. not (copy.number == l.number)) (take l.copy-index l.copies))
