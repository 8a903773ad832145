use Rattle.std.proofs.Common.{[], take}
use Rattle.broker_store.specs.Messages.{Follows}
use Rattle.broker_store.proofs.messages.free_all.Given as goal

abbrev pub invariant-loop-copy : goal.invariant-loop-copy
invariant-loop-copy l = Follows l.initial.messages l.messages (take l.copy-index l.copies) []
