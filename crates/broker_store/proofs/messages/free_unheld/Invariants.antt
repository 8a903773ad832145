use Rattle.std.proofs.Common.{is_some, take}
use Rattle.std.specs.Prelude.{filter}
use Rattle.queue_core.specs.Rows.{holder_of}
use Rattle.broker_store.specs.Messages.{Follows}
use Rattle.broker_store.proofs.messages.free_unheld.Given as goal

abbrev pub invariant-loop-copy : goal.invariant-loop-copy
invariant-loop-copy l = Follows l.initial.messages l.messages (take l.copy-index l.copies) (filter (λ copy. is_some (holder_of copy.number l.queue)) (take l.copy-index l.copies))
