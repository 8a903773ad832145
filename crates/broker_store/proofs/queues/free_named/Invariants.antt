-- The copies of what is left are still counted, and of the rest those of the other queues.
use Rattle.broker_store.proofs.CountLemmas.{IsFreed}
use Rattle.broker_store.specs.Queues.{named}
use Rattle.broker_store.proofs.queues.free_named.Given as goal

abbrev pub invariant-loop-key : goal.invariant-loop-key
invariant-loop-key l = IsFreed l.name l.fn.messages l.messages (named l.fn.table.entries) (named l.key-iterator)
