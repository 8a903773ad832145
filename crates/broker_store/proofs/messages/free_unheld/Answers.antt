use Rattle.broker_store.proofs.MessageLemmas.{still_there}
use Rattle.broker_store.proofs.messages.free_unheld.Goals as goal

pub free-requires : goal.free-requires
free-requires c = still_there _ _ c.args.copies.now _ c.loop-copy.copy-index _ c.loop-copy-test.true c.requires c.loop-copy.invariant
