use Rattle.std.proofs.Common.{arith}
use Rattle.queue_core.proofs.TallyLemmas.{few}
use Rattle.queue_core.proofs.tally.add.Goals as goal

pub start-requires : goal.start-requires
start-requires c = let most = few c.args.counts.now.items c.requires.positive in let room = c.requires.room in omega (arith, most, room)
