use Rattle.broker_channels.proofs.ShareLemmas.{for-none}
use Rattle.broker_channels.proofs.shares.count_in.Goals as goal

pub returns-in_default-clause-shares : goal.returns-in_default-clause-shares
returns-in_default-clause-shares c = rw c.in_default.is (for-none c.args.shares.now.entries)
