use Rattle.std.proofs.Common.{ℕ, arith}
use Rattle.std.proofs.lemmas.Grind.{common_steps}
use Rattle.std.proofs.lemmas.List.Edits.{map_over_more}
use Rattle.broker_store.specs.Mail.{as_seen}
use Rattle.broker_store.proofs.mailbox.see.Goals as goal

pub loop-copy-preserved : goal.loop-copy-preserved
loop-copy-preserved c = grind (arith, common_steps, map_over_more (as_seen {M = ℕ} c.args.number))
