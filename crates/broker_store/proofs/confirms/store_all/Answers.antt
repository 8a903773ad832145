use Rattle.std.proofs.Common.{arith}
use Rattle.std.proofs.lemmas.Grind.{common_steps}
use Rattle.std.proofs.lemmas.List.Edits.{map_over_more}
use Rattle.confirm_core.specs.Waits.{all_stored}
use Rattle.broker_store.specs.Confirms.{with_ledger}
use Rattle.broker_store.proofs.confirms.store_all.Goals as goal

pub loop-account-preserved : goal.loop-account-preserved
loop-account-preserved c = grind (arith, common_steps, map_over_more (with_ledger all_stored))
