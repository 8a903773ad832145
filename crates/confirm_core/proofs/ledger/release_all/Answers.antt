use Rattle.confirm_core.proofs.LedgerLemmas.{released-more, released-none-yet}
use Rattle.confirm_core.proofs.ledger.release_all.Goals as goal

pub loop-opening-init : goal.loop-opening-init
loop-opening-init c = released-none-yet c.args.copy c.args.openings.now

pub loop-opening-preserved : goal.loop-opening-preserved
loop-opening-preserved c = rw (c.release.ensures, c.loop-opening.invariant) (released-more c.args.waiting.now c.loop-opening.opening-index c.args.copy c.args.openings.now c.loop-opening-test.true)
