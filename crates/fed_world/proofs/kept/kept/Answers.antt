use Rattle.fed_world.proofs.RunKept.{run-kept}
use Rattle.fed_world.proofs.kept.kept.Goals as goal

pub returns : goal.returns
returns c = run-kept
