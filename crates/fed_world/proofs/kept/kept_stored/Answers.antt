use Rattle.std.proofs.Common.{[], refl}
use Rattle.fed_world.specs.Run.{begin}
use Rattle.fed_world.proofs.RunKept.{begin-caused}
use Rattle.fed_world.proofs.Stored.{run-keeps_stored}
use Rattle.fed_world.proofs.kept.kept_stored.Goals as goal

pub returns : goal.returns
returns c = λ brokers events. run-keeps_stored (begin brokers) events (begin-caused [] brokers refl)
