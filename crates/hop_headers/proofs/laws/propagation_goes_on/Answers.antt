use Rattle.hop_headers.proofs.GoingOn.{goes_on, begins, keeps}
use Rattle.hop_headers.proofs.laws.propagation_goes_on.Goals as goal

pub returns : goal.returns
returns c = record { on = goes_on; first = begins; others = keeps }
