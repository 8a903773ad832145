use Rattle.hop_headers.proofs.HopLemmas.{gate_yes, gate_back}
use Rattle.hop_headers.proofs.laws.gates_decide.Goals as goal

pub returns : goal.returns
returns c = λ limit cluster vhost headers. (gate_yes limit cluster vhost headers, gate_back limit cluster vhost headers)
