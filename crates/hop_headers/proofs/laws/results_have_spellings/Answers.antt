use Rattle.hop_headers.proofs.Spelled.{spells, exchange_stamp_spells, queue_stamp_spells}
use Rattle.hop_headers.proofs.laws.results_have_spellings.Goals as goal

pub returns : goal.returns
returns c = record {
  stamps = λ headers place name redelivered h. (exchange_stamp_spells headers place name redelivered h, queue_stamp_spells headers place name redelivered h);
  propagation = spells;
}
