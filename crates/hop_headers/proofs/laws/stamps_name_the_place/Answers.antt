use Rattle.hop_headers.proofs.StampLemmas.{stamps_exchange, stamps_queue, exchange_keeps, queue_keeps, own_yes, own_back}
use Rattle.hop_headers.proofs.laws.stamps_name_the_place.Goals as goal

pub returns : goal.returns
returns c = record {
  exchange = stamps_exchange;
  queue = stamps_queue;
  own = λ place queue e. (own_yes place queue e, own_back place queue e);
  others = λ headers place name redelivered. (exchange_keeps headers place name redelivered, queue_keeps headers place name redelivered);
}
