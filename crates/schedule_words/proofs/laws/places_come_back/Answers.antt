use Rattle.schedule_words.proofs.Written.{places-back}
use Rattle.schedule_words.proofs.laws.places_come_back.Goals as goal

pub returns : goal.returns
returns c = places-back
