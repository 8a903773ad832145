use Rattle.schedule_words.proofs.Written.{numbers-back}
use Rattle.schedule_words.proofs.laws.numbers_come_back.Goals as goal

pub returns : goal.returns
returns c = numbers-back
