use Rattle.schedule_words.proofs.Written.{words-back}
use Rattle.schedule_words.proofs.laws.words_come_back.Goals as goal

pub returns : goal.returns
returns c = words-back
