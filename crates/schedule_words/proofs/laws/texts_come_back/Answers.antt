use Rattle.schedule_words.proofs.Written.{texts-back}
use Rattle.schedule_words.proofs.laws.texts_come_back.Goals as goal

pub returns : goal.returns
returns c = texts-back
