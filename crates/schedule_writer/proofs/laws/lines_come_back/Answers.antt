use Rattle.schedule_writer.proofs.Back.{lines_back}
use Rattle.schedule_writer.proofs.laws.lines_come_back.Goals as goal

pub returns : goal.returns
returns c = lines_back
