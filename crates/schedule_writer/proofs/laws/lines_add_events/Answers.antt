use Rattle.schedule_writer.proofs.Back.{lines_add}
use Rattle.schedule_writer.proofs.laws.lines_add_events.Goals as goal

pub returns : goal.returns
returns c = lines_add
