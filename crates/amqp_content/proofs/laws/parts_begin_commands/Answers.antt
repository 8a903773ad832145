use Rattle.amqp_content.proofs.LawLemmas.{part_begins}
use Rattle.amqp_content.proofs.laws.parts_begin_commands.Goals as goal

pub returns : goal.returns
returns c = part_begins
