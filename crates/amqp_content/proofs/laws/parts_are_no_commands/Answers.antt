use Rattle.amqp_content.proofs.LawLemmas.{part_is_no_command}
use Rattle.amqp_content.proofs.laws.parts_are_no_commands.Goals as goal

pub returns : goal.returns
returns c = part_is_no_command
