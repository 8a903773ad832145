use Rattle.amqp_content.proofs.LawLemmas.{one_command}
use Rattle.amqp_content.proofs.laws.commands_are_one.Goals as goal

pub returns : goal.returns
returns c = one_command
