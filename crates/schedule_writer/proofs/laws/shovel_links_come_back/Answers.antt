use Rattle.schedule_writer.proofs.Links.{shovel_link}
use Rattle.schedule_writer.proofs.laws.shovel_links_come_back.Goals as goal

pub returns : goal.returns
returns c = shovel_link
