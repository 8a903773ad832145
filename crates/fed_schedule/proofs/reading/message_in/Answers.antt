use Rattle.fed_schedule.proofs.Arguments.{props_short}
use Rattle.fed_schedule.proofs.reading.message_in.Goals as goal

pub header_len-requires : goal.header_len-requires
header_len-requires c = rw c.in_ok-props.ensures (props_short c.args.words.now c.requires.named c.requires.within)
