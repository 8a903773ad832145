use Rattle.std.proofs.Common.{[]}
use Rattle.fed_schedule.proofs.Arguments.{arguments_spelled}
use Rattle.fed_schedule.proofs.reading.arguments_in.Goals as goal

pub table_len-requires : goal.table_len-requires
table_len-requires c = rw (c.as_table.ensures, c.in_ok-arguments.ensures) (arguments_spelled [] c.args.words.now c.requires.named c.requires.within)
