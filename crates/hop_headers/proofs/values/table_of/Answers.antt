use Rattle.hop_headers.proofs.Views.{table_is}
use Rattle.hop_headers.proofs.values.table_of.Goals as goal

pub returns-in-Table : goal.returns-in-Table
returns-in-Table c = table_is c.args.value.now c.in-Table.table.pairs c.in-Table.is
