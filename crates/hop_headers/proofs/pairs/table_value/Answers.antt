use Rattle.field_tables.proofs.Views.{view-Table}
use Rattle.hop_headers.proofs.pairs.table_value.Goals as goal

pub returns : goal.returns
returns c = view-Table c.args.pairs
