use Rattle.field_tables.proofs.Apart.{values_apart}
use Rattle.field_tables.proofs.laws.values_are_apart.Goals as goal

pub returns : goal.returns
returns c = values_apart
