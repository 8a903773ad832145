use Rattle.field_tables.proofs.Apart.{tables_apart, tables_prefix}
use Rattle.field_tables.proofs.laws.tables_are_apart.Goals as goal

pub returns-clause-apart : goal.returns-clause-apart
returns-clause-apart c = tables_apart

pub returns-clause-prefix : goal.returns-clause-prefix
returns-clause-prefix c = tables_prefix
