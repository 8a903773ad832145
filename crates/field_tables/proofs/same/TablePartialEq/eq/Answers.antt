use Rattle.field_tables.specs.View.{table_view}
use Rattle.field_tables.specs.SameLaws.{tells, same_pairs_yes, same_pairs_self}
use Rattle.field_tables.specs.Same.{same_pairs}
use Rattle.field_tables.proofs.same.TablePartialEq.eq.Goals as goal

pub returns-clause-same : goal.returns-clause-same
returns-clause-same c = tells same_pairs same_pairs_yes same_pairs_self c.same_pairs.result (table_view c.args.self.now) (table_view c.args.other.now) c.same_pairs.ensures
