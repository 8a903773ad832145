use Rattle.field_tables.specs.View.{field_view}
use Rattle.field_tables.specs.SameLaws.{tells, same_yes, same_self}
use Rattle.field_tables.specs.Same.{same_field}
use Rattle.field_tables.proofs.same.FieldValuePartialEq.eq.Goals as goal

pub returns-clause-same : goal.returns-clause-same
returns-clause-same c = tells same_field same_yes same_self c.same_field.result (field_view c.args.self.now) (field_view c.args.other.now) c.same_field.ensures
