use Rattle.std.proofs.Common.{◌∙◌}
use Rattle.field_tables.specs.Same.{same_pairs}
use Rattle.field_tables.specs.SameLaws.{tells, same_pairs_yes, same_pairs_self}
use Rattle.amqp_props.proofs.text.FieldTablePartialEq.eq.Goals as goal

pub returns-clause-same : goal.returns-clause-same
returns-clause-same c =
    tells same_pairs same_pairs_yes same_pairs_self c.eq.result c.args.self.now c.args.other.now (c.eq.ensures.tested ∙ (λ i. same_pairs (c.as_table.ensures i) (c.as_table-2.ensures i)))
