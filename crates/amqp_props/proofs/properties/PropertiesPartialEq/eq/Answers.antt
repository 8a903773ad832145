use Rattle.field_tables.specs.SameLaws.{tells}
use Rattle.amqp_props.specs.Same.{same_properties, properties_yes, properties_self}
use Rattle.amqp_props.proofs.properties.PropertiesPartialEq.eq.Goals as goal

pub returns-clause-same : goal.returns-clause-same
returns-clause-same c = tells same_properties properties_yes properties_self c.are_same.result c.args.self.now c.args.other.now c.are_same.ensures
