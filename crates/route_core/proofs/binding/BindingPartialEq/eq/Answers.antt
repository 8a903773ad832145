use Rattle.std.proofs.Common.{rules}
use Rattle.field_tables.specs.SameLaws.{tells}
use Rattle.route_core.specs.Bindings.{is_same}
use Rattle.route_core.specs.SameBindings.{binding_yes, binding_self}
use Rattle.route_core.proofs.binding.BindingPartialEq.eq.Goals as goal

pub returns-clause-same : goal.returns-clause-same
returns-clause-same c =
    tells is_same binding_yes binding_self c.is_same.result c.args.self.now c.args.other.now (search rules)
