-- What is left is refused as all is.
use Rattle.std.proofs.Common.{◌≡◌}
use Rattle.defs_values.specs.Shovels.{properties_fault}
use Rattle.serde_json.specs.View.{members_view}
use Rattle.defs_values.proofs.props.check_properties.Given as goal

abbrev pub invariant-loop-key : goal.invariant-loop-key
invariant-loop-key l = properties_fault (members_view l.fn.map.entries) ≡ properties_fault (members_view l.key-iterator)
