-- What is read so far and what is left are what all items mean, and what is left is refused as all is.
use Rattle.std.proofs.Common.{◌≡◌, ◌+◌, ◌++◌, [], drop}
use Rattle.serde_json.specs.View.{items_view}
use Rattle.defs_lists.specs.Lists.{count_of, total_of}
use Rattle.defs_values.specs.Parameters.{is_other_component}
use Rattle.defs_lists.specs.ParameterItems.{parameter_inert, parameters_of, parameters_fault}
use Rattle.defs_lists.proofs.parameters.read_parameters.Given as goal

abbrev pub invariant-loop-index : goal.invariant-loop-index
invariant-loop-index l = record {
  kept : l.kept.items ++ parameters_of (items_view (drop l.index l.items)) ≡ parameters_of (items_view l.items);
  others : l.others + count_of is_other_component (items_view (drop l.index l.items))
      ≡ count_of is_other_component (items_view l.items);
  inert : l.inert + total_of is_other_component parameter_inert (items_view (drop l.index l.items))
      ≡ total_of is_other_component parameter_inert (items_view l.items);
  refused : parameters_fault l.vhosts l.names l.index (items_view (drop l.index l.items))
      ≡ parameters_fault l.vhosts [] 0 (items_view l.items);
}
