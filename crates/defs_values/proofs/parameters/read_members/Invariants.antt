-- The members so far and those of what is left are all members, and what is left is refused as all is.
use Rattle.std.proofs.Common.{◌≡◌, ◌++◌, drop}
use Rattle.serde_json.specs.View.{items_view}
use Rattle.defs_values.specs.Parameters.{members_of, members_fault}
use Rattle.defs_values.proofs.parameters.read_members.Given as goal

abbrev pub invariant-loop-index : goal.invariant-loop-index
invariant-loop-index l = record {
  read : l.members.items ++ members_of (items_view (drop l.index l.items)) ≡ members_of (items_view l.items);
  refused : members_fault l.index (items_view (drop l.index l.items)) ≡ members_fault 0 (items_view l.items);
}
