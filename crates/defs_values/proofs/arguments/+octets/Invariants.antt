-- The count so far and that of what is left are the count of all, up to where counts stop.
use Rattle.std.proofs.Common.{◌≡◌, ◌+◌, ◌≤◌, drop}
use Rattle.std.specs.Prelude.{min}
use Rattle.serde_json.specs.View.{items_view, members_view}
use Rattle.defs_values.specs.Arguments as arguments
use Rattle.defs_values.proofs.arguments.+octets.Given as goal

abbrev pub invariant-items_octets-loop-item : goal.invariant-items_octets-loop-item
invariant-items_octets-loop-item l = record {
  most : l.count ≤ 32769;
  sum : min 32769 (l.count + arguments.items_octets (items_view (drop l.item-index l.items.items))) ≡ min 32769 (arguments.items_octets (items_view l.items.items));
}

abbrev pub invariant-members_octets-loop-key : goal.invariant-members_octets-loop-key
invariant-members_octets-loop-key l = record {
  most : l.count ≤ 32769;
  sum : min 32769 (l.count + arguments.members_octets (members_view l.key-iterator)) ≡ min 32769 (arguments.members_octets (members_view l.fn.map.entries));
}
