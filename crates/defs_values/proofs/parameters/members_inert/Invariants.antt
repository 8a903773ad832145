-- The count so far and that of what is left are the count of all.
use Rattle.std.proofs.Common.{◌≡◌, ◌+◌, drop}
use Rattle.serde_json.specs.View.{items_view}
use Rattle.defs_values.specs.Parameters.{members_inert}
use Rattle.defs_values.proofs.parameters.members_inert.Given as goal

abbrev pub invariant-loop-item : goal.invariant-loop-item
invariant-loop-item l =
    l.count + members_inert (items_view (drop l.item-index l.items)) ≡ members_inert (items_view l.items)
