-- The count so far and that of what is left are the count of all.
use Rattle.std.proofs.Common.{◌≡◌, ◌+◌, drop}
use Rattle.serde_json.specs.View.{items_view}
use Rattle.defs_lists.specs.Bindings.{passed_bindings}
use Rattle.defs_lists.proofs.bindings.count_passed.Given as goal

abbrev pub invariant-loop-item : goal.invariant-loop-item
invariant-loop-item l =
    l.count + passed_bindings l.passed (items_view (drop l.item-index l.items)) ≡ passed_bindings l.passed (items_view l.items)
