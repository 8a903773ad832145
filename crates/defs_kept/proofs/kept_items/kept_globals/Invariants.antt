-- What is kept so far and of what is left is what is kept of all items.
use Rattle.std.proofs.Common.{◌≡◌, ◌++◌, drop, map}
use Rattle.serde_json.specs.View.{view, items_view}
use Rattle.defs_lists.specs.Clusters.{is_other_global}
use Rattle.defs_kept.specs.Kept.{kept_global}
use Rattle.defs_lists.specs.Lists.{kept_of}
use Rattle.defs_kept.proofs.kept_items.kept_globals.Given as goal

abbrev pub invariant-loop-item : goal.invariant-loop-item
invariant-loop-item l =
    map view l.list.items ++ kept_of is_other_global kept_global (items_view (drop l.item-index l.items)) ≡ kept_of is_other_global kept_global (items_view l.items)
