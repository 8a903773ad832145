-- What is kept so far and of what is left is what is kept of all items.
use Rattle.std.proofs.Common.{◌≡◌, ◌++◌, drop, map}
use Rattle.serde_json.specs.View.{view, items_view}
use Rattle.defs_kept.specs.Kept.{kept_member}
use Rattle.defs_lists.specs.Lists.{kept_of}
use Rattle.defs_lists.specs.Vhosts.{no_item}
use Rattle.defs_kept.proofs.kept_parameters.kept_members.Given as goal

abbrev pub invariant-loop-item : goal.invariant-loop-item
invariant-loop-item l =
    map view l.list.items ++ kept_of no_item kept_member (items_view (drop l.item-index l.items)) ≡ kept_of no_item kept_member (items_view l.items)
