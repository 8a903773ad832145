-- The names so far and those of what is left are all names, and what is left is refused as all is. No name stands twice.
use Rattle.std.proofs.Common.{◌≡◌, ◌++◌, [], drop}
use Rattle.serde_json.specs.View.{items_view}
use Rattle.defs_lists.specs.PlacedItems.{AreDistinct}
use Rattle.defs_lists.specs.Vhosts.{vhosts_of, vhosts_fault, AreHosts}
use Rattle.defs_lists.proofs.vhosts.read_vhosts.Given as goal

abbrev pub invariant-loop-index : goal.invariant-loop-index
invariant-loop-index l = record {
  hosts : AreHosts l.names;
  distinct : AreDistinct l.names;
  read : l.names ++ vhosts_of (items_view (drop l.index l.items)) ≡ vhosts_of (items_view l.items);
  refused : vhosts_fault l.names l.index (items_view (drop l.index l.items)) ≡ vhosts_fault [] 0 (items_view l.items);
}
