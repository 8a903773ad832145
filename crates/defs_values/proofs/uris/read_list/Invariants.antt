-- The URIs so far and the texts of what is left are the texts of all, and what is left is refused as all is.
use Rattle.std.proofs.Common.{◌≡◌, ◌++◌, drop}
use Rattle.serde_json.specs.View.{items_view}
use Rattle.defs_values.specs.Uris.{texts_of, items_fault}
use Rattle.defs_values.proofs.uris.read_list.Given as goal

abbrev pub invariant-loop-index : goal.invariant-loop-index
invariant-loop-index l = record {
  read : l.list.items ++ texts_of (items_view (drop l.index l.items)) ≡ texts_of (items_view l.items);
  fault : items_fault l.index (items_view (drop l.index l.items)) ≡ items_fault 0 (items_view l.items);
}
