-- What is read so far and what is left are what all items mean, and what is left is refused as all is.
use Rattle.std.proofs.Common.{◌≡◌, ◌++◌, drop}
use Rattle.serde_json.specs.View.{items_view}
use Rattle.defs_lists.specs.Bindings.{bindings_of, bindings_fault}
use Rattle.defs_lists.proofs.bindings.read_bindings.Given as goal

abbrev pub invariant-loop-index : goal.invariant-loop-index
invariant-loop-index l = record {
  kept : l.list.items ++ bindings_of l.passed (items_view (drop l.index l.items)) ≡ bindings_of l.passed (items_view l.items);
  refused : bindings_fault l.vhosts l.kept l.passed l.index (items_view (drop l.index l.items))
      ≡ bindings_fault l.vhosts l.kept l.passed 0 (items_view l.items);
}
