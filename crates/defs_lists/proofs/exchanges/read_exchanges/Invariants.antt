-- What is read so far and what is left are what all items mean, and what is left is refused as all is.
use Rattle.std.proofs.Common.{◌≡◌, ◌+◌, ◌++◌, [], drop}
use Rattle.serde_json.specs.View.{items_view}
use Rattle.defs_lists.specs.Exchanges.{exchanges_of, exchange_names, exchanges_inert, exchanges_fault}
use Rattle.defs_lists.proofs.exchanges.read_exchanges.Given as goal

abbrev pub invariant-loop-index : goal.invariant-loop-index
invariant-loop-index l = record {
  kept : l.kept.items ++ exchanges_of (items_view (drop l.index l.items)) ≡ exchanges_of (items_view l.items);
  names : l.names ++ exchange_names (items_view (drop l.index l.items)) ≡ exchange_names (items_view l.items);
  inert : l.inert + exchanges_inert (items_view (drop l.index l.items)) ≡ exchanges_inert (items_view l.items);
  refused : exchanges_fault l.vhosts l.names l.index (items_view (drop l.index l.items))
      ≡ exchanges_fault l.vhosts [] 0 (items_view l.items);
}
