-- The names so far and those of what is left are all names, and so are the counts.
use Rattle.std.proofs.Common.{◌≡◌, ◌+◌, ◌++◌, [], drop}
use Rattle.serde_json.specs.View.{items_view}
use Rattle.defs_lists.specs.Exchanges.{passed_exchanges, passed_exchange_count}
use Rattle.defs_lists.proofs.exchanges.read_passed.Given as goal

abbrev pub invariant-loop-item : goal.invariant-loop-item
invariant-loop-item l = record {
  names : l.names ++ passed_exchanges l.names (items_view (drop l.item-index l.items)) ≡ passed_exchanges [] (items_view l.items);
  count : l.count + passed_exchange_count (items_view (drop l.item-index l.items)) ≡ passed_exchange_count (items_view l.items);
}
