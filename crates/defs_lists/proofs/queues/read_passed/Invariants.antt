-- The names so far and those of what is left are all names, and so are the counts.
use Rattle.std.proofs.Common.{◌≡◌, ◌+◌, ◌++◌, [], drop}
use Rattle.serde_json.specs.View.{items_view}
use Rattle.defs_lists.specs.Queues.{passed_queues, passed_queue_count}
use Rattle.defs_lists.proofs.queues.read_passed.Given as goal

abbrev pub invariant-loop-item : goal.invariant-loop-item
invariant-loop-item l = record {
  names : l.names ++ passed_queues l.names (items_view (drop l.item-index l.items)) ≡ passed_queues [] (items_view l.items);
  count : l.count + passed_queue_count (items_view (drop l.item-index l.items)) ≡ passed_queue_count (items_view l.items);
}
