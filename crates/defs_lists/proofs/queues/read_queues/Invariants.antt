-- What is read so far and what is left are what all items mean, and what is left is refused as all is.
use Rattle.std.proofs.Common.{◌≡◌, ◌+◌, ◌++◌, [], drop}
use Rattle.serde_json.specs.View.{items_view}
use Rattle.defs_lists.specs.Queues.{queues_of, queue_names, queues_inert, queues_fault}
use Rattle.defs_lists.proofs.queues.read_queues.Given as goal

abbrev pub invariant-loop-index : goal.invariant-loop-index
invariant-loop-index l = record {
  kept : l.kept.items ++ queues_of (items_view (drop l.index l.items)) ≡ queues_of (items_view l.items);
  names : l.names ++ queue_names (items_view (drop l.index l.items)) ≡ queue_names (items_view l.items);
  inert : l.inert + queues_inert (items_view (drop l.index l.items)) ≡ queues_inert (items_view l.items);
  refused : queues_fault l.vhosts l.names l.index (items_view (drop l.index l.items))
      ≡ queues_fault l.vhosts [] 0 (items_view l.items);
}
