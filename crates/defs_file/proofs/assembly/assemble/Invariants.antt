-- The shares that are left are those of the virtual hosts that are left.
use Rattle.std.proofs.Common.{◌≡◌, ◌++◌, drop, map}
use Rattle.defs_lists.specs.PlacedItems.{placed_in_each, host_config}
use Rattle.defs_file.proofs.assembly.assemble.Given as goal

abbrev pub invariant-loop-vhost : goal.invariant-loop-vhost
invariant-loop-vhost l = record {
  exchanges : l.exchanges.items ≡ placed_in_each (drop l.vhost-index l.vhosts) l.fn.objects.exchanges.items;
  queues : l.queues.items ≡ placed_in_each (drop l.vhost-index l.vhosts) l.fn.objects.queues.items;
  bindings : l.bindings.items ≡ placed_in_each (drop l.vhost-index l.vhosts) l.fn.objects.bindings.items;
  policies : l.policies.items ≡ placed_in_each (drop l.vhost-index l.vhosts) l.fn.policies.items;
  parameters : l.parameters.items ≡ placed_in_each (drop l.vhost-index l.vhosts) l.fn.parameters.items;
  made : l.list.items ++ map (host_config l.fn.objects.exchanges.items l.fn.objects.queues.items l.fn.objects.bindings.items l.fn.policies.items l.fn.parameters.items) (drop l.vhost-index l.vhosts)
      ≡ map (host_config l.fn.objects.exchanges.items l.fn.objects.queues.items l.fn.objects.bindings.items l.fn.policies.items l.fn.parameters.items) l.vhosts;
}
