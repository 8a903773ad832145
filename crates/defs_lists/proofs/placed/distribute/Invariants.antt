-- Each virtual host has its share of the items so far.
use Rattle.std.proofs.Common.{◌≡◌}
use Rattle.defs_lists.specs.PlacedItems.{placed_in_each}
use Rattle.defs_lists.proofs.placed.distribute.Given as goal

abbrev pub invariant-loop-p : goal.invariant-loop-p
invariant-loop-p g l = l.lists.items ≡ placed_in_each l.vhosts l.yielded
