-- There is a list for each virtual host so far.
use Rattle.std.proofs.Common.{◌≡◌, [], take}
use Rattle.defs_lists.specs.PlacedItems.{placed_in_each}
use Rattle.defs_lists.proofs.placed.empty_lists.Given as goal

abbrev pub invariant-loop : goal.invariant-loop
invariant-loop g l = l.lists.items ≡ placed_in_each (take l.index l.vhosts) []
