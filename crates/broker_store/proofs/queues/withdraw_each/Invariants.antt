-- What is left to withdraw leads to what all of it leads to.
use Rattle.std.proofs.Common.{◌≡◌, ◌≤◌, take}
use Rattle.broker_store.specs.Queues.{named, all_left_again}
use Rattle.broker_store.proofs.queues.withdraw_each.Given as goal

abbrev pub invariant-loop-left : goal.invariant-loop-left
invariant-loop-left l = record {
  within : l.left ≤ l.count;
  same : all_left_again (take l.left l.names) l.number (named l.table.entries) ≡ all_left_again (take l.count l.names) l.number (named l.fn.table.entries);
}

abbrev pub decreases-loop-left : goal.decreases-loop-left
decreases-loop-left l = l.left
