-- The first so many of the queues have their copies.
use Rattle.std.proofs.Common.{◌≡◌, ◌≤◌, take}
use Rattle.broker_store.specs.Messages.{AreMore}
use Rattle.broker_store.specs.Queues.{named, all_entered}
use Rattle.broker_store.proofs.queues.enter_each.Given as goal

abbrev pub invariant-loop-place : goal.invariant-loop-place
invariant-loop-place l = record {
  entered : named l.table.entries ≡ all_entered (take l.place l.names) l.number l.key (named l.fn.table.entries);
  more : AreMore l.key l.copies (named l.fn.table.entries) (named l.table.entries);
  few : l.copies ≤ l.place;
}
