-- What is left to be done leads to what all of it leads to.
use Rattle.std.proofs.Common.{◌≡◌, drop}
use Rattle.mini_broker.specs.Close.{freed_from}
use Rattle.mini_broker.proofs.close.free_held.Given as goal

abbrev pub invariant-loop-number : goal.invariant-loop-number
invariant-loop-number l = freed_from l.connection l.number (drop l.number l.clients) l.queues ≡ freed_from l.connection 0 l.clients l.fn.queues
