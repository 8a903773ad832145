-- What is left to be done leads to what all of it leads to.
use Rattle.std.proofs.Common.{◌≡◌, drop, fold}
use Rattle.mini_broker.specs.Close.{without_queue}
use Rattle.broker_store.specs.Queues.{StandInTurn}
use Rattle.mini_broker.proofs.vhost.Vhost.remove_queues.Given as goal

abbrev pub invariant-loop-name : goal.invariant-loop-name
invariant-loop-name l = record {
  standing : StandInTurn (drop l.name-index l.names) l.self.queues;
  gone : fold (λ v name. without_queue name v) l.self (drop l.name-index l.names) ≡ fold (λ v name. without_queue name v) l.fn.self l.names;
}
