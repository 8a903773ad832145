use Rattle.std.proofs.Common.{◌≡◌, ◌++◌, map, take, drop}
use Rattle.broker_view.specs.Hosts.{recorded_at}
use Rattle.broker_view.proofs.brokers.record_each.Given as goal

abbrev pub invariant-loop-host : goal.invariant-loop-host
invariant-loop-host l = l.host-items ≡ map (recorded_at l.entry) (take l.host-index l.initial.host-items) ++ drop l.host-index l.initial.host-items
