use Rattle.std.proofs.Common.{◌++◌, take, drop}
use Rattle.broker_view.specs.Hosts.{Leads}
use Rattle.broker_view.proofs.brokers.Brokers.record.Given as goal

-- the entries so far lead to the hosts, and what is left suits them
abbrev pub invariant-loop-entry : goal.invariant-loop-entry
invariant-loop-entry l = Leads (l.before ++ take l.entry-index l.entries) (drop l.entry-index l.entries) l.self.hosts.items
