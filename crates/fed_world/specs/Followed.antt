-- The brokers beside the journal of a run.
use Rattle.std.specs.Prelude.{List, Option, Some, None}
use Rattle.fed_journal.specs.declared.entry.Entry.{Entry}
use Rattle.broker_view.specs.declared.brokers.Brokers.{Brokers}
use Rattle.broker_view.specs.Hosts.{AreViews}

-- the brokers follow the journal: what stands at each is what the journal has of it, as long as there was memory to follow it (AMQP 0-9-1, 3.1 "The AMQ model")
abbrev pub IsFollowed : Option Brokers → List Entry → Type 0
IsFollowed None J = Unit {0}
IsFollowed (Some brokers) J = AreViews J brokers.hosts.items
