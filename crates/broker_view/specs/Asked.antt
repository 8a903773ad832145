-- What a consumer asked for, as the journal has it.
use Rattle.fed_journal.specs.Consumers as journal
use Rattle.broker_view.specs.declared.run.Subscription.{Subscription}

abbrev pub asked_by : Subscription → journal.Consumer
asked_by s = record { queue = s.queue.now; no_ack = s.no_ack; prefetch = s.prefetch }
