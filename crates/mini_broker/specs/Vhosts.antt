-- A virtual host as clients find it (AMQP 0-9-1, 3.1 "The AMQ model").
use Rattle.std.specs.Prelude.{ℕ, List, [], count_by}
use Rattle.std.specs.Str.{bytes_eq}
use Rattle.route_core.specs.Routing.{predeclared}
use Rattle.broker_store.specs.declared.consumer.Consumer.{Consumer}
use Rattle.mini_broker.specs.State.{VhostState}

-- the predeclared exchanges alone (AMQP 0-9-1, 3.1.3)
abbrev pub bare : VhostState
bare = record {
  routing = record { objects = predeclared; bindings = [] };
  queues = [];
  exchanges = [];
  clients = [];
  consumers = [];
  made = 0;
  begun = 0;
}

-- how many consumers a queue has (AMQP 0-9-1, queue.declare-ok: consumer-count)
abbrev pub consumer_count : List ℕ → List Consumer → ℕ
consumer_count name consumers = count_by (λ consumer. bytes_eq consumer.queue name) consumers
