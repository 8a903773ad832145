-- A connection ends (AMQP 0-9-1, connection.close), and queues go (AMQP 0-9-1, queue.delete).
use Rattle.std.specs.Prelude.{ℕ, ◌+◌, ◌==◌, Bool, not, if◌then◌else◌, List, [], ◌∷◌, fold, filter}
use Rattle.std.specs.Str.{bytes_eq}
use Rattle.route_core.specs.declared.object.Sort.TheVariants as sorts
use Rattle.route_core.specs.Routing.{without_object}
use Rattle.client_rules.specs.declared.client.Client.{Client}
use Rattle.broker_store.specs.declared.consumer.Consumer.{Consumer}
use Rattle.broker_store.specs.Mail.{released_from}
use Rattle.broker_store.specs.Queues.{Named, all_changed, with_mail, owned_names}
use Rattle.mini_broker.specs.State.{VhostState}

-- the consumer's channel is one of the connection (AMQP 0-9-1, 2.1.1)
abbrev pub is_on : ℕ → Consumer → Bool
is_on connection consumer = consumer.client.connection == connection

-- the consumer was begun on the queue (AMQP 0-9-1, basic.consume: queue)
abbrev pub consumes_from : List ℕ → Consumer → Bool
consumes_from name consumer = bytes_eq consumer.queue name

-- what the channels of the connection held is ready again (RabbitMQ, Consumer Acknowledgements: automatic requeueing); `number` is that of the first client
abbrev pub freed_from : {M : Type 0} → ℕ → ℕ → List Client → List (Named M) → List (Named M)
freed_from connection number [] queues = queues
freed_from connection number (client ∷ clients) queues =
    freed_from connection (number + 1) clients (if client.connection == connection then all_changed (with_mail (released_from number)) queues else queues)

-- the connection's consumers end, and what it held is ready again (AMQP 0-9-1, connection.close)
abbrev pub disconnected : ℕ → VhostState → VhostState
disconnected connection v = record v {
  queues = freed_from connection 0 v.clients v.queues;
  consumers = filter (λ consumer. not (is_on connection consumer)) v.consumers;
}

-- a queue goes with its copies, its bindings and its consumers (AMQP 0-9-1, queue.delete)
abbrev pub without_queue : List ℕ → VhostState → VhostState
without_queue name v = record v {
  routing = without_object sorts.Queue name v.routing;
  queues = filter (λ q. not (bytes_eq q.0 name)) v.queues;
  consumers = filter (λ consumer. not (consumes_from name consumer)) v.consumers;
}

-- the connection ends, and the queues that it has to itself go with it (AMQP 0-9-1, queue.declare: exclusive)
abbrev pub closed : ℕ → VhostState → VhostState
closed connection v = fold (λ v name. without_queue name v) (disconnected connection v) (owned_names connection v.queues)
