-- What stands at the brokers after a journal.
use Rattle.std.specs.Prelude.{ℕ, List, [], ◌∷◌, ◌++◌, Bool, true, false, ◌&&◌, not, ◌==◌, fold, filter, Option, Some, None, if◌then◌else◌, codes}
use Rattle.std.specs.List.{list_any}
use Rattle.fed_journal.specs.declared.place.Place.{Place}
use Rattle.client_rules.specs.declared.client.ExchangeShape.{ExchangeShape}
use Rattle.amqp_props.specs.declared.link.QueueOptions.{QueueOptions}
use Rattle.route_core.specs.Predeclared.{predeclared_shape}
use Rattle.fed_journal.specs.declared.entry.Entry.{Entry}
use Rattle.fed_journal.specs.declared.entry.Entry.TheVariants.{Begun, MadeQueue, MadeExchange, GoneQueue}
use Rattle.fed_journal.specs.Names.{same_text, same_place}

-- the run began with this broker
abbrev pub begins : List ℕ → Entry → Bool
begins b (Begun broker cluster kept) = same_text broker b
begins b _ = false

abbrev pub is_broker : List Entry → List ℕ → Bool
is_broker J b = list_any (begins b) J

-- a broker has the virtual host `/` (RabbitMQ, Virtual Hosts)
unfoldable pub is_place : List Entry → Place → Bool
is_place J p = same_text p.vhost (codes "/") && is_broker J p.broker

-- the queue of that name at the place is meant
abbrev pub is_queue : Place → List ℕ → Place → List ℕ → Bool
is_queue p q place queue = same_place place p && same_text queue q

-- a queue stands from its declaration until it is gone (AMQP 0-9-1, queue.declare, queue.delete)
abbrev pub options_step : Place → List ℕ → Option QueueOptions → Entry → Option QueueOptions
options_step p q was (MadeQueue place queue options owner) = if is_queue p q place queue then Some options else was
options_step p q was (GoneQueue place queue) = if is_queue p q place queue then None else was
options_step p q was _ = was

unfoldable pub queue_options : List Entry → Place → List ℕ → Option QueueOptions
queue_options J p q = fold (options_step p q) None J

abbrev pub owner_step : Place → List ℕ → Option ℕ → Entry → Option ℕ
owner_step p q was (MadeQueue place queue options owner) = if is_queue p q place queue then owner else was
owner_step p q was (GoneQueue place queue) = if is_queue p q place queue then None else was
owner_step p q was _ = was

-- the connection that has the queue to itself (AMQP 0-9-1, queue.declare: exclusive)
unfoldable pub queue_owner : List Entry → Place → List ℕ → Option ℕ
queue_owner J p q = fold (owner_step p q) None J

abbrev pub is_connection_in : ℕ → Option ℕ → Bool
is_connection_in n None = false
is_connection_in n (Some owner) = owner == n

abbrev pub is_another_in : ℕ → Option ℕ → Bool
is_another_in n None = false
is_another_in n (Some owner) = not (owner == n)

-- another connection has the queue to itself: RESOURCE_LOCKED (AMQP 0-9-1, queue.declare: exclusive)
abbrev pub is_locked : List Entry → Place → List ℕ → ℕ → Bool
is_locked J p q n = is_another_in n (queue_owner J p q)

abbrev pub is_exclusive_in : Option QueueOptions → Bool
is_exclusive_in None = false
is_exclusive_in (Some options) = options.exclusive

-- the queue stands, and one connection has it to itself
abbrev pub is_exclusive : List Entry → Place → List ℕ → Bool
is_exclusive J p q = is_exclusive_in (queue_options J p q)

abbrev pub queues_step : Place → List (List ℕ) → Entry → List (List ℕ)
queues_step p was (MadeQueue place queue options owner) = if same_place place p then was ++ queue ∷ [] else was
queues_step p was (GoneQueue place queue) = if same_place place p then filter (λ q. not (same_text q queue)) was else was
queues_step p was _ = was

-- the queues of a place, in the order of their making (AMQP 0-9-1, queue.declare)
unfoldable pub queues_of : List Entry → Place → List (List ℕ)
queues_of J p = fold (queues_step p) [] J

-- the connection has the queue to itself, so the queue goes with the connection (AMQP 0-9-1, queue.declare: exclusive)
abbrev pub goes_with : List Entry → Place → ℕ → List ℕ → Bool
goes_with J p n q = is_exclusive J p q && is_connection_in n (queue_owner J p q)

-- those that the connection has to itself, in the order of their making
unfoldable pub queues_owned : List Entry → Place → ℕ → List (List ℕ)
queues_owned J p n = filter (goes_with J p n) (queues_of J p)

-- an exchange stands from its declaration on (AMQP 0-9-1, exchange.declare)
abbrev pub shape_step : Place → List ℕ → Option ExchangeShape → Entry → Option ExchangeShape
shape_step p x was (MadeExchange place exchange shape) = if same_place place p && same_text exchange x then Some shape else was
shape_step p x was _ = was

-- what an exchange other than the default one was declared as
unfoldable pub exchange_shape : List Entry → Place → List ℕ → Option ExchangeShape
exchange_shape J p x = fold (shape_step p x) (predeclared_shape x) J
