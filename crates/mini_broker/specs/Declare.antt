-- A client declares a queue or an exchange (AMQP 0-9-1, queue.declare, exchange.declare).
use Rattle.std.specs.Prelude.{ℕ, ◌+◌, List, [], ◌∷◌, ◌++◌, Bool, true, false, if◌then◌else◌, Option, Some, None, is_some, Result, Ok, Err}
use Rattle.amqp_props.specs.declared.link.QueueOptions.{QueueOptions}
use Rattle.route_core.specs.declared.object.Node.TheVariants as nodes
use Rattle.route_core.specs.Routing.{with_object}
use Rattle.client_rules.specs.declared.client.Client.{Client}
use Rattle.client_rules.specs.declared.client.ExchangeShape.{ExchangeShape}
use Rattle.mini_broker.specs.declared.fault.ClientFault.{ClientFault}
use Rattle.mini_broker.specs.declared.fault.ClientFault.TheVariants.{Refused}
use Rattle.broker_store.specs.Mail.{empty}
use Rattle.client_rules.specs.Alike.{same_options, same_shape}
use Rattle.client_rules.specs.Owners.{owner_of, is_anothers}
use Rattle.client_rules.specs.Names.{is_refused_exchange, is_refused_queue}
use Rattle.broker_store.specs.Queues.{Standing, queue_of}
use Rattle.broker_store.specs.Exchanges.{shape_of}
use Rattle.mini_broker.specs.State.{VhostState}

-- another connection has the queue to itself (AMQP 0-9-1, queue.declare: exclusive)
abbrev pub is_locked : {M : Type 0} → Client → Standing M → Bool
is_locked who queue = is_anothers who queue.owner

-- RESOURCE_LOCKED (405) for another's queue, PRECONDITION_FAILED (406) where it stands with other options (RabbitMQ, Queues: Property Equivalence)
abbrev pub declared_again : {M : Type 0} → Client → QueueOptions → Option (Standing M) → Result Bool ClientFault
declared_again who options None = Ok true
declared_again who options (Some queue) =
    if is_locked who queue then Err (Refused 405) else if same_options queue.options options then Ok false else Err (Refused 406)

-- ACCESS_REFUSED (403) for a name that clients can't use; whether it is made (AMQP 0-9-1, queue.declare)
unfoldable pub declare_answer : Client → List ℕ → QueueOptions → VhostState → Result Bool ClientFault
declare_answer who name options v =
    if is_refused_queue name (is_some (queue_of name v.queues)) then Err (Refused 403) else declared_again who options (queue_of name v.queues)

abbrev pub made_queue : {M : Type 0} → ℕ → QueueOptions → Option ℕ → Standing M
made_queue number options owner = record { number = number; options = options; owner = owner; mail = empty }

-- the queue stands as the last
abbrev pub with_queue : List ℕ → QueueOptions → Option ℕ → VhostState → VhostState
with_queue name options owner v = record v {
  routing = with_object name (nodes.Queue v.made) v.routing;
  queues = v.queues ++ (name, made_queue v.made options owner) ∷ [];
  made = v.made + 1;
}

-- PRECONDITION_FAILED (406) where it stands as another type or with other options (RabbitMQ, Exchanges)
abbrev pub declared_exchange_again : ExchangeShape → Option ExchangeShape → Result Bool ClientFault
declared_exchange_again shape None = Ok true
declared_exchange_again shape (Some was) = if same_shape was shape then Ok false else Err (Refused 406)

-- ACCESS_REFUSED (403) for a name that clients can't use; whether it is made (AMQP 0-9-1, exchange.declare)
unfoldable pub declare_exchange_answer : List ℕ → ExchangeShape → VhostState → Result Bool ClientFault
declare_exchange_answer name shape v =
    if is_refused_exchange name (is_some (shape_of name v.exchanges)) then Err (Refused 403) else declared_exchange_again shape (shape_of name v.exchanges)

-- the exchange stands as the last
abbrev pub with_exchange : List ℕ → ExchangeShape → VhostState → VhostState
with_exchange name shape v = record v {
  routing = with_object name (nodes.Exchange shape.kind) v.routing;
  exchanges = v.exchanges ++ (name, shape) ∷ [];
}
