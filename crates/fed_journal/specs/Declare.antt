-- A client declares a queue or an exchange (AMQP 0-9-1, queue.declare, exchange.declare).
use Rattle.std.specs.Prelude.{ℕ, List, [], ◌∷◌, Bool, true, false, if◌then◌else◌, Option, Some, None, is_some, Result, Ok, Err}
use Rattle.fed_journal.specs.declared.place.Place.{Place}
use Rattle.amqp_props.specs.declared.link.QueueOptions.{QueueOptions}
use Rattle.fed_journal.specs.declared.entry.Entry.{Entry}
use Rattle.fed_journal.specs.declared.entry.Entry.TheVariants.{MadeQueue, MadeExchange}
use Rattle.client_rules.specs.declared.client.ExchangeShape.{ExchangeShape}
use Rattle.fed_journal.specs.Configuration.{queue_options, exchange_shape}
use Rattle.client_rules.specs.Names.{is_refused_queue, is_refused_exchange}
use Rattle.client_rules.specs.Alike.{same_options, same_shape}
use Rattle.client_rules.specs.Owners.{owner_of}
use Rattle.fed_journal.specs.declared.reason.Reason.{Reason}
use Rattle.fed_journal.specs.declared.reason.Reason.TheVariants.{Refused}
use Rattle.fed_journal.specs.Row.{Row, at_place, channel_of, lock_refusal, unless_refused, made_row}

-- what a durable queue that lasts is declared with
abbrev pub lasting : QueueOptions
lasting = record { durable = true; exclusive = false; auto_delete = false }

abbrev pub stands : List Entry → Place → List ℕ → Bool
stands J p q = is_some (queue_options J p q)

-- ACCESS_REFUSED (403): the name is empty, kept for links, or kept for the broker and not there
abbrev pub is_refused : List Entry → Place → List ℕ → Bool
is_refused J p q = is_refused_queue q (stands J p q)

-- PRECONDITION_FAILED (406) where it stands with other options (RabbitMQ, Queues: Property Equivalence)
abbrev pub declared_again : QueueOptions → Option QueueOptions → Result Bool Reason
declared_again options None = Ok true
declared_again options (Some was) = if same_options was options then Ok false else Err (Refused 406)

-- whether a declaration makes the queue (AMQP 0-9-1, queue.declare); RESOURCE_LOCKED (405) where another connection has it to itself
unfoldable pub queue_declared : List Entry → Place → ℕ → List ℕ → QueueOptions → Result Bool Reason
queue_declared J p client q options =
    if is_refused J p q then Err (Refused 403) else unless_refused (lock_refusal J p client q) (declared_again options (queue_options J p q))

unfoldable pub declare_row : List Entry → Place → ℕ → List ℕ → QueueOptions → Row
declare_row J p client q options =
    at_place J p (made_row (MadeQueue p q options (owner_of (channel_of client) options)) (queue_declared J p client q options))

-- ACCESS_REFUSED (403): the name is empty, kept for links, or kept for the broker and not there
abbrev pub is_exchange_refused : List Entry → Place → List ℕ → Bool
is_exchange_refused J p x = is_refused_exchange x (is_some (exchange_shape J p x))

-- PRECONDITION_FAILED (406) where it stands as another type or with other options (RabbitMQ, Exchanges)
abbrev pub exchange_again : ExchangeShape → Option ExchangeShape → Result Bool Reason
exchange_again shape None = Ok true
exchange_again shape (Some was) = if same_shape was shape then Ok false else Err (Refused 406)

-- whether a declaration makes the exchange (AMQP 0-9-1, exchange.declare)
unfoldable pub exchange_declared : List Entry → Place → List ℕ → ExchangeShape → Result Bool Reason
exchange_declared J p x shape = if is_exchange_refused J p x then Err (Refused 403) else exchange_again shape (exchange_shape J p x)

unfoldable pub declare_exchange_row : List Entry → Place → List ℕ → ExchangeShape → Row
declare_exchange_row J p x shape = at_place J p (made_row (MadeExchange p x shape) (exchange_declared J p x shape))
