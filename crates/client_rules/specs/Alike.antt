-- When what a client declares again is what stands (RabbitMQ, Queues: Property Equivalence).
use Rattle.std.specs.Prelude.{Bool, true, false, ◌&&◌, not}
use Rattle.amqp_props.specs.declared.link.QueueOptions.{QueueOptions}
use Rattle.amqp_props.specs.declared.link.ExchangeKind.{ExchangeKind}
use Rattle.amqp_props.specs.declared.link.ExchangeKind.TheVariants.{Direct, Fanout, Headers, Topic}
use Rattle.client_rules.specs.declared.client.ExchangeShape.{ExchangeShape}

-- both flags are set, or neither
abbrev pub same_flag : Bool → Bool → Bool
same_flag true b = b
same_flag false b = not b

-- durable, exclusive and auto-delete alike (AMQP 0-9-1, queue.declare)
abbrev pub same_options : QueueOptions → QueueOptions → Bool
same_options a b = same_flag a.durable b.durable && same_flag a.exclusive b.exclusive && same_flag a.auto_delete b.auto_delete

-- the same type of exchange (AMQP 0-9-1, 3.1.3 "Exchange Types")
abbrev pub same_kind : ExchangeKind → ExchangeKind → Bool
same_kind Direct Direct = true
same_kind Fanout Fanout = true
same_kind Headers Headers = true
same_kind Topic Topic = true
same_kind _ _ = false

-- the type, durable and internal alike (AMQP 0-9-1, exchange.declare; RabbitMQ, Exchange to Exchange Bindings: internal)
abbrev pub same_shape : ExchangeShape → ExchangeShape → Bool
same_shape a b = same_kind a.kind b.kind && same_flag a.durable b.durable && same_flag a.internal b.internal
