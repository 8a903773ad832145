-- Names that clients can't use (AMQP 0-9-1, queue.declare and exchange.declare: reserved names).
use Rattle.std.specs.Prelude.{ℕ, List, [], Bool, not, ◌&&◌, ◌||◌, nat_eq, codes}
use Rattle.std.specs.List.{starts_with}
use Rattle.std.specs.Str.{bytes_eq}

-- names that begin so belong to links (RabbitMQ, Federated Exchanges: the upstream queue's name)
abbrev pub is_reserved : List ℕ → Bool
is_reserved name = starts_with nat_eq name (codes "federation: ")

-- `amq.` is kept for the broker, but for the names of queues that it generates (RabbitMQ, Queues: Names)
abbrev pub is_broker_name : List ℕ → Bool
is_broker_name name = starts_with nat_eq name (codes "amq.") && not (starts_with nat_eq name (codes "amq.gen-"))

-- a queue's name is empty, kept for links, or kept for the broker and not there (AMQP 0-9-1, queue.declare)
abbrev pub is_refused_queue : List ℕ → Bool → Bool
is_refused_queue name stands = (bytes_eq name [] || is_reserved name) || (is_broker_name name && not stands)

-- an exchange's name is empty, kept for links, or kept for the broker and not there (AMQP 0-9-1, exchange.declare)
abbrev pub is_refused_exchange : List ℕ → Bool → Bool
is_refused_exchange name stands = (bytes_eq name [] || is_reserved name) || (starts_with nat_eq name (codes "amq.") && not stands)

-- the default exchange can't be bound (AMQP 0-9-1, 3.1.3.1), nor what belongs to links
abbrev pub is_unbindable : List ℕ → Bool
is_unbindable name = bytes_eq name [] || is_reserved name
