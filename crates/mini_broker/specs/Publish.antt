-- A message is published, and a copy enters each queue that it reaches (AMQP 0-9-1, basic.publish).
use Rattle.std.specs.Prelude.{ℕ, List, [], ◌∷◌, if◌then◌else◌, Option, Some, None, Result, Ok, Err}
use Rattle.std.specs.Str.{bytes_eq}
use Rattle.amqp_props.specs.declared.message.Message.{Message}
use Rattle.route_core.specs.Routes.{routed_names}
use Rattle.route_core.specs.Walks.{publish, headers_of}
use Rattle.client_rules.specs.Names.{is_reserved}
use Rattle.client_rules.specs.declared.client.ExchangeShape.{ExchangeShape}
use Rattle.mini_broker.specs.declared.fault.ClientFault.{ClientFault}
use Rattle.mini_broker.specs.declared.fault.ClientFault.TheVariants.{Refused}
use Rattle.broker_store.specs.Exchanges.{shape_of}
use Rattle.broker_store.specs.Queues.{all_entered}
use Rattle.mini_broker.specs.State.{VhostState}

-- NOT_FOUND (404) for an exchange that isn't there, ACCESS_REFUSED (403) for an internal one (AMQP 0-9-1, basic.publish)
abbrev pub shape_refusal : Option ExchangeShape → Option ClientFault
shape_refusal None = Some (Refused 404)
shape_refusal (Some shape) = if shape.internal then Some (Refused 403) else None

-- the default exchange is always there; ACCESS_REFUSED (403) for what belongs to links
abbrev pub publish_refusal : List ℕ → VhostState → Option ClientFault
publish_refusal exchange v =
    if is_reserved exchange then Some (Refused 403) else
    if bytes_eq exchange [] then None else shape_refusal (shape_of exchange v.exchanges)

-- the queues that it reaches, in the order of their making (AMQP 0-9-1, 3.1.3 "Exchange Types")
abbrev pub reached : Message → VhostState → List (List ℕ)
reached m v = routed_names v.routing (publish m.exchange m.key (headers_of m))

abbrev pub with_copies : Message → ℕ → VhostState → VhostState
with_copies m number v = record v { queues = all_entered (reached m v) number m v.queues }

-- the number of its first copy, 0 if there is none
abbrev pub first_of : ℕ → List (List ℕ) → ℕ
first_of number [] = 0
first_of number (name ∷ names) = number

-- whether it is done
abbrev pub done : {A : Type 0} → Result A ClientFault → Result (Unit {0}) ClientFault
done (Ok value) = Ok tt
done (Err fault) = Err fault
