-- The routes as a function: what a message reaches, found round by round.
use Rattle.std.specs.Prelude.{ℕ, zero, suc, Bool, true, false, not, ◌&&◌, List, [], ◌∷◌, ◌++◌, Option, Some, None, filter, map, max, length, if◌then◌else◌}
use Rattle.std.specs.List.{filter_map}
use Rattle.std.specs.Option.{option_map_or}
use Rattle.std.specs.Str.{bytes_eq}
use Rattle.amqp_props.specs.declared.link.ExchangeKind.{ExchangeKind}
use Rattle.amqp_props.specs.declared.link.ExchangeKind.TheVariants as kinds
use Rattle.binding_match.specs.Topics.{words, covers}
use Rattle.binding_match.specs.Headers.{headers_agree}
use Rattle.hop_headers.specs.Gate.{gate_passes}
use Rattle.route_core.specs.declared.object.Sort.TheVariants as sorts
use Rattle.route_core.specs.declared.object.Node.{Node}
use Rattle.route_core.specs.declared.object.Node.TheVariants as nodes
use Rattle.route_core.specs.declared.object.Object.{Object}
use Rattle.route_core.specs.declared.binding.Binding.{Binding}
use Rattle.route_core.specs.Objects.{same_sort, sort_of, number_of}
use Rattle.route_core.specs.Routing.{Routing}
use Rattle.route_core.specs.Walks.{Publish, Stop, exchange_stop, dest_of, exchange_node}
use Rattle.client_rules.specs.Names.{is_reserved}
use Rattle.route_core.specs.Spreading.{is_among, gate_limit}

-- Whether a binding takes the message, by the type of the exchange that it leaves (AMQP 0-9-1, 3.1.3 "Exchange Types").
abbrev pub takes_by_type : ExchangeKind → Publish → Binding → Bool
takes_by_type kinds.Direct p b = bytes_eq b.key p.key
takes_by_type kinds.Fanout p b = true
takes_by_type kinds.Headers p b = headers_agree b.args p.headers
takes_by_type kinds.Topic p b = covers (words b.key) (words p.key)

-- A gate lets the message on over each of its bindings, or over none (RabbitMQ's "Federated Exchanges").
abbrev pub takes : Option Node → Publish → Binding → Bool
takes (Some (nodes.Exchange kind)) p b = takes_by_type kind p b
takes (Some (nodes.Gate limit cluster vhost)) p b = gate_passes limit cluster vhost p.headers
takes (Some (nodes.Queue number)) p b = false
takes None p b = false

-- The exchange that the binding leaves stands, and takes the message over it (AMQP 0-9-1, 3.1.4 "The Binding").
abbrev pub matches : List Object → Publish → Binding → Bool
matches objects p b = takes (exchange_node b.source objects) p b

-- The binding leaves an exchange that the message has reached, and matches.
abbrev pub is_followed : Routing → Publish → List Stop → Binding → Bool
is_followed r p stops b = is_among stops sorts.Exchange b.source && matches r.objects p b

-- Where the bindings lead that are followed from these stops (RabbitMQ's "Exchange to Exchange Bindings").
abbrev pub followed_from : Routing → Publish → List Stop → List Stop
followed_from r p stops = map dest_of (filter (is_followed r p stops) r.bindings)

-- What the message has reached after so many rounds: first its exchange (AMQP 0-9-1, basic.publish), then, round by round, where the bindings lead that are followed.
unfoldable pub stops_after : Routing → Publish → ℕ → List Stop
stops_after r p zero = exchange_stop p.exchange ∷ []
stops_after r p (suc n) = stops_after r p n ++ followed_from r p (stops_after r p n)

-- After as many rounds as there are bindings nothing further is reached.
abbrev pub stops : Routing → Publish → List Stop
stops r p = stops_after r p (length r.bindings)

-- The default exchange routes to the queue that the routing key names, unless its name is reserved (AMQP 0-9-1, 3.1.3.1 "The Direct Exchange Type"), every other one over bindings.
abbrev pub is_reached : Routing → Publish → List ℕ → Bool
is_reached r p name =
    if bytes_eq p.exchange [] then bytes_eq p.key name && not (is_reserved name) else is_among (stops r p) sorts.Queue name

-- A queue that the message reaches.
abbrev pub is_routed : Routing → Publish → Object → Bool
is_routed r p o = same_sort (sort_of o.node) sorts.Queue && is_reached r p o.name

-- The queues that the message reaches, in the order of their making (AMQP 0-9-1, basic.publish: to the queues as the exchange defines).
unfoldable pub routed : Routing → Publish → List Object
routed r p = filter (is_routed r p) r.objects

-- their names
abbrev pub routed_names : Routing → Publish → List (List ℕ)
routed_names r p = map (λ o. o.name) (routed r p)

-- their numbers
abbrev pub routed_numbers : Routing → Publish → List ℕ
routed_numbers r p = filter_map (λ o. number_of o.node) (routed r p)

-- The limit of the gate that the binding leaves, 0 where it leaves no gate (RabbitMQ's "Federated Exchanges": max-hops).
abbrev pub limit_from : List Object → Binding → ℕ
limit_from objects b = option_map_or gate_limit (exchange_node b.source objects) 0

-- The greatest of these numbers, 0 where there is none.
abbrev pub greatest : List ℕ → ℕ
greatest [] = 0
greatest (n ∷ ns) = max n (greatest ns)

-- The greatest limit of a gate that the message passes, 0 where it passes none: of those that a binding leaves which is followed (RabbitMQ's "Federated Exchanges": max-hops). No binding leaves the default exchange.
unfoldable pub walk_limit : Routing → Publish → ℕ
walk_limit r p = if bytes_eq p.exchange [] then 0 else greatest (map (limit_from r.objects) (filter (is_followed r p (stops r p)) r.bindings))
