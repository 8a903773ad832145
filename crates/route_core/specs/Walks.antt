-- The queues that a message reaches: over exchanges and the bindings that match (AMQP 0-9-1, 3.1.3 "Exchange Types" and 3.1.4 "The Binding"; RabbitMQ's "Exchange to Exchange Bindings" and "Federated Exchanges").
use Rattle.std.specs.Prelude.{◌≡◌, ◌≢◌, ℕ, ◌<◌, ◌≤◌, Bool, false, List, [], ◌∷◌, Option, Some, None, All, find, codes}
use Rattle.std.specs.List.{AllPairs, Contains, starts_with}
use Rattle.std.specs.Prelude.{nat_eq}
use Rattle.std.specs.Option.{option_map}
use Rattle.field_tables.specs.Fields.{Pairs, no_pairs}
use Rattle.amqp_props.specs.declared.link.ExchangeKind.{ExchangeKind}
use Rattle.amqp_props.specs.declared.link.ExchangeKind.TheVariants as kinds
use Rattle.amqp_props.specs.declared.message.Message.{Message}
use Rattle.client_rules.specs.Names.{is_reserved}
use Rattle.binding_match.specs.Topics.{words, Covers}
use Rattle.binding_match.specs.Headers.{HeadersMatch}
use Rattle.hop_headers.specs.Gate.{GatePasses}
use Rattle.route_core.specs.declared.object.Sort.{Sort}
use Rattle.route_core.specs.declared.object.Sort.TheVariants as sorts
use Rattle.route_core.specs.declared.object.Node.{Node}
use Rattle.route_core.specs.declared.object.Node.TheVariants as nodes
use Rattle.route_core.specs.declared.object.Object.{Object}
use Rattle.route_core.specs.declared.binding.Binding.{Binding}
use Rattle.route_core.specs.Objects.{is_named}
use Rattle.route_core.specs.Routing.{Routing, object_named}

-- What basic.publish names of a message: the exchange, the routing key and the headers.
pub record Publish : Type 0 where
  pub exchange : List ℕ
  pub key : List ℕ
  pub headers : Pairs

abbrev pub publish : List ℕ → List ℕ → Pairs → Publish
publish exchange key headers = record { exchange = exchange; key = key; headers = headers }

abbrev pub pairs_of : Option Pairs → Pairs
pairs_of None = no_pairs
pairs_of (Some pairs) = pairs

-- the header fields of a message; one without headers has none (AMQP 0-9-1, class basic: headers)
abbrev pub headers_of : Message → Pairs
headers_of m = pairs_of m.props.headers

-- Where a walk stands: at an exchange or a queue.
pub record Stop : Type 0 where
  pub sort : Sort
  pub name : List ℕ

abbrev pub stop : Sort → List ℕ → Stop
stop sort name = record { sort = sort; name = name }

abbrev pub exchange_stop : List ℕ → Stop
exchange_stop name = stop sorts.Exchange name

abbrev pub queue_stop : List ℕ → Stop
queue_stop name = stop sorts.Queue name

abbrev pub source_of : Binding → Stop
source_of b = exchange_stop b.source

abbrev pub dest_of : Binding → Stop
dest_of b = stop b.sort b.dest

-- Whether a binding takes the message, by the type of the exchange that it leaves (AMQP 0-9-1, 3.1.3 "Exchange Types").
abbrev pub TakesByType : ExchangeKind → Publish → Binding → Type 0
TakesByType kinds.Direct p b = b.key ≡ p.key
TakesByType kinds.Fanout p b = Unit {0}
TakesByType kinds.Headers p b = HeadersMatch b.args p.headers
TakesByType kinds.Topic p b = Covers (words b.key) (words p.key)

-- A gate lets the message on over each of its bindings, or over none. No binding leaves a queue.
abbrev pub TakesFrom : Node → Publish → Binding → Type 0
TakesFrom (nodes.Queue number) p b = ⊥
TakesFrom (nodes.Exchange kind) p b = TakesByType kind p b
TakesFrom (nodes.Gate limit cluster vhost) p b = GatePasses limit cluster vhost p.headers

abbrev pub exchange_node : List ℕ → List Object → Option Node
exchange_node name objects = option_map (λ o. o.node) (find (is_named sorts.Exchange name) objects)

-- The binding matches: the exchange that it leaves stands, and takes the message over it.
pub record Matches (objects : List Object) (p : Publish) (b : Binding) : Type 0 where
  pub node : Node
  pub stands : exchange_node b.source objects ≡ Some node
  pub takes : TakesFrom node p b

-- A walk of matching bindings: each leaves the exchange to which the one before it leads.
abbrev pub IsWalk : Routing → Publish → Stop → List Binding → Stop → Type 0
IsWalk r p at [] to = at ≡ to
IsWalk r p at (b ∷ walk) to = (at ≡ source_of b) × Contains r.bindings b × Matches r.objects p b × IsWalk r p (dest_of b) walk to

-- Some walk from the exchange of the message leads there.
abbrev pub IsReached : Routing → Publish → Stop → Type 0
IsReached r p to = (walk : List Binding) × IsWalk r p (exchange_stop p.exchange) walk to

-- The default exchange routes to the queue that the routing key names (AMQP 0-9-1, 3.1.3.1 "The Direct Exchange Type"), every other one over walks.
pub data Reaches (r : Routing) (p : Publish) (name : List ℕ) : Type 0 where
  by_name : p.exchange ≡ [] → p.key ≡ name → is_reserved name ≡ false → Reaches r p name
  by_walk : p.exchange ≢ [] → IsReached r p (queue_stop name) → Reaches r p name

abbrev pub IsQueue : Routing → List ℕ → ℕ → Type 0
IsQueue r name number = Contains r.objects (object_named name (nodes.Queue number))

-- The numbers of exactly the queues that the message reaches, each once and by rising number, the order of their making.
pub record AreRoutes (r : Routing) (p : Publish) (numbers : List ℕ) : Type 0 where
  pub reached : All (λ n. (name : List ℕ) × IsQueue r name n × Reaches r p name) numbers
  pub whole : (name : List ℕ) (n : ℕ) → IsQueue r name n → Reaches r p name → Contains numbers n
  pub rising : AllPairs (λ m n. m < n) numbers

-- A gate with this limit is passed on a walk: a walk leads to it, and a binding that leaves it matches.
pub record IsPassed (r : Routing) (p : Publish) (limit : ℕ) : Type 0 where
  pub named : p.exchange ≢ []
  pub gate : Binding
  pub there : IsReached r p (source_of gate)
  pub bound : Contains r.bindings gate
  pub matches : Matches r.objects p gate
  pub cluster : List ℕ
  pub vhost : List ℕ
  pub is : exchange_node gate.source r.objects ≡ Some (nodes.Gate limit cluster vhost)

-- The greatest limit of a gate that is passed on a walk, 0 where none is.
pub record IsWalkLimit (r : Routing) (p : Publish) (limit : ℕ) : Type 0 where
  pub some : 0 < limit → IsPassed r p limit
  pub greatest : (other : ℕ) → IsPassed r p other → other ≤ limit
