-- What follows from the definitions: the routes as a function are the walks.
use Rattle.std.specs.Prelude.{◌≡◌, ◌↔◌, ℕ, true, List}
use Rattle.std.specs.List.{Contains}
use Rattle.route_core.specs.declared.object.Sort.{Sort}
use Rattle.route_core.specs.declared.object.Node.TheVariants as nodes
use Rattle.route_core.specs.declared.object.Object.{Object}
use Rattle.route_core.specs.declared.binding.Binding.{Binding}
use Rattle.route_core.specs.Routing.{Routing}
use Rattle.route_core.specs.Walks.{Publish, stop, Matches, IsReached, Reaches}
use Rattle.route_core.specs.Spreading.{is_among}
use Rattle.route_core.specs.Routes.{matches, stops, is_reached, routed}

-- The test of a binding is true exactly where it matches (AMQP 0-9-1, 3.1.4 "The Binding").
abbrev pub MatchesDecides : Type 0
MatchesDecides = (objects : List Object) (p : Publish) (b : Binding) → (matches objects p b ≡ true) ↔ Matches objects p b

-- An exchange or a queue is reached in some round exactly where some walk leads there (RabbitMQ's "Exchange to Exchange Bindings").
abbrev pub RoundsAreWalks : Type 0
RoundsAreWalks = (r : Routing) (p : Publish) (sort : Sort) (name : List ℕ) → (is_among (stops r p) sort name ≡ true) ↔ IsReached r p (stop sort name)

-- The test of a queue's name is true exactly where the message reaches it (AMQP 0-9-1, basic.publish).
abbrev pub ReachedDecides : Type 0
ReachedDecides = (r : Routing) (p : Publish) (name : List ℕ) → (is_reached r p name ≡ true) ↔ Reaches r p name

-- A queue that stands, and that the message reaches.
pub record IsReachedQueue (r : Routing) (p : Publish) (o : Object) : Type 0 where
  pub number : ℕ
  pub queue : o.node ≡ nodes.Queue number
  pub stands : Contains r.objects o
  pub reached : Reaches r p o.name

-- The queues that a message is routed to are those that stand and that it reaches (AMQP 0-9-1, basic.publish).
abbrev pub RoutedAreReached : Type 0
RoutedAreReached = (r : Routing) (p : Publish) (o : Object) → Contains (routed r p) o ↔ IsReachedQueue r p o
