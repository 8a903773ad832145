-- What stands in a virtual host.
use Rattle.std.specs.Prelude.{◌≡◌, ℕ, List, is_some}
use Rattle.route_core.specs.declared.object.Sort.TheVariants as sorts
use Rattle.route_core.specs.declared.object.Node.TheVariants as nodes
use Rattle.route_core.specs.Objects.{has}
use Rattle.route_core.specs.Routing.{Routing, IsNext}
use Rattle.amqp_props.specs.declared.message.Message.{Message}
use Rattle.client_rules.specs.declared.client.Client.{Client}
use Rattle.broker_store.specs.declared.consumer.Consumer.{Consumer}
use Rattle.broker_store.specs.Queues.{Named, queue_of}
use Rattle.broker_store.specs.Exchanges.{NamedShape, shape_of}

-- Bindings; queues with their copies and exchanges in the order of making; consumers in the order in which they began
-- (AMQP 0-9-1, 3.1 "The AMQ model"); the clients that consumed or got here, in the order in which they first did;
-- how many queues were made and how many consumers began.
pub record VhostState : Type 0 where
  pub routing : Routing
  pub queues : List (Named Message)
  pub exchanges : List NamedShape
  pub clients : List Client
  pub consumers : List Consumer
  pub made : ℕ
  pub begun : ℕ

-- the router knows the queues and exchanges that stand
pub record AreRouted (routing : Routing) (queues : List (Named Message)) (exchanges : List NamedShape) (made : ℕ) : Type 0 where
  pub queue_names : (name : List ℕ) → has sorts.Queue name routing.objects ≡ is_some (queue_of name queues)
  pub exchange_names : (name : List ℕ) → has sorts.Exchange name routing.objects ≡ is_some (shape_of name exchanges)
  pub numbers : IsNext (nodes.Queue made) routing
