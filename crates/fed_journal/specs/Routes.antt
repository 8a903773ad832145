-- The exchanges, queues and bindings of a place, and the queues that a message reaches there.
use Rattle.std.specs.Prelude.{ℕ, ◌+◌, List, [], Bool, false, fold, if◌then◌else◌}
use Rattle.route_core.specs.declared.object.Sort.{Sort}
use Rattle.route_core.specs.declared.object.Sort.TheVariants as sorts
use Rattle.route_core.specs.declared.object.Node.{Node}
use Rattle.route_core.specs.declared.object.Node.TheVariants as nodes
use Rattle.route_core.specs.declared.binding.Binding.{Binding}
use Rattle.route_core.specs.Objects.{sort_of, has}
use Rattle.route_core.specs.Bindings.{has_binding}
use Rattle.route_core.specs.Routing.{Routing, predeclared, stands, with_object, without_object, bound, unbound}
use Rattle.route_core.specs.Routes.{routed_names}
use Rattle.route_core.specs.Walks.{publish, headers_of}
use Rattle.amqp_props.specs.declared.message.Message.{Message}
use Rattle.fed_journal.specs.declared.place.Place.{Place}
use Rattle.fed_journal.specs.declared.entry.Entry.{Entry}
use Rattle.fed_journal.specs.declared.entry.Entry.TheVariants.{MadeQueue, MadeExchange, GoneQueue, Bound, Unbound}
use Rattle.fed_journal.specs.Names.{same_place}

-- what stands at a place, and how many queues were made there, which numbers them in the order of their making
pub record Site : Type 0 where
  pub routing : Routing
  pub queues : ℕ

-- a virtual host begins with the predeclared exchanges (AMQP 0-9-1, 3.1.3)
abbrev pub first_site : Site
first_site = record { routing = record { objects = predeclared; bindings = [] }; queues = 0 }

-- what stands already isn't made again (AMQP 0-9-1, queue.declare, exchange.declare)
abbrev pub made : List ℕ → Node → Routing → Routing
made name node r = if stands (sort_of node) name r then r else with_object name node r

abbrev pub site_of : Routing → ℕ → Site
site_of routing queues = record { routing = routing; queues = queues }

-- a queue that is gone takes its bindings with it (AMQP 0-9-1, queue.delete)
abbrev pub gone : List ℕ → Routing → Routing
gone queue r = if has sorts.Queue queue r.objects then without_object sorts.Queue queue r else r

-- what an entry at that place does there
abbrev pub site_at : Site → Entry → Site
site_at s (MadeQueue place queue options owner) = site_of (made queue (nodes.Queue s.queues) s.routing) (s.queues + 1)
site_at s (MadeExchange place exchange shape) = site_of (made exchange (nodes.Exchange shape.kind) s.routing) s.queues
site_at s (GoneQueue place queue) = site_of (gone queue s.routing) s.queues
site_at s (Bound place binding) = site_of (bound binding s.routing) s.queues
site_at s (Unbound place binding) = site_of (unbound binding s.routing) s.queues
site_at s _ = s

abbrev pub is_at : Place → Entry → Bool
is_at p (MadeQueue place queue options owner) = same_place place p
is_at p (GoneQueue place queue) = same_place place p
is_at p (MadeExchange place exchange shape) = same_place place p
is_at p (Bound place binding) = same_place place p
is_at p (Unbound place binding) = same_place place p
is_at p _ = false

abbrev pub site_step : Place → Site → Entry → Site
site_step p s e = if is_at p e then site_at s e else s

-- the site of a place: what stands there after a journal, and how many queues were made there
unfoldable pub site : List Entry → Place → Site
site J p = fold (site_step p) first_site J

-- whether an equal binding stands at the place
abbrev pub is_bound : List Entry → Place → Binding → Bool
is_bound J p b = has_binding b (site J p).routing.bindings

-- the queues that the message reaches from its exchange, in the order of their making (AMQP 0-9-1, 3.1.3)
unfoldable pub routes : List Entry → Place → Message → List (List ℕ)
routes J p m = routed_names (site J p).routing (publish m.exchange m.key (headers_of m))
