-- A client binds a queue or an exchange to an exchange, or ends a binding (AMQP 0-9-1, queue.bind, queue.unbind; RabbitMQ, Exchange to Exchange Bindings).
use Rattle.std.specs.Prelude.{ℕ, List, Bool, false, ◌&&◌, ◌||◌, not, if◌then◌else◌, Option, Some, None, is_some, Result, Ok, Err}
use Rattle.std.specs.Option.{option_map_or}
use Rattle.route_core.specs.declared.object.Sort.{Sort}
use Rattle.route_core.specs.declared.object.Sort.TheVariants as sorts
use Rattle.route_core.specs.declared.binding.Binding.{Binding}
use Rattle.route_core.specs.Bindings.{has_binding}
use Rattle.route_core.specs.Routing.{Routing}
use Rattle.client_rules.specs.declared.client.Client.{Client}
use Rattle.mini_broker.specs.declared.fault.ClientFault.{ClientFault}
use Rattle.mini_broker.specs.declared.fault.ClientFault.TheVariants.{Refused}
use Rattle.client_rules.specs.Names.{is_unbindable}
use Rattle.mini_broker.specs.Declare.{is_locked}
use Rattle.broker_store.specs.Queues.{queue_of}
use Rattle.broker_store.specs.Exchanges.{shape_of}
use Rattle.mini_broker.specs.State.{VhostState}

abbrev pub stands_as : Sort → List ℕ → VhostState → Bool
stands_as sorts.Queue name v = is_some (queue_of name v.queues)
stands_as sorts.Exchange name v = is_some (shape_of name v.exchanges)

-- another connection has what is bound to itself (AMQP 0-9-1, queue.declare: exclusive)
abbrev pub is_locked_end : Client → Sort → List ℕ → VhostState → Bool
is_locked_end who sorts.Queue name v = option_map_or (is_locked who) (queue_of name v.queues) false
is_locked_end who sorts.Exchange name v = false

-- ACCESS_REFUSED (403) for a name that can't be bound, NOT_FOUND (404) for an end that isn't there, RESOURCE_LOCKED (405) for another's queue
unfoldable pub bind_refusal : Client → List ℕ → Sort → List ℕ → VhostState → Option ClientFault
bind_refusal who source sort dest v =
    if is_unbindable source || is_unbindable dest then Some (Refused 403) else
    if not (stands_as sorts.Exchange source v && stands_as sort dest v) then Some (Refused 404) else
    if is_locked_end who sort dest v then Some (Refused 405) else None

-- otherwise this is the answer
abbrev pub unless : {A : Type 0} → Option ClientFault → Result A ClientFault → Result A ClientFault
unless None answer = answer
unless (Some fault) answer = Err fault

-- whether it is bound: an equal binding is made once (AMQP 0-9-1, queue.bind: a duplicate is ignored)
abbrev pub bind_answer : Client → Binding → VhostState → Result Bool ClientFault
bind_answer who b v = unless (bind_refusal who b.source b.sort b.dest v) (Ok (not (has_binding b v.routing.bindings)))

-- whether it is unbound (AMQP 0-9-1, queue.unbind)
abbrev pub unbind_answer : Client → Binding → VhostState → Result Bool ClientFault
unbind_answer who b v = unless (bind_refusal who b.source b.sort b.dest v) (Ok (has_binding b v.routing.bindings))

abbrev pub with_routing : Routing → VhostState → VhostState
with_routing routing v = record v { routing = routing }
