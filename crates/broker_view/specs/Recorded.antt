-- What an entry of the journal does to a virtual host.
use Rattle.std.specs.Prelude.{ℕ, Bool, true, false, not, ◌&&◌, if◌then◌else◌, List, [], ◌∷◌, ◌++◌}
use Rattle.queue_core.specs.declared.rows.Holder.{Holder}
use Rattle.fed_journal.specs.declared.place.Place.{Place}
use Rattle.fed_journal.specs.declared.entry.Entry.{Entry}
use Rattle.fed_journal.specs.declared.entry.Entry.TheVariants.{MadeQueue, MadeExchange, GoneQueue, Bound, Unbound, Published, Flushed, Took, Settled, Consumed, Cancelled, Delivered, Acked, Rejected, Requeued, Purged, Closed}
use Rattle.fed_journal.specs.Names.{same_text, same_place}
use Rattle.route_core.specs.Routing.{bound, unbound}
use Rattle.broker_store.specs.declared.mailbox.Sweep.TheVariants as sweeps
use Rattle.mini_broker.specs.State.{VhostState}
use Rattle.mini_broker.specs.Declare.{with_queue, with_exchange}
use Rattle.mini_broker.specs.Bind.{with_routing}
use Rattle.mini_broker.specs.Consume.{new_consumer, with_consumer, without_consumer}
use Rattle.mini_broker.specs.Settle.{with_purged, all_swept}
use Rattle.mini_broker.specs.Close.{disconnected, without_queue}
use Rattle.mini_broker.specs.Record.{with_entered, with_handed, with_taken, with_settled, with_released}

-- a session of a link; which link it is the journal tells by the copy (RabbitMQ, Dynamic Shovels)
abbrev pub session_holder : ℕ → Holder
session_holder session = record { link = true; number = 0; part = session }

-- what happened at that place happened to its virtual host; what becomes of a copy that is handed out goes by its number, which no other copy of the run has
abbrev pub recorded : Place → Entry → VhostState → VhostState
recorded p (MadeQueue place queue options owner) v = if same_place place p then with_queue queue options owner v else v
recorded p (MadeExchange place exchange shape) v = if same_place place p then with_exchange exchange shape v else v
recorded p (GoneQueue place queue) v = if same_place place p then without_queue queue v else v
recorded p (Bound place binding) v = if same_place place p then with_routing (bound binding v.routing) v else v
recorded p (Unbound place binding) v = if same_place place p then with_routing (unbound binding v.routing) v else v
recorded p (Published x) v = if same_place x.place p then with_entered x.queues x.first x.message v else v
recorded p (Flushed broker) v = if same_text broker p.broker then all_swept sweeps.Store v else v
recorded p (Took l session copy) v = with_taken copy (session_holder session) v
recorded p (Settled l session copy) v = with_settled copy v
recorded p (Consumed place client queue tag no_ack prefetch) v =
    if same_place place p then with_consumer (new_consumer client queue tag no_ack prefetch v) v else v
recorded p (Cancelled place client tag) v = if same_place place p then without_consumer client tag v else v
recorded p (Delivered place client tag queue copy no_ack) v = if same_place place p then with_handed client tag queue copy no_ack v else v
recorded p (Acked place client copy) v = with_settled copy v
recorded p (Rejected place client copy) v = with_settled copy v
recorded p (Requeued place client copy) v = with_released copy v
recorded p (Purged place queue) v = if same_place place p then with_purged queue v else v
recorded p (Closed place connection) v = if same_place place p then disconnected connection v else v
recorded p _ v = v

-- entries of declarations and bindings (AMQP 0-9-1, classes queue and exchange)
abbrev pub is_making : Entry → Bool
is_making (MadeQueue place queue options owner) = true
is_making (MadeExchange place exchange shape) = true
is_making (GoneQueue place queue) = true
is_making (Bound place binding) = true
is_making (Unbound place binding) = true
is_making _ = false

-- entries of clients that consume, or whose connection ended (AMQP 0-9-1, class basic)
abbrev pub is_consuming : Entry → Bool
is_consuming (Consumed place client queue tag no_ack prefetch) = true
is_consuming (Cancelled place client tag) = true
is_consuming (Delivered place client tag queue copy no_ack) = true
is_consuming (Closed place connection) = true
is_consuming _ = false

-- the other entries
abbrev pub is_moving : Entry → Bool
is_moving e = not (is_making e) && not (is_consuming e)
