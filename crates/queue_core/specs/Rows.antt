use Rattle.std.specs.Prelude.{◌≡◌, ◌==◌, ℕ, ◌<◌, ◌≤◌, ◌&&◌, if◌then◌else◌, Bool, true, false, not, List, [], ◌∷◌, Option, Some, None, All, map, filter, find, slice_get}
use Rattle.std.specs.Bool.{beq}
use Rattle.std.specs.List.{list_any}
use Rattle.std.specs.Option.{option_map, option_and_then}
use Rattle.queue_core.specs.declared.rows.Holder.{Holder}
use Rattle.queue_core.specs.declared.rows.Hold.{Hold}
use Rattle.queue_core.specs.declared.rows.Hold.TheVariants.{Ready, Held}
use Rattle.queue_core.specs.declared.rows.Row.{Row}

-- The copies of a queue stand in the order in which they were published, so by rising number (AMQP 0-9-1, Content Ordering).
abbrev pub Ascends : List Row → Type 0
Ascends [] = Unit {0}
Ascends (row ∷ rows) = All (λ later. row.copy < later.copy) rows × Ascends rows

-- A copy is above all those that are in the queue, as the next one that enters (AMQP 0-9-1, Content Ordering).
abbrev pub IsAbove : List Row → ℕ → Type 0
IsAbove rows copy = All (λ row. row.copy < copy) rows

-- Who holds a copy that was handed out and is unacknowledged (RabbitMQ, Queues: Message States).
abbrev pub holder_in : Hold → Option Holder
holder_in Ready = None
holder_in (Held holder) = Some holder

-- Nobody holds a copy in this state (RabbitMQ, Queues: Message States).
abbrev pub is_ready_hold : Hold → Bool
is_ready_hold Ready = true
is_ready_hold (Held _) = false

-- A copy is ready for a hand-out where nobody holds it (RabbitMQ, Queues: Message States).
abbrev pub is_ready : Row → Bool
is_ready row = is_ready_hold row.hold

-- A copy that isn't ready was handed out and is unacknowledged (RabbitMQ, Queues: Message States).
abbrev pub is_held : Row → Bool
is_held row = not (is_ready row)

-- One consumer of a client, or one session of a link (RabbitMQ, Consumers: Basics).
abbrev pub same_holder : Holder → Holder → Bool
same_holder a b = (beq a.link b.link && (a.number == b.number)) && (a.part == b.part)

-- This holder holds a copy in this state (RabbitMQ, Consumers: Basics).
abbrev pub is_hold_of : Holder → Hold → Bool
is_hold_of holder Ready = false
is_hold_of holder (Held other) = same_holder holder other

-- The copy that enters goes to the tail, ready and not stored yet (AMQP 0-9-1, Message Queues).
abbrev pub entered : ℕ → Row
entered copy = record { copy = copy; hold = Ready; stored = false }

-- The head of the ready copies, which is the least ready number (AMQP 0-9-1, basic.get and basic.deliver).
abbrev pub first_ready : List Row → Option ℕ
first_ready rows = option_map (λ row. row.copy) (find is_ready rows)

-- The copy is ready, and no ready copy has a lesser number (AMQP 0-9-1, Content Ordering).
pub record IsLeastReady (rows : List Row) (copy : ℕ) : Type 0 where
  pub ready : list_any (λ row. (row.copy == copy) && is_ready row) rows ≡ true
  pub least : All (λ row. is_ready row ≡ true → copy ≤ row.copy) rows

-- A change of this copy's hold alone (AMQP 0-9-1, Content Ordering: the copies keep their places).
abbrev pub with_hold : ℕ → Hold → Row → Row
with_hold copy hold row = record row { hold = if row.copy == copy then hold else row.hold }

-- This copy handed out to the holder (AMQP 0-9-1, Acknowledgements).
abbrev pub handed : ℕ → Holder → List Row → List Row
handed copy holder rows = map (with_hold copy (Held holder)) rows

-- This copy ready again at its original position (RabbitMQ, Confirms: Negative Acknowledgement and Requeuing of Deliveries).
abbrev pub released : ℕ → List Row → List Row
released copy rows = map (with_hold copy Ready) rows

-- The state of a copy once the holder holds nothing any more (RabbitMQ, Confirms: Automatic Requeueing of Deliveries).
abbrev pub freed : Holder → Hold → Hold
freed holder hold = if is_hold_of holder hold then Ready else hold

-- What the holder held is ready again when its channel or connection closes
-- (RabbitMQ, Confirms: Automatic Requeueing of Deliveries).
abbrev pub released_all : Holder → List Row → List Row
released_all holder rows = map (λ (row : Row). record row { hold = freed holder row.hold }) rows

-- The holder is a consumer of this client (RabbitMQ, Consumers: Basics).
abbrev pub is_of_client : ℕ → Holder → Bool
is_of_client client holder = not holder.link && (holder.number == client)

-- The state of a copy once the client's consumers hold nothing any more (RabbitMQ, Confirms: Automatic Requeueing of Deliveries).
abbrev pub freed_of : ℕ → Hold → Hold
freed_of client Ready = Ready
freed_of client (Held holder) = if is_of_client client holder then Ready else Held holder

-- What the client's consumers held is ready again when its channel or connection closes
-- (RabbitMQ, Confirms: Automatic Requeueing of Deliveries).
abbrev pub released_client : ℕ → List Row → List Row
released_client client rows = map (λ (row : Row). record row { hold = freed_of client row.hold }) rows

-- The copy is unacknowledged at this holder (RabbitMQ, Consumer Prefetch).
abbrev pub is_held_by : Holder → Row → Bool
is_held_by holder row = is_hold_of holder row.hold

-- The queue without this copy (AMQP 0-9-1, basic.ack).
abbrev pub without : ℕ → List Row → List Row
without copy rows = filter (λ row. not (row.copy == copy)) rows

-- A flush stored each copy that is in the queue (RabbitMQ, Persistence Configuration).
abbrev pub all_stored : List Row → List Row
all_stored rows = map (λ (row : Row). record row { stored = true }) rows

-- Whether the copy is in the queue (AMQP 0-9-1, Message Queues).
abbrev pub has : ℕ → List Row → Bool
has copy rows = list_any (λ row. row.copy == copy) rows

-- Whether the copy is in the queue and held (RabbitMQ, Queues: Message States).
abbrev pub has_held : ℕ → List Row → Bool
has_held copy rows = list_any (λ row. (row.copy == copy) && is_held row) rows

-- Who holds the copy, if it is in the queue and held (RabbitMQ, Queues: Message States).
abbrev pub holder_of : ℕ → List Row → Option Holder
holder_of copy rows = option_and_then (λ row. holder_in row.hold) (find (λ row. row.copy == copy) rows)

-- Whether a flush came after the copy entered (RabbitMQ, Persistence Configuration).
abbrev pub has_stored : ℕ → List Row → Bool
has_stored copy rows = list_any (λ row. (row.copy == copy) && row.stored) rows

-- The number of the copy at a place, counted from 0 at the head (AMQP 0-9-1, Content Ordering).
abbrev pub copy_at : List Row → ℕ → Option ℕ
copy_at rows place = option_map (λ row. row.copy) (slice_get rows place)
