-- Publications, their copies, and what becomes of a copy.
use Rattle.std.specs.Prelude.{ℕ, ◌+◌, ◌-◌, ◌<◌, ◌^◌, List, [], ◌∷◌, Bool, false, true, ◌&&◌, ◌||◌, not, length, count_by, sum_by, filter_map, fold, take, drop, Option, Some, None, option_map, if◌then◌else◌, ◌==◌, nat_le, nat_lt, position}
use Rattle.std.specs.List.{list_any, list_all, slice_get}
use Rattle.field_tables.specs.Tables.{IsTable}
use Rattle.fed_journal.specs.declared.place.Place.{Place}
use Rattle.amqp_props.specs.declared.link.QueueOptions.{QueueOptions}
use Rattle.fed_journal.specs.declared.entry.Publication.{Publication}
use Rattle.fed_journal.specs.declared.entry.Entry.{Entry}
use Rattle.fed_journal.specs.declared.entry.Entry.TheVariants.{Published, GoneQueue, Bound, Flushed, Took, Delivered, Acked, Rejected, Requeued, Purged, Closed, Settled}
use Rattle.fed_journal.specs.Configuration.{queue_options}
use Rattle.fed_journal.specs.Messages.{is_persistent}
use Rattle.fed_journal.specs.Names.{same_text, same_place}
use Rattle.fed_journal.specs.Holders.{Holder, Session, Channel, is_connection}

abbrev pub is_publication : Entry → Bool
is_publication (Published x) = true
is_publication _ = false

-- each queue that a message is routed to gets a copy (AMQP 0-9-1, 3.1.3)
abbrev pub copies_made : Entry → ℕ
copies_made (Published x) = length x.queues
copies_made _ = 0

unfoldable pub publication_count : List Entry → ℕ
publication_count J = count_by is_publication J

unfoldable pub copy_count : List Entry → ℕ
copy_count J = sum_by copies_made J

-- what an entry says fits: the numbers of a publication's copies 64 bits, the arguments of a binding a field table (AMQP 0-9-1, 4.2.5.5)
abbrev pub IsFitting : Entry → Type 0
IsFitting (Published x) = x.first + length x.queues < 2 ^ 64
IsFitting (Bound place binding) = IsTable binding.args
IsFitting _ = Unit {0}

-- the copy that a publication brought into the queue
abbrev pub entered_by : Place → List ℕ → Entry → Option ℕ
entered_by p q (Published x) = if same_place x.place p then option_map (λ k. x.first + k) (position (same_text q) x.queues) else None
entered_by p q _ = None

-- every copy that ever entered the queue, by rising number
unfoldable pub entered : List Entry → Place → List ℕ → List ℕ
entered J p q = filter_map (entered_by p q) J

-- the copy is one of the publication's
abbrev pub is_copy_of : Publication → ℕ → Bool
is_copy_of x c = nat_le x.first c && nat_lt (c - x.first) (length x.queues)

abbrev pub enters : ℕ → Entry → Bool
enters c (Published x) = is_copy_of x c
enters c _ = false

abbrev pub publishes : ℕ → Entry → Bool
publishes p (Published x) = x.number == p
publishes p _ = false

abbrev pub publication_in : Option Entry → Option Publication
publication_in (Some (Published x)) = Some x
publication_in _ = None

-- a queue that outlives a restart of its broker: durable, and neither exclusive nor auto-delete (RabbitMQ, Queues: durability)
abbrev pub is_lasting : Option QueueOptions → Bool
is_lasting None = false
is_lasting (Some o) = o.durable && not o.exclusive && not o.auto_delete

abbrev pub is_lasting_at : List Entry → Place → Option (List ℕ) → Bool
is_lasting_at J p None = false
is_lasting_at J p (Some q) = is_lasting (queue_options J p q)

-- a broker stores what it holds when it flushes it to disk (RabbitMQ, Publisher Confirms: when messages are confirmed)
abbrev pub flushes : List ℕ → Entry → Bool
flushes b (Flushed broker) = same_text broker b
flushes b _ = false

-- the copy's message is persistent and its queue is lasting, where J is the journal before its publication x
abbrev pub must_be_stored_at : List Entry → Option Publication → ℕ → Bool
must_be_stored_at J None c = false
must_be_stored_at J (Some x) c = is_persistent x.message && is_lasting_at J x.place (slice_get x.queues (c - x.first))

-- its broker flushed in the journal J after its publication x
abbrev pub is_flushed_in : List Entry → Option Publication → Bool
is_flushed_in J None = false
is_flushed_in J (Some x) = list_any (flushes x.place.broker) J

abbrev pub must_be_stored_from : List Entry → ℕ → Option ℕ → Bool
must_be_stored_from J c None = false
must_be_stored_from J c (Some i) = must_be_stored_at (take i J) (publication_in (slice_get J i)) c

abbrev pub is_flushed_from : List Entry → Option ℕ → Bool
is_flushed_from J None = false
is_flushed_from J (Some i) = is_flushed_in (drop (i + 1) J) (publication_in (slice_get J i))

-- a persistent message in a lasting queue (RabbitMQ, Publisher Confirms: persistent messages)
unfoldable pub must_be_stored : List Entry → ℕ → Bool
must_be_stored J c = must_be_stored_from J c (position (enters c) J)

-- a copy is stored when its message is persistent, its queue is lasting and its broker flushed after it entered
unfoldable pub is_stored : List Entry → ℕ → Bool
is_stored J c = must_be_stored J c && is_flushed_from J (position (enters c) J)

-- what has become of a copy: no publication has it, it waits in its queue, it is handed out and unacknowledged, it has left its queue
pub data Standing : Type 0 where
  Unknown : Standing
  Ready : Standing
  Held : (holder : Holder) → Standing
  Left : Standing

abbrev pub is_left : Standing → Bool
is_left Left = true
is_left _ = false

abbrev pub is_waiting : Standing → Bool
is_waiting Ready = true
is_waiting _ = false

abbrev pub is_name_of : List ℕ → Option (List ℕ) → Bool
is_name_of q None = false
is_name_of q (Some name) = same_text name q

-- the publication brought the copy into this queue
abbrev pub is_home : Publication → ℕ → Place → List ℕ → Bool
is_home x c p q = same_place x.place p && is_name_of q (slice_get x.queues (c - x.first))

-- handed out to be acknowledged, or for good (AMQP 0-9-1, basic.consume: no-ack)
abbrev pub handed : Bool → Holder → Standing
handed no_ack holder = if no_ack then Left else Held holder

-- a connection that ends gives back what its channels held (RabbitMQ, Consumer Acknowledgements: automatic requeueing)
abbrev pub closed : Place → ℕ → Standing → Standing
closed p n (Held holder) = if is_connection p n holder then Ready else Held holder
closed p n t = t

-- what an entry does with a copy of the publication that hasn't left its queue (AMQP 0-9-1, basic.deliver, basic.ack, basic.reject, queue.purge, queue.delete)
abbrev pub moved : ℕ → Publication → Standing → Entry → Standing
moved c x t (Took link session copy) = if copy == c then Held (Session link session) else t
moved c x t (Delivered place client tag queue copy no_ack) = if copy == c then handed no_ack (Channel place client tag) else t
moved c x t (Acked place client copy) = if copy == c then Left else t
moved c x t (Rejected place client copy) = if copy == c then Left else t
moved c x t (Requeued place client copy) = if copy == c then Ready else t
moved c x t (Settled link session copy) = if copy == c then Left else t
moved c x t (Purged place queue) = if is_waiting t && is_home x c place queue then Left else t
moved c x t (GoneQueue place queue) = if is_home x c place queue then Left else t
moved c x t (Closed place connection) = closed place connection t
moved c x t _ = t

-- what has left stays away
abbrev pub standing_step : ℕ → Publication → Standing → Entry → Standing
standing_step c x t e = if is_left t then Left else moved c x t e

-- the standing of a copy, whether it is ready, held or has left: it is ready in its queue once it is published (AMQP 0-9-1, 3.1.3), and then every entry does with it as above
unfoldable pub standing : ℕ → List Entry → Standing
standing c [] = Unknown
standing c (Published x ∷ J) = if is_copy_of x c then fold (standing_step c x) Ready J else standing c J
standing c (_ ∷ J) = standing c J

-- the copy has left its queue otherwise than by loss
abbrev pub is_released : List Entry → ℕ → Bool
is_released J c = is_left (standing c J)

-- the copy has left its queue
abbrev pub is_gone : List Entry → ℕ → Bool
is_gone J c = is_released J c

abbrev pub numbers_from : ℕ → List (List ℕ) → List ℕ
numbers_from n [] = []
numbers_from n (q ∷ qs) = n ∷ numbers_from (n + 1) qs

abbrev pub is_copy_secured : List Entry → ℕ → Bool
is_copy_secured J c = not (must_be_stored J c) || is_stored J c || is_released J c

abbrev pub is_secured_at : List Entry → Option Publication → Bool
is_secured_at J None = false
is_secured_at J (Some x) = list_all (is_copy_secured J) (numbers_from x.first x.queues)

unfoldable pub find_publication : ℕ → List Entry → Option Publication
find_publication p [] = None
find_publication p (Published x ∷ J) = if x.number == p then Some x else find_publication p J
find_publication p (_ ∷ J) = find_publication p J

-- each of its copies that is persistent and in a lasting queue is stored, or has left its queue otherwise than by loss
unfoldable pub is_secured : List Entry → ℕ → Bool
is_secured J p = is_secured_at J (find_publication p J)

-- the publication that the copy belongs to
unfoldable pub publication_of : ℕ → List Entry → Option Publication
publication_of c [] = None
publication_of c (Published x ∷ J) = if is_copy_of x c then Some x else publication_of c J
publication_of c (_ ∷ J) = publication_of c J
