-- What a virtual host holds, in terms of the journal of its run.
use Rattle.std.specs.Prelude.{◌≡◌, ◌==◌, ◌+◌, ◌<◌, ◌≤◌, ℕ, Bool, true, false, ◌&&◌, not, List, [], ◌∷◌, Option, Some, None, All, map, filter, find, position}
use Rattle.std.specs.List.{list_any}
use Rattle.std.specs.Option.{option_map, option_map_or, option_and_then}
use Rattle.queue_core.specs.declared.rows.Holder.{Holder}
use Rattle.queue_core.specs.declared.rows.Hold.{Hold}
use Rattle.queue_core.specs.declared.rows.Hold.TheVariants as holds
use Rattle.queue_core.specs.declared.rows.Row.{Row}
use Rattle.fed_journal.specs.declared.place.Place.{Place}
use Rattle.client_rules.specs.declared.client.Client.{Client}
use Rattle.fed_journal.specs.declared.entry.Publication.{Publication}
use Rattle.fed_journal.specs.declared.entry.Entry.{Entry}
use Rattle.fed_journal.specs.Names.{same_text}
use Rattle.fed_journal.specs.Configuration.{queue_options, queue_owner, queues_of, exchange_shape}
use Rattle.fed_journal.specs.Routes.{site}
use Rattle.fed_journal.specs.Holders as holders
use Rattle.fed_journal.specs.Copies.{Standing, Ready, Held, publication_of, copy_count, entered, is_gone, is_home, standing}
use Rattle.fed_journal.specs.Consumers as journal
use Rattle.amqp_props.specs.declared.message.Message.{Message}
use Rattle.broker_store.specs.declared.consumer.Consumer.{Consumer}
use Rattle.broker_store.specs.Consumers.{is_client, is_consumer}
use Rattle.broker_store.specs.Queues.{Named, queue_of, AreAbove}
use Rattle.broker_store.specs.Exchanges.{shape_of}
use Rattle.broker_view.specs.Recorded.{session_holder}
use Rattle.mini_broker.specs.Consume.{consumer_of}
use Rattle.mini_broker.specs.State.{VhostState, AreRouted}

-- each name stands once (AMQP 0-9-1, 3.1.1 "The Message Queue")
abbrev pub AreDistinct : List (List ℕ) → Type 0
AreDistinct [] = Unit {0}
AreDistinct (q ∷ qs) = (list_any (same_text q) qs ≡ false) × AreDistinct qs

-- what was declared and bound (AMQP 0-9-1, 3.1 "The AMQ model")
pub record IsConfigured (J : List Entry) (p : Place) (v : VhostState) : Type 0 where
  pub options : (q : List ℕ) → option_map (λ s. s.options) (queue_of q v.queues) ≡ queue_options J p q
  pub owners : (q : List ℕ) → option_and_then (λ s. s.owner) (queue_of q v.queues) ≡ queue_owner J p q
  pub names : map (λ q. q.0) v.queues ≡ queues_of J p
  pub distinct : AreDistinct (map (λ q. q.0) v.queues)
  pub shapes : (x : List ℕ) → shape_of x v.exchanges ≡ exchange_shape J p x
  pub routing : v.routing ≡ (site J p).routing
  pub made : v.made ≡ (site J p).queues
  pub routed : AreRouted v.routing v.queues v.exchanges v.made

-- ---- consumers

-- what a consumer asked for
abbrev pub asked : Consumer → journal.Consumer
asked consumer = record { queue = consumer.queue; no_ack = consumer.no_ack; prefetch = consumer.prefetch }

-- a tag names one consumer of its channel (AMQP 0-9-1, basic.consume: consumer-tag)
abbrev pub AreSingle : List Consumer → Type 0
AreSingle [] = Unit {0}
AreSingle (consumer ∷ consumers) = (list_any (is_consumer consumer.client consumer.tag) consumers ≡ false) × AreSingle consumers

-- the numbers of consumers rise, in the order in which they began
abbrev pub Rise : List Consumer → Type 0
Rise [] = Unit {0}
Rise (consumer ∷ consumers) = All (λ later. consumer.holder.part < later.holder.part) consumers × Rise consumers

-- a consumer holds copies under its client's number and a number of its own
pub record IsNumbered (v : VhostState) (consumer : Consumer) : Type 0 where
  pub client' : consumer.holder.link ≡ false
  pub number : position (is_client consumer.client) v.clients ≡ Some consumer.holder.number
  pub first : 1 ≤ consumer.holder.part
  pub last : consumer.holder.part ≤ v.begun

-- who consumes (AMQP 0-9-1, basic.consume)
pub record HasConsumers (J : List Entry) (p : Place) (v : VhostState) : Type 0 where
  pub consumers : (k : Client) (t : List ℕ) → option_map asked (consumer_of k t v) ≡ journal.consumer J p k t
  pub single : AreSingle v.consumers
  pub rise : Rise v.consumers
  pub numbered : All (IsNumbered v) v.consumers

-- ---- copies

-- the copies of the queue of that name
abbrev pub rows_in : List ℕ → List (Named Message) → List Row
rows_in q queues = option_map_or (λ s. s.mail.rows) (queue_of q queues) []

-- the copy entered that queue
pub record HasHome (J : List Entry) (p : Place) (q : List ℕ) (c : ℕ) : Type 0 where
  pub publication : Publication
  pub of_copy : publication_of c J ≡ Some publication
  pub home : is_home publication c p q ≡ true

-- the number of the client's consumer of that tag
abbrev pub part_of : Client → List ℕ → List Consumer → Option ℕ
part_of k t consumers = option_map (λ consumer. consumer.holder.part) (find (is_consumer k t) consumers)

-- the client was handed the copy under the tag since it last began to consume under it
abbrev pub was_handed : List Entry → Place → Client → List ℕ → List ℕ → ℕ → Bool
was_handed J p k tag t c = same_text tag t && list_any (λ n. n == c) (journal.handed_since J p k t)

-- what a client holds counts for its consumer exactly where that was handed it (RabbitMQ, Consumer Prefetch)
abbrev pub CountsFor : List Entry → Place → List Consumer → Client → List ℕ → ℕ → ℕ → Type 0
CountsFor J p consumers k tag c part = (t : List ℕ) (n : ℕ) → part_of k t consumers ≡ Some n → (n == part) ≡ was_handed J p k tag t c

-- the channel holds the copy under its number
pub record IsChannel (J : List Entry) (p : Place) (v : VhostState) (c : ℕ) (place : Place) (client : Client) (tag : List ℕ) (holder : Holder) : Type 0 where
  pub here : place ≡ p
  pub client' : holder.link ≡ false
  pub number : position (is_client client) v.clients ≡ Some holder.number
  pub last : holder.part ≤ v.begun
  pub counts : CountsFor J p v.consumers client tag c holder.part

abbrev pub IsHolder : List Entry → Place → VhostState → ℕ → holders.Holder → Holder → Type 0
IsHolder J p v c (holders.Session link session) holder = holder ≡ session_holder session
IsHolder J p v c (holders.Channel place client tag) holder = IsChannel J p v c place client tag holder

-- a copy is held as the journal has it (RabbitMQ, Consumer Acknowledgements)
abbrev pub StandsAs : List Entry → Place → VhostState → ℕ → Standing → Hold → Type 0
StandsAs J p v c Ready holds.Ready = Unit {0}
StandsAs J p v c (Held holder) (holds.Held number) = IsHolder J p v c holder number
StandsAs J p v c _ _ = ⊥

abbrev pub RowStands : List Entry → Place → VhostState → Row → Type 0
RowStands J p v row = StandsAs J p v row.copy (standing row.copy J) row.hold

-- the copy hasn't left its queue
abbrev pub is_there : List Entry → ℕ → Bool
is_there J c = not (is_gone J c)

-- every copy is in the queue that it entered (AMQP 0-9-1, 3.1.3)
abbrev pub HaveHomes : List Entry → Type 0
HaveHomes J = (p : Place) (q : List ℕ) → All (HasHome J p q) (entered J p q)

-- what a client of a place holds entered a queue of that place
abbrev pub AreHeldAtHome : List Entry → Type 0
AreHeldAtHome J = (c : ℕ) (p : Place) (k : Client) (tag : List ℕ) → standing c J ≡ Held (holders.Channel p k tag) → (q : List ℕ) × (list_any (λ n. n == c) (entered J p q) ≡ true)

-- which copies are in the queues, and who holds them (AMQP 0-9-1, 3.1.1 "The Message Queue")
pub record HasCopies (J : List Entry) (p : Place) (v : VhostState) : Type 0 where
  pub homes : HaveHomes J
  pub held : AreHeldAtHome J
  pub numbers : (q : List ℕ) → map (λ row. row.copy) (rows_in q v.queues) ≡ filter (is_there J) (entered J p q)
  pub rows : (q : List ℕ) → All (RowStands J p v) (rows_in q v.queues)

-- no copy of the run has a number beyond their count, so the next one is above all that are there
pub record IsCounted (J : List Entry) (v : VhostState) : Type 0 where
  pub known : (c : ℕ) → copy_count J < c → publication_of c J ≡ None
  pub above : AreAbove (copy_count J + 1) v.queues

-- the virtual host of the place after the journal
pub record IsView (J : List Entry) (p : Place) (v : VhostState) : Type 0 where
  pub configured : IsConfigured J p v
  pub consuming : HasConsumers J p v
  pub copies : HasCopies J p v
  pub counted : IsCounted J v
