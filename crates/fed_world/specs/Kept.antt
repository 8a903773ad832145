-- What a run keeps: stored copies stay in their queues, and a link removes from its source only what its target secured.
use Rattle.std.specs.Prelude.{◌≡◌, ℕ, List, [], ◌∷◌, ◌++◌, Bool, true, false, ◌&&◌, not, Option, Some, None, is_some, IsTrue, IsFalse}
use Rattle.std.specs.List.{list_any}
use Rattle.fed_journal.specs.declared.event.Event.{Event}
use Rattle.fed_journal.specs.declared.event.Event.TheVariants.{Deliver, Get, Ack, Reject, Purge, Take, Settle}
use Rattle.fed_journal.specs.declared.link.AckMode.{AckMode}
use Rattle.fed_journal.specs.declared.link.AckMode.TheVariants.{OnConfirm}
use Rattle.fed_journal.specs.declared.link.LinkSpec.{LinkSpec}
use Rattle.fed_journal.specs.declared.entry.Publisher.TheVariants.{Link}
use Rattle.fed_journal.specs.declared.entry.Publication.{Publication}
use Rattle.fed_journal.specs.declared.entry.Entry.{Entry}
use Rattle.fed_journal.specs.declared.entry.Entry.TheVariants.{Opened, Took, Sent, Published, Confirmed, Noted, Settled}
use Rattle.fed_journal.specs.Copies.{enters, is_gone, is_stored, is_secured, find_publication, publication_of}
use Rattle.fed_journal.specs.Holders.{Session}
use Rattle.fed_journal.specs.Holds.{holder}
use Rattle.fed_journal.specs.Links.{link_of}
use Rattle.fed_journal.specs.Outgoing.{outgoing}
use Rattle.fed_world.specs.Run.{Moment, last_journal}

-- the events by which a copy may leave its queue: it is handed out, its acknowledgement or rejection removes it, or its queue is emptied (AMQP 0-9-1, basic.deliver, basic.get, basic.ack, basic.reject, queue.purge)
abbrev pub is_removal : Event → Bool
is_removal (Deliver place client tag) = true
is_removal (Get place client queue no_ack) = true
is_removal (Ack place client copy) = true
is_removal (Reject place client copy) = true
is_removal (Purge place client queue) = true
is_removal (Take link) = true
is_removal (Settle link) = true
is_removal _ = false

-- a copy that entered its queue and hasn't left it (AMQP 0-9-1, basic.publish, basic.ack)
abbrev pub is_alive : List Entry → ℕ → Bool
is_alive J c = list_any (enters c) J && not (is_gone J c)

-- unless it is a removal, the event between the journals J and K leaves each copy that is alive and stored so (RabbitMQ, Queues: durability)
abbrev pub LeavesStored : List Entry → Event → List Entry → Type 0
LeavesStored J event K = IsFalse (is_removal event) → (c : ℕ) → IsTrue (is_alive J c) → IsTrue (is_stored J c) → IsTrue (is_alive K c) × IsTrue (is_stored K c)

-- so does each moment's event, from the journal before it to the one after it
abbrev pub KeepsStored : List Entry → Moment → Type 0
KeepsStored J m = LeavesStored J m.event m.journal

-- P of the journal before each moment and that moment, from the journal J on
abbrev pub EachMoment : (List Entry → Moment → Type 0) → List Entry → List Moment → Type 0
EachMoment P J [] = Unit {0}
EachMoment P J (m ∷ ms) = P J m × EachMoment P m.journal ms

-- the entry stands in the journal J, and K is what stands before it
abbrev pub StandsAfter : List Entry → Entry → List Entry → Type 0
StandsAfter K e J = (rest : List Entry) × (J ≡ K ++ e ∷ rest)

-- whether the link's description has it acknowledge what the target confirmed (RabbitMQ, Shovel: ack-mode on-confirm)
abbrev pub is_on_confirm : Option LinkSpec → Bool
is_on_confirm None = false
is_on_confirm (Some spec) = is_mode_on_confirm spec.mode
  where
    is_mode_on_confirm : AckMode → Bool
    is_mode_on_confirm OnConfirm = true

-- the way of a copy through the link's session, in this order (RabbitMQ, Shovel: ack-mode on-confirm; Publisher Confirms)
pub record IsMoved (J : List Entry) (l : List ℕ) (s c : ℕ) : Type 0 where
  -- the journals before each step
  pub at_opened : List Entry
  pub at_took : List Entry
  pub at_sent : List Entry
  pub at_published : List Entry
  pub at_confirmed : List Entry
  pub at_noted : List Entry
  -- what the target published for it, what the copy belongs to, and, when the session was opened, the link's description and how many copies were ready
  pub publication : Publication
  pub source : Publication
  pub spec : LinkSpec
  pub ready : ℕ
  -- the session was opened, it took the copy, sent it on, the target published it and confirmed that, and the link acknowledged the copy
  pub opened : StandsAfter at_opened (Opened l s ready) at_took
  pub took : StandsAfter at_took (Took l s c) at_sent
  pub sent : StandsAfter at_sent (Sent l s c) at_published
  pub published : StandsAfter at_published (Published publication) at_confirmed
  pub confirmed : StandsAfter at_confirmed (Confirmed l s publication.number) at_noted
  pub noted : StandsAfter at_noted (Noted l s c) J
  -- the publication is this session's of that copy, and its message is what the link publishes for the copy's message
  pub by : publication.by ≡ Link l s c
  pub described : link_of at_opened l ≡ Some spec
  pub of_copy : publication_of c at_published ≡ Some source
  pub message : publication.message ≡ outgoing spec source.message
  -- when it was confirmed, it was the publication of its number, and the target had it secured
  pub found : find_publication publication.number at_confirmed ≡ Some publication
  pub secured : IsTrue (is_secured at_confirmed publication.number)

-- the target published under that number for the session, from one of its copies
pub record IsPublishedFor (J : List Entry) (l : List ℕ) (s p : ℕ) : Type 0 where
  pub at_published : List Entry
  pub publication : Publication
  pub copy : ℕ
  pub published : StandsAfter at_published (Published publication) J
  pub number : publication.number ≡ p
  pub by : publication.by ≡ Link l s copy

-- the target confirmed to the session what it published for it from the copy
pub record IsConfirmedFor (J : List Entry) (l : List ℕ) (s c : ℕ) : Type 0 where
  pub at_confirmed : List Entry
  pub publication : Publication
  pub confirmed : StandsAfter at_confirmed (Confirmed l s publication.number) J
  pub found : find_publication publication.number at_confirmed ≡ Some publication
  pub by : publication.by ≡ Link l s c

-- before a link's source removes a copy, the copy went its whole way: its target has stored or released what it published for it
abbrev pub RemovesMoved : List Entry → Type 0
RemovesMoved J = (K : List Entry) (l : List ℕ) (s c : ℕ) → StandsAfter K (Settled l s c) J → IsTrue (is_on_confirm (link_of K l)) → IsMoved K l s c

-- a link's source removes a copy only for a link that the configuration describes, and only where the copy is in its queue and held by that session (RabbitMQ, Consumer Acknowledgements)
abbrev pub RemovesHeld : List Entry → Type 0
RemovesHeld J = (K : List Entry) (l : List ℕ) (s c : ℕ) → StandsAfter K (Settled l s c) J → IsTrue (is_some (link_of K l)) × IsTrue (is_alive K c) × (holder K c ≡ Some (Session l s))

-- a copy that a session took, and that wasn't removed for it, is in its queue and held by that session (RabbitMQ, Consumer Acknowledgements)
abbrev pub HoldsTaken : List Entry → Type 0
HoldsTaken J = (K : List Entry) (l : List ℕ) (s c : ℕ) → StandsAfter K (Took l s c) J → ((L : List Entry) → StandsAfter L (Settled l s c) J → ⊥) → IsTrue (is_alive J c) × (holder J c ≡ Some (Session l s))

-- each stage of a copy follows the one before it, in the same session (RabbitMQ, Shovel: ack-mode on-confirm; Publisher Confirms)
pub record FollowsStages (J : List Entry) : Type 0 where
  -- what a session sent on, it had taken
  pub sent : (K : List Entry) (l : List ℕ) (s c : ℕ) → StandsAfter K (Sent l s c) J → (L : List Entry) × StandsAfter L (Took l s c) K
  -- what the target published for a session, the session had sent on
  pub published : (K : List Entry) (x : Publication) (l : List ℕ) (s c : ℕ) → StandsAfter K (Published x) J → x.by ≡ Link l s c → (L : List Entry) × StandsAfter L (Sent l s c) K
  -- what the target confirmed to a session, it had published for the session and secured
  pub confirmed : (K : List Entry) (l : List ℕ) (s p : ℕ) → StandsAfter K (Confirmed l s p) J → IsTrue (is_secured K p) × IsPublishedFor K l s p
  -- what a session acknowledged, the target had confirmed to it
  pub noted : (K : List Entry) (l : List ℕ) (s c : ℕ) → StandsAfter K (Noted l s c) J → IsConfirmedFor K l s c

-- a run of these moments from the journal J on is kept
pub record IsKept (J : List Entry) (moments : List Moment) : Type 0 where
  pub stored : EachMoment KeepsStored J moments
  pub moved : RemovesMoved (last_journal J moments)
  pub held : RemovesHeld (last_journal J moments)
  pub holds : EachMoment (λ K m. HoldsTaken m.journal) J moments
  pub stages : FollowsStages (last_journal J moments)
