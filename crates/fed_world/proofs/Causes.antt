-- What each entry needs in the journal before it.
use Rattle.std.proofs.Common.{Bool, ◌≡◌, ℕ, List, [], ◌∷◌, ◌++◌, true, false, Option, Some, None, sym, subst, append_assoc, append-nil}
use Rattle.std.specs.List.{list_any, list_all}
use Rattle.std.specs.Prelude.{codes, not}
use Rattle.amqp_props.specs.declared.link.QueueOptions.{QueueOptions}
use Rattle.fed_journal.specs.declared.place.Place.{Place}
use Rattle.fed_journal.specs.Configuration.{queue_options}
use Rattle.fed_journal.specs.Publish.{first_copy}
use Rattle.fed_world.specs.Take.{first_ready_at}
use Rattle.fed_journal.specs.declared.link.LinkSpec.{LinkSpec}
use Rattle.fed_journal.specs.declared.entry.Publisher.{Publisher}
use Rattle.fed_journal.specs.declared.entry.Publisher.TheVariants.{Client, Link}
use Rattle.fed_journal.specs.declared.entry.Publication.{Publication}
use Rattle.fed_journal.specs.declared.entry.Entry.{Entry}
use Rattle.fed_journal.specs.declared.entry.Entry.TheVariants.{Begun, MadeQueue, GoneQueue, Opened, ShovelSet, Delivered, Acked, Rejected, Requeued, Took, Sent, Published, Confirmed, Noted, Settled}
use Rattle.fed_journal.specs.Copies.{enters, is_secured, find_publication, publication_of}
use Rattle.fed_journal.specs.Flight.{has, settled_for}
use Rattle.fed_journal.specs.Holds.{is_ready, is_held_by}
use Rattle.fed_journal.specs.Links.{link_of, is_shovel_set}
use Rattle.fed_journal.specs.Names.{same_text}
use Rattle.fed_journal.specs.Outgoing.{outgoing}
use Rattle.fed_world.proofs.LastOpened.{WasOpened}
use Rattle.fed_world.specs.Kept.{StandsAfter, IsPublishedFor}

-- the copy was sent on by the session, and what its link publishes for it is published where the link publishes
pub record PublishesCopy (K : List Entry) (x : Publication) (l : List ℕ) (s c : ℕ) : Type 0 where
  pub before : List Entry
  pub spec : LinkSpec
  pub source : Publication
  pub sent : StandsAfter before (Sent l s c) K
  pub described : link_of K l ≡ Some spec
  pub of_copy : publication_of c K ≡ Some source
  pub message : x.message ≡ outgoing spec source.message
  pub target : spec.target ≡ Some x.place

-- a publication of the copy by the session was confirmed
pub record WasConfirmed (K : List Entry) (l : List ℕ) (s c : ℕ) : Type 0 where
  pub before : List Entry
  pub number : ℕ
  pub publication : Publication
  pub confirmed : StandsAfter before (Confirmed l s number) K
  pub found : find_publication number K ≡ Some publication
  pub by : publication.by ≡ Link l s c

-- the session acknowledged the copy, and it wasn't removed for it yet
pub record WasNoted (K : List Entry) (l : List ℕ) (s c : ℕ) : Type 0 where
  pub before : List Entry
  pub spec : LinkSpec
  pub described : link_of K l ≡ Some spec
  pub noted : StandsAfter before (Noted l s c) K
  pub still : has (settled_for l s) c K ≡ false

abbrev pub CausedBy : List Entry → Publication → Publisher → Type 0
CausedBy K x (Client client) = Unit {0}
CausedBy K x (Link l s c) = PublishesCopy K x l s c

-- the queue stands, and no connection has it to itself
abbrev pub is_shared_in : Option QueueOptions → Bool
is_shared_in None = false
is_shared_in (Some options) = not options.exclusive

abbrev pub is_shared : List Entry → Place → List ℕ → Bool
is_shared K p q = is_shared_in (queue_options K p q)

-- so does the queue that the link reads
abbrev pub SharesSource : List Entry → LinkSpec → Type 0
SharesSource K spec = (p : Place) → spec.source ≡ Some p → is_shared K p spec.source_queue ≡ true

-- the copy is the one that the queue would hand to the link
pub record TakesFirst (K : List Entry) (l : List ℕ) (c : ℕ) : Type 0 where
  pub spec : LinkSpec
  pub described : link_of K l ≡ Some spec
  pub first : first_ready_at K spec.source spec.source_queue ≡ Some c

-- a broker's beginning
abbrev pub is_begun : Entry → Bool
is_begun (Begun broker cluster kept) = true
is_begun _ = false

abbrev pub Caused : List Entry → Entry → Type 0
Caused K (Begun broker cluster kept) = list_all is_begun K ≡ true
Caused K (ShovelSet place name shovel) = (same_text place.vhost (codes "/") ≡ true) × (is_shovel_set K place name ≡ false)
Caused K (MadeQueue place queue options owner) = queue_options K place queue ≡ None
Caused K (GoneQueue place queue) = is_shared K place queue ≡ false
Caused K (Opened l s ready) = (spec : LinkSpec) × (link_of K l ≡ Some spec) × SharesSource K spec
Caused K (Took l s c) = (list_any (enters c) K ≡ true) × (is_ready K c ≡ true) × WasOpened K l s × TakesFirst K l c
Caused K (Delivered p k tag q c no_ack) = is_ready K c ≡ true
Caused K (Acked p k c) = is_held_by K p k c ≡ true
Caused K (Rejected p k c) = is_held_by K p k c ≡ true
Caused K (Requeued p k c) = is_held_by K p k c ≡ true
Caused K (Sent l s c) = (before : List Entry) × StandsAfter before (Took l s c) K
Caused K (Published x) = CausedBy K x x.by × (x.first ≡ first_copy K x.queues)
Caused K (Confirmed l s p) = (is_secured K p ≡ true) × IsPublishedFor K l s p
Caused K (Noted l s c) = WasConfirmed K l s c
Caused K (Settled l s c) = WasNoted K l s c
Caused K _ = Unit {0}

-- each of the entries after the journal K
abbrev pub EachCaused : List Entry → List Entry → Type 0
EachCaused K [] = Unit {0}
EachCaused K (e ∷ es) = Caused K e × EachCaused (K ++ e ∷ []) es

pub caused-append : (K es fs : List Entry) → EachCaused K es → EachCaused (K ++ es) fs → EachCaused K (es ++ fs)
caused-append K [] fs h k = subst (λ J. EachCaused J fs) (append-nil K) k
caused-append K (e ∷ es) fs h k =
    (h.0, caused-append (K ++ e ∷ []) es fs h.1 (subst (λ J. EachCaused J fs) (sym (append_assoc K (e ∷ []) es)) k))

pub caused-front : (K es fs : List Entry) → EachCaused K (es ++ fs) → EachCaused K es
caused-front K [] fs h = tt
caused-front K (e ∷ es) fs h = (h.0, caused-front (K ++ e ∷ []) es fs h.1)

pub caused-back : (K es fs : List Entry) → EachCaused K (es ++ fs) → EachCaused (K ++ es) fs
caused-back K [] fs h = subst (λ J. EachCaused J fs) (sym (append-nil K)) h
caused-back K (e ∷ es) fs h = subst (λ J. EachCaused J fs) (append_assoc K (e ∷ []) es) (caused-back (K ++ e ∷ []) es fs h.1)

-- an entry of a caused journal has its cause, and the journal before it is caused
pub caused-at : (J K : List Entry) (e : Entry) → EachCaused [] J → StandsAfter K e J → EachCaused [] K × Caused K e
caused-at J K e h stands =
    let whole : EachCaused [] (K ++ e ∷ stands.0) = subst (EachCaused []) stands.1 h in
    let back : EachCaused K (e ∷ stands.0) = caused-back [] K (e ∷ stands.0) whole in
    (caused-front [] K (e ∷ stands.0) whole, back.0)
