-- The virtual hosts of a run's brokers.
use Rattle.std.specs.Prelude.{◌≡◌, ◌<◌, ℕ, None, if◌then◌else◌, List, [], ◌∷◌, ◌++◌, All, map, codes}
use Rattle.std.specs.List.{list_any}
use Rattle.fed_journal.specs.declared.place.Place.{Place}
use Rattle.fed_journal.specs.declared.entry.Publication.{Publication}
use Rattle.fed_journal.specs.declared.entry.Entry.{Entry}
use Rattle.fed_journal.specs.declared.entry.Entry.TheVariants.{Published}
use Rattle.fed_journal.specs.Copies.{IsFitting, copy_count, publication_of}
use Rattle.fed_journal.specs.Names.{same_text}
use Rattle.fed_journal.specs.Configuration.{is_broker}
use Rattle.broker_store.specs.Confirms.{AreBelow}
use Rattle.mini_broker.specs.Record.{with_entered}
use Rattle.mini_broker.specs.Vhosts.{bare}
use Rattle.broker_view.specs.declared.host.Host.{Host}
use Rattle.broker_view.specs.Confirms.{HasConfirms, HasPublications}
use Rattle.broker_view.specs.Recorded.{recorded}
use Rattle.broker_view.specs.Suits.{Suits, EachSuits}
use Rattle.broker_view.specs.Told.{told}
use Rattle.broker_view.specs.View.{AreDistinct, IsView}

-- a broker has the virtual host `/` (RabbitMQ, Virtual Hosts)
abbrev pub place_of : List ℕ → Place
place_of broker = record { broker = broker; vhost = codes "/" }

-- what happened there, and what it changed in the confirms that are owed
abbrev pub recorded_at : Entry → Host → Host
recorded_at e host = record host {
  vhost = recorded (place_of host.broker) e host.vhost;
  confirms = told (place_of host.broker) e host.vhost host.confirms;
}

-- the virtual host follows the entry
abbrev pub followed_at : Entry → Host → Host
followed_at e host = record host { vhost = recorded (place_of host.broker) e host.vhost }

-- the confirms that the host owes follow the entry
abbrev pub told_at : Entry → Host → Host
told_at e host = record host { confirms = told (place_of host.broker) e host.vhost host.confirms }

-- the publication's copies enter the host's queues
abbrev pub entered_at : Publication → Host → Host
entered_at x host = record host { vhost = with_entered x.queues x.first x.message host.vhost }

-- a bare broker stands beside the others, once (AMQP 0-9-1, 3.1 "The AMQ model")
abbrev pub with_host : List ℕ → List Host → List Host
with_host b hosts = if list_any (λ host. same_text host.broker b) hosts then hosts else hosts ++ record { broker = b; vhost = bare; confirms = [] } ∷ []

-- the brokers of the journal, each once, and what stands at each
pub record AreViews (J : List Entry) (hosts : List Host) : Type 0 where
  pub brokers : (b : List ℕ) → list_any (λ host. same_text host.broker b) hosts ≡ is_broker J b
  pub distinct : AreDistinct (map (λ host. host.broker) hosts)
  pub views : All (λ host. IsView J (place_of host.broker) host.vhost) hosts
  pub confirms : All (λ host. HasConfirms J (place_of host.broker) host.confirms) hosts
  pub published : HasPublications J
  -- no copy of the run has a number beyond their count
  pub fresh : (c : ℕ) → copy_count J < c → publication_of c J ≡ None

-- some journal suits the entry and leads to the host
pub record IsRecordable (host : Host) (e : Entry) : Type 0 where
  pub journal : List Entry
  pub view : IsView journal (place_of host.broker) host.vhost
  pub suits : Suits journal e

-- a publication's number is above all that the host owes confirms of (RabbitMQ, Publisher Confirms: ordering)
abbrev pub IsTellable : Host → Entry → Type 0
IsTellable host (Published x) = AreBelow x.number host.confirms
IsTellable host _ = Unit {0}

-- some journal leads to the hosts, and the entry suits it
pub record IsNext (hosts : List Host) (e : Entry) : Type 0 where
  pub journal : List Entry
  pub views : AreViews journal hosts
  pub suits : Suits journal e

-- from each journal that leads to the hosts, its entry leads on to those
abbrev pub LeadsOn : List Host → Entry → List Host → Type 0
LeadsOn hosts e now = (J : List Entry) → AreViews J hosts → Suits J e → AreViews (J ++ e ∷ []) now

-- the journal leads to the hosts, and these entries suit it
pub record Leads (J es : List Entry) (hosts : List Host) : Type 0 where
  pub views : AreViews J hosts
  pub suits : EachSuits J es
  pub fits : All IsFitting es
