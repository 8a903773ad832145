-- What the listing says of links.
use Rattle.std.specs.Prelude.{ℕ, List, ◌++◌, length, codes}
use Rattle.std.specs.Fmt.{decimal}
use Rattle.fed_journal.specs.declared.entry.Entry.{Entry}
use Rattle.fed_journal.specs.declared.link.LinkSpec.{LinkSpec}
use Rattle.fed_journal.specs.declared.link.Phase.{Phase}
use Rattle.fed_journal.specs.declared.link.Phase.TheVariants.{Gone, Open}
use Rattle.fed_journal.specs.declared.link.StartState.{StartState}
use Rattle.fed_journal.specs.declared.link.StartState.TheVariants.{Start, NoBroker, NameTooLong}
use Rattle.fed_journal.specs.Flight.{flight_took, flight_sent, flight_published, flight_confirmed, flight_noted}
use Rattle.fed_journal.specs.Phases.{phase, session}
use Rattle.fed_status.specs.declared.link_line.FlightCounts.{FlightCounts}

-- how much the last session has in each stage, where it is open; a shovel tells no bindings (RabbitMQ, Shovel: how it works)
abbrev pub counts_in : List Entry → List ℕ → ℕ → Phase → FlightCounts
counts_in J l s Gone = record { taken = 0; sent = 0; waiting = 0; confirmed = 0; noted = 0; told = 0 }
counts_in J l s Open = record {
  taken = length (flight_took J l s);
  sent = length (flight_sent J l s);
  waiting = length (flight_published J l s);
  confirmed = length (flight_confirmed J l s);
  noted = length (flight_noted J l s);
  told = 0;
}

-- the stages of the link's last session
unfoldable pub flight_counts : List Entry → List ℕ → FlightCounts
flight_counts J l = counts_in J l (session J l) (phase J l)

-- whether both ends of the last session live
abbrev pub phase_word : Phase → List ℕ
phase_word Gone = codes "gone"
phase_word Open = codes "open"

abbrev pub number_word : ℕ → List ℕ
number_word n = codes " " ++ decimal n

-- the stages in the order in which a message passes them
unfoldable pub counts_words : FlightCounts → List ℕ
counts_words n =
    number_word n.taken ++ number_word n.sent ++ number_word n.waiting
    ++ number_word n.confirmed ++ number_word n.noted ++ number_word n.told

-- the state, the number of the last session, 0 before the first, and the stages
unfoldable pub session_words : List Entry → List ℕ → List ℕ
session_words J l =
    phase_word (phase J l) ++ number_word (session J l) ++ counts_words (flight_counts J l)

-- a link that cannot start says why
abbrev pub state_words : List Entry → List ℕ → StartState → List ℕ
state_words J l Start = session_words J l
state_words J l NoBroker = codes "no-broker"
state_words J l NameTooLong = codes "name-too-long"

-- a link's name, which is made of words, and its state
unfoldable pub link_line : List Entry → LinkSpec → List ℕ
link_line J spec = codes "link " ++ spec.name ++ codes " " ++ state_words J spec.name spec.start ++ codes "\n"
