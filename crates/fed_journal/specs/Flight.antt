-- The copies and publications of a link's last session by their stage, each list in the order of the entries named first.
use Rattle.std.specs.Prelude.{ℕ, List, Bool, false, ◌&&◌, not, if◌then◌else◌, ◌==◌, Option, Some, None, filter, filter_map}
use Rattle.std.specs.List.{list_any}
use Rattle.fed_journal.specs.declared.entry.Publisher.{Publisher}
use Rattle.fed_journal.specs.declared.entry.Publisher.TheVariants.{Client, Link}
use Rattle.fed_journal.specs.declared.entry.Publication.{Publication}
use Rattle.fed_journal.specs.declared.entry.Entry.{Entry}
use Rattle.fed_journal.specs.declared.entry.Entry.TheVariants.{Took, Sent, Published, Confirmed, Noted, Settled}
use Rattle.fed_journal.specs.Names.{same_text}
use Rattle.fed_journal.specs.Phases.{session}
use Rattle.fed_journal.specs.Copies.{find_publication}

-- n is what the entry gives
abbrev pub is_number : ℕ → Option ℕ → Bool
is_number n None = false
is_number n (Some m) = m == n

-- whether f gives n of an entry
abbrev pub has : (Entry → Option ℕ) → ℕ → List Entry → Bool
has f n J = list_any (λ e. is_number n (f e)) J

abbrev pub of_session : List ℕ → ℕ → List ℕ → ℕ → ℕ → Option ℕ
of_session l s link session n = if same_text link l && session == s then Some n else None

-- the copy that the session took by this entry (AMQP 0-9-1, basic.deliver)
abbrev pub taken_by : List ℕ → ℕ → Entry → Option ℕ
taken_by l s (Took link session c) = of_session l s link session c
taken_by l s _ = None

-- the copy whose message it sent on (AMQP 0-9-1, basic.publish)
abbrev pub sent_by : List ℕ → ℕ → Entry → Option ℕ
sent_by l s (Sent link session c) = of_session l s link session c
sent_by l s _ = None

abbrev pub copy_published_by : List ℕ → ℕ → Publisher → Option ℕ
copy_published_by l s (Client client) = None
copy_published_by l s (Link link session c) = of_session l s link session c

-- the copy from which the target published for it
abbrev pub published_from : List ℕ → ℕ → Entry → Option ℕ
published_from l s (Published x) = copy_published_by l s x.by
published_from l s _ = None

abbrev pub number_if : ℕ → Option ℕ → Option ℕ
number_if n None = None
number_if n (Some c) = Some n

-- the publication that the target made for it
abbrev pub published_by : List ℕ → ℕ → Entry → Option ℕ
published_by l s (Published x) = number_if x.number (copy_published_by l s x.by)
published_by l s _ = None

-- the publication that was confirmed to it (RabbitMQ, Publisher Confirms)
abbrev pub confirmed_to : List ℕ → ℕ → Entry → Option ℕ
confirmed_to l s (Confirmed link session p) = of_session l s link session p
confirmed_to l s _ = None

-- the copy that it acknowledged (AMQP 0-9-1, basic.ack)
abbrev pub noted_by : List ℕ → ℕ → Entry → Option ℕ
noted_by l s (Noted link session c) = of_session l s link session c
noted_by l s _ = None

-- the copy that its source removed
abbrev pub settled_for : List ℕ → ℕ → Entry → Option ℕ
settled_for l s (Settled link session c) = of_session l s link session c
settled_for l s _ = None

abbrev pub copy_of_publication : List ℕ → ℕ → Option Publication → Option ℕ
copy_of_publication l s None = None
copy_of_publication l s (Some x) = copy_published_by l s x.by

abbrev pub copy_from : List Entry → List ℕ → ℕ → Option ℕ → Option ℕ
copy_from J l s None = None
copy_from J l s (Some p) = copy_of_publication l s (find_publication p J)

-- the copy whose publication was confirmed by this entry
abbrev pub confirmed_copy : List Entry → List ℕ → ℕ → Entry → Option ℕ
confirmed_copy J l s e = copy_from J l s (confirmed_to l s e)

-- taken and not removed at the source: what the session holds
unfoldable pub flight_held : List Entry → List ℕ → ℕ → List ℕ
flight_held J l s = filter (λ c. not (has (settled_for l s) c J)) (filter_map (taken_by l s) J)

-- taken and not sent on
unfoldable pub flight_took : List Entry → List ℕ → ℕ → List ℕ
flight_took J l s = filter (λ c. not (has (sent_by l s) c J)) (filter_map (taken_by l s) J)

-- sent on and not published
unfoldable pub flight_sent : List Entry → List ℕ → ℕ → List ℕ
flight_sent J l s = filter (λ c. not (has (published_from l s) c J)) (filter_map (sent_by l s) J)

-- published and not confirmed: publications
unfoldable pub flight_published : List Entry → List ℕ → ℕ → List ℕ
flight_published J l s = filter (λ p. not (has (confirmed_to l s) p J)) (filter_map (published_by l s) J)

-- confirmed and not acknowledged by the link: what it acknowledges next
unfoldable pub flight_confirmed : List Entry → List ℕ → ℕ → List ℕ
flight_confirmed J l s = filter (λ c. not (has (noted_by l s) c J)) (filter_map (confirmed_copy J l s) J)

-- acknowledged and not removed at the source
unfoldable pub flight_noted : List Entry → List ℕ → ℕ → List ℕ
flight_noted J l s = filter (λ c. not (has (settled_for l s) c J)) (filter_map (noted_by l s) J)
