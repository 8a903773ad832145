-- A message is published (AMQP 0-9-1, basic.publish).
use Rattle.std.specs.Prelude.{ℕ, ◌+◌, List, [], ◌∷◌, if◌then◌else◌, Option, Some, None, Ok}
use Rattle.amqp_props.specs.declared.message.Message.{Message}
use Rattle.fed_journal.specs.declared.place.Place.{Place}
use Rattle.client_rules.specs.declared.client.ExchangeShape.{ExchangeShape}
use Rattle.fed_journal.specs.declared.entry.Publisher.{Publisher}
use Rattle.fed_journal.specs.declared.entry.Publisher.TheVariants.{Client}
use Rattle.fed_journal.specs.declared.entry.Publication.{Publication}
use Rattle.fed_journal.specs.declared.entry.Entry.{Entry}
use Rattle.fed_journal.specs.declared.entry.Entry.TheVariants.{Published}
use Rattle.fed_journal.specs.Configuration.{exchange_shape}
use Rattle.fed_journal.specs.Copies.{publication_count, copy_count}
use Rattle.fed_journal.specs.Names.{same_text}
use Rattle.client_rules.specs.Names.{is_reserved}
use Rattle.fed_journal.specs.Routes.{routes}
use Rattle.fed_journal.specs.declared.reason.Reason.{Reason}
use Rattle.fed_journal.specs.declared.reason.Reason.TheVariants.{Refused}
use Rattle.fed_journal.specs.Row.{Row, at_place, unless_refused, channel_of}

-- publications and copies are numbered from 1 over the whole run
abbrev pub first_copy : List Entry → List (List ℕ) → ℕ
first_copy J [] = 0
first_copy J (q ∷ qs) = copy_count J + 1

abbrev pub publication : List Entry → Place → Publisher → Message → List (List ℕ) → Publication
publication J p by m queues =
    record { place = p; number = publication_count J + 1; by = by; message = m; limit = 0; first = first_copy J queues; queues = queues }

-- each queue that the message reaches gets a copy
abbrev pub published : List Entry → Place → Publisher → Message → Entry
published J p by m = Published (publication J p by m (routes J p m))

-- NOT_FOUND (404) for an exchange that isn't there, ACCESS_REFUSED (403) for an internal one (AMQP 0-9-1, basic.publish)
abbrev pub shape_refusal : Option ExchangeShape → Option Reason
shape_refusal None = Some (Refused 404)
shape_refusal (Some shape) = if shape.internal then Some (Refused 403) else None

-- the default exchange is always there; ACCESS_REFUSED (403) for what belongs to links
abbrev pub publish_refusal : List Entry → Place → List ℕ → Option Reason
publish_refusal J p x =
    if is_reserved x then Some (Refused 403) else
    if same_text x [] then None else shape_refusal (exchange_shape J p x)

unfoldable pub publish_row : List Entry → Place → ℕ → Message → Row
publish_row J p client m =
    at_place J p (unless_refused (publish_refusal J p m.exchange) (Ok (published J p (Client (channel_of client)) m ∷ [])))
