-- The target publishes the message that was sent first (AMQP 0-9-1, basic.publish).
use Rattle.std.specs.Prelude.{ℕ, List, [], ◌∷◌, Option, Some, None, Ok, Err}
use Rattle.fed_journal.specs.declared.place.Place.{Place}
use Rattle.fed_journal.specs.declared.link.LinkSpec.{LinkSpec}
use Rattle.fed_journal.specs.declared.entry.Publisher.TheVariants.{Link}
use Rattle.fed_journal.specs.declared.entry.Publication.{Publication}
use Rattle.fed_journal.specs.declared.entry.Entry.{Entry}
use Rattle.fed_journal.specs.Phases.{session}
use Rattle.fed_journal.specs.Flight.{flight_sent}
use Rattle.fed_journal.specs.Copies.{publication_of}
use Rattle.fed_journal.specs.Outgoing.{outgoing}
use Rattle.fed_journal.specs.declared.reason.Reason.TheVariants.{Empty}
use Rattle.fed_journal.specs.Publish.{published}
use Rattle.fed_journal.specs.Row.{Row, with_link, while_open, oldest}

-- what the link publishes at the target for a copy of that publication
abbrev pub accepted : List Entry → LinkSpec → ℕ → Option Place → Option Publication → Row
accepted J spec c (Some target) (Some x) = Ok (published J target (Link spec.name (session J spec.name) c) (outgoing spec x.message) ∷ [])
accepted J spec c (Some target) None = Err Empty
accepted J spec c None x = Err Empty

abbrev pub accept_first : List Entry → LinkSpec → Option ℕ → Row
accept_first J spec None = Err Empty
accept_first J spec (Some c) = accepted J spec c spec.target (publication_of c J)

unfoldable pub accept_row : List Entry → List ℕ → Row
accept_row J l = with_link J l (λ spec. while_open J l (accept_first J spec (oldest (flight_sent J l (session J l)))))
