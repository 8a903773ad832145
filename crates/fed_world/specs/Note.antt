-- The link acknowledges the copy whose publication was confirmed first (RabbitMQ, Shovel: ack-mode on-confirm).
use Rattle.std.specs.Prelude.{ℕ, List}
use Rattle.fed_journal.specs.declared.entry.Entry.{Entry}
use Rattle.fed_journal.specs.declared.entry.Entry.TheVariants.{Noted}
use Rattle.fed_journal.specs.Phases.{session}
use Rattle.fed_journal.specs.Flight.{flight_confirmed}
use Rattle.fed_journal.specs.Row.{Row, with_link, while_open, one_or_empty, oldest}

unfoldable pub note_row : List Entry → List ℕ → Row
note_row J l = with_link J l (λ spec. while_open J l (one_or_empty (Noted l (session J l)) (oldest (flight_confirmed J l (session J l)))))
