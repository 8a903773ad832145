-- The source removes the copy that the link acknowledged first (AMQP 0-9-1, basic.ack).
use Rattle.std.specs.Prelude.{ℕ, List}
use Rattle.fed_journal.specs.declared.entry.Entry.{Entry}
use Rattle.fed_journal.specs.declared.entry.Entry.TheVariants.{Settled}
use Rattle.fed_journal.specs.Phases.{session}
use Rattle.fed_journal.specs.Flight.{flight_noted}
use Rattle.fed_journal.specs.Row.{Row, with_link, while_open, one_or_empty, oldest}

unfoldable pub settle_row : List Entry → List ℕ → Row
settle_row J l = with_link J l (λ spec. while_open J l (one_or_empty (Settled l (session J l)) (oldest (flight_noted J l (session J l)))))
