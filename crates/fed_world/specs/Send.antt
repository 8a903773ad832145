-- The link sends on the message of the copy that it took first (AMQP 0-9-1, basic.publish).
use Rattle.std.specs.Prelude.{ℕ, List}
use Rattle.fed_journal.specs.declared.entry.Entry.{Entry}
use Rattle.fed_journal.specs.declared.entry.Entry.TheVariants.{Sent}
use Rattle.fed_journal.specs.Phases.{session}
use Rattle.fed_journal.specs.Flight.{flight_took}
use Rattle.fed_journal.specs.Row.{Row, with_link, while_open, one_or_empty, oldest}

unfoldable pub send_row : List Entry → List ℕ → Row
send_row J l = with_link J l (λ spec. while_open J l (one_or_empty (Sent l (session J l)) (oldest (flight_took J l (session J l)))))
