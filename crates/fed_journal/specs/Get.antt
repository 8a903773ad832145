-- A client asks for a copy (AMQP 0-9-1, basic.get).
use Rattle.std.specs.Prelude.{ℕ, List, [], Bool}
use Rattle.fed_journal.specs.declared.place.Place.{Place}
use Rattle.fed_journal.specs.declared.entry.Entry.{Entry}
use Rattle.fed_journal.specs.declared.entry.Entry.TheVariants.{Delivered}
use Rattle.fed_journal.specs.Holds.{first_ready}
use Rattle.fed_journal.specs.Row.{Row, at_place, with_queue, channel_of, one_or_empty}

-- the queue hands out its first ready copy under no consumer's tag
abbrev pub got : Place → ℕ → List ℕ → Bool → ℕ → Entry
got p client q no_ack c = Delivered p (channel_of client) [] q c no_ack

unfoldable pub get_row : List Entry → Place → ℕ → List ℕ → Bool → Row
get_row J p client q no_ack = at_place J p (with_queue J p client q (one_or_empty (got p client q no_ack) (first_ready J p q)))
