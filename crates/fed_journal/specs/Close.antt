-- A client's connection ends (AMQP 0-9-1, connection.close).
use Rattle.std.specs.Prelude.{ℕ, List, ◌∷◌, Ok, map}
use Rattle.fed_journal.specs.declared.place.Place.{Place}
use Rattle.fed_journal.specs.declared.entry.Entry.{Entry}
use Rattle.fed_journal.specs.declared.entry.Entry.TheVariants.{Closed, GoneQueue}
use Rattle.fed_journal.specs.Configuration.{queues_owned}
use Rattle.fed_journal.specs.Row.{Row, at_place}

-- the queues that it had to itself go with it, in the order of their making (AMQP 0-9-1, queue.declare: exclusive)
unfoldable pub close_row : List Entry → Place → ℕ → Row
close_row J p client = at_place J p (Ok (Closed p client ∷ map (GoneQueue p) (queues_owned J p client)))
