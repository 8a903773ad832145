-- A client empties a queue of its ready copies (AMQP 0-9-1, queue.purge).
use Rattle.std.specs.Prelude.{ℕ, List, [], ◌∷◌, Ok}
use Rattle.fed_journal.specs.declared.place.Place.{Place}
use Rattle.fed_journal.specs.declared.entry.Entry.{Entry}
use Rattle.fed_journal.specs.declared.entry.Entry.TheVariants.{Purged}
use Rattle.fed_journal.specs.Row.{Row, at_place, with_queue}

unfoldable pub purge_row : List Entry → Place → ℕ → List ℕ → Row
purge_row J p client q = at_place J p (with_queue J p client q (Ok (Purged p q ∷ [])))
