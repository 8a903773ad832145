-- A broker stores what it holds (RabbitMQ, Publisher Confirms: when messages are confirmed).
use Rattle.std.specs.Prelude.{ℕ, List, [], ◌∷◌, if◌then◌else◌, Ok, Err}
use Rattle.fed_journal.specs.declared.entry.Entry.{Entry}
use Rattle.fed_journal.specs.declared.entry.Entry.TheVariants.{Flushed}
use Rattle.fed_journal.specs.Configuration.{is_broker}
use Rattle.fed_journal.specs.declared.reason.Reason.TheVariants.{NoPlace}
use Rattle.fed_journal.specs.Row.{Row}

unfoldable pub flush_row : List Entry → List ℕ → Row
flush_row J b = if is_broker J b then Ok (Flushed b ∷ []) else Err NoPlace
