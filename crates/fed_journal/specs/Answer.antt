-- A client answers for a copy that it holds (AMQP 0-9-1, basic.ack, basic.reject).
use Rattle.std.specs.Prelude.{ℕ, List, [], ◌∷◌, if◌then◌else◌, Option, Some, None, Ok}
use Rattle.fed_journal.specs.declared.place.Place.{Place}
use Rattle.fed_journal.specs.declared.entry.Entry.{Entry}
use Rattle.fed_journal.specs.declared.entry.Entry.TheVariants.{Acked, Rejected, Requeued}
use Rattle.fed_journal.specs.Configuration.{is_place}
use Rattle.fed_journal.specs.Holds.{is_held_by}
use Rattle.fed_journal.specs.declared.reason.Reason.{Reason}
use Rattle.fed_journal.specs.declared.reason.Reason.TheVariants.{NoPlace, NotHeld}
use Rattle.fed_journal.specs.Row.{Row, unless_refused, channel_of}

-- the place isn't one of the run, or the client doesn't hold the copy
abbrev pub answer_refusal : List Entry → Place → ℕ → ℕ → Option Reason
answer_refusal J p client c = if is_place J p then if is_held_by J p (channel_of client) c then None else Some NotHeld else Some NoPlace

-- what happens to the copy otherwise
abbrev pub while_held : List Entry → Place → ℕ → ℕ → Entry → Row
while_held J p client c entry = unless_refused (answer_refusal J p client c) (Ok (entry ∷ []))

-- it is consumed
unfoldable pub ack_row : List Entry → Place → ℕ → ℕ → Row
ack_row J p client c = while_held J p client c (Acked p (channel_of client) c)

-- it is dropped (basic.reject without requeue)
unfoldable pub reject_row : List Entry → Place → ℕ → ℕ → Row
reject_row J p client c = while_held J p client c (Rejected p (channel_of client) c)

-- it goes back to its place in the queue (basic.reject with requeue; RabbitMQ, Consumer Acknowledgements: requeueing)
unfoldable pub requeue_row : List Entry → Place → ℕ → ℕ → Row
requeue_row J p client c = while_held J p client c (Requeued p (channel_of client) c)
