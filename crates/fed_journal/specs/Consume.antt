-- A client begins and ends to consume from a queue (AMQP 0-9-1, basic.consume, basic.cancel).
use Rattle.std.specs.Prelude.{ℕ, List, [], ◌∷◌, Bool, if◌then◌else◌, Option, Some, None, is_some, Ok}
use Rattle.fed_journal.specs.declared.place.Place.{Place}
use Rattle.fed_journal.specs.declared.entry.Entry.{Entry}
use Rattle.fed_journal.specs.declared.entry.Entry.TheVariants.{Consumed, Cancelled}
use Rattle.fed_journal.specs.Consumers.{consumer}
use Rattle.fed_journal.specs.declared.reason.Reason.{Reason}
use Rattle.fed_journal.specs.declared.reason.Reason.TheVariants.{Refused}
use Rattle.fed_journal.specs.Row.{Row, at_place, queue_refusal, unless_refused, channel_of}

-- the tag is in use by this client
abbrev pub consumes : List Entry → Place → ℕ → List ℕ → Bool
consumes J p client tag = is_some (consumer J p (channel_of client) tag)

-- NOT_ALLOWED (530) for a tag in use (AMQP 0-9-1, basic.consume: consumer-tag)
abbrev pub or_tag_in_use : Option Reason → Bool → Option Reason
or_tag_in_use None used = if used then Some (Refused 530) else None
or_tag_in_use (Some reason) used = Some reason

-- why a client is refused a consumer, if it is
abbrev pub consume_refusal : List Entry → Place → ℕ → List ℕ → List ℕ → Option Reason
consume_refusal J p client q tag = or_tag_in_use (queue_refusal J p client q) (consumes J p client tag)

unfoldable pub consume_row : List Entry → Place → ℕ → List ℕ → List ℕ → Bool → ℕ → Row
consume_row J p client q tag no_ack prefetch =
    at_place J p (unless_refused (consume_refusal J p client q tag) (Ok (Consumed p (channel_of client) q tag no_ack prefetch ∷ [])))

unfoldable pub cancel_row : List Entry → Place → ℕ → List ℕ → Row
cancel_row J p client tag = at_place J p (if consumes J p client tag then Ok (Cancelled p (channel_of client) tag ∷ []) else Ok [])
