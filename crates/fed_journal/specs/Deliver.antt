-- A queue hands a copy to a consumer (AMQP 0-9-1, basic.deliver).
use Rattle.std.specs.Prelude.{ℕ, List, Bool, ◌&&◌, nat_le, nat_lt, if◌then◌else◌, Option, Some, None, Err}
use Rattle.fed_journal.specs.declared.place.Place.{Place}
use Rattle.fed_journal.specs.declared.entry.Entry.{Entry}
use Rattle.fed_journal.specs.declared.entry.Entry.TheVariants.{Delivered}
use Rattle.fed_journal.specs.Holds.{first_ready}
use Rattle.fed_journal.specs.Consumers.{Consumer, consumer, held_count}
use Rattle.fed_journal.specs.declared.reason.Reason.TheVariants.{NoConsumer, Busy}
use Rattle.fed_journal.specs.Row.{Row, at_place, channel_of, one_or_empty}

abbrev pub delivered : Place → ℕ → List ℕ → Consumer → ℕ → Entry
delivered p client tag consumer c = Delivered p (channel_of client) tag consumer.queue c consumer.no_ack

-- as many copies as it asked for are unacknowledged; 0 is no limit (RabbitMQ, Consumer Prefetch)
abbrev pub is_busy : List Entry → Place → ℕ → List ℕ → Consumer → Bool
is_busy J p client tag consumer = nat_lt 0 consumer.prefetch && nat_le consumer.prefetch (held_count J p (channel_of client) tag consumer.queue)

abbrev pub deliver_to : List Entry → Place → ℕ → List ℕ → Option Consumer → Row
deliver_to J p client tag None = Err NoConsumer
deliver_to J p client tag (Some consumer) =
    if is_busy J p client tag consumer then Err Busy
    else one_or_empty (delivered p client tag consumer) (first_ready J p consumer.queue)

unfoldable pub deliver_row : List Entry → Place → ℕ → List ℕ → Row
deliver_row J p client tag = at_place J p (deliver_to J p client tag (consumer J p (channel_of client) tag))
