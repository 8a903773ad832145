-- Who consumes from a queue.
use Rattle.std.specs.Prelude.{ℕ, List, [], ◌∷◌, ◌++◌, Bool, false, ◌&&◌, fold, if◌then◌else◌, Option, Some, None, count_by, ◌==◌}
use Rattle.std.specs.List.{list_any}
use Rattle.fed_journal.specs.declared.place.Place.{Place}
use Rattle.client_rules.specs.declared.client.Client.{Client}
use Rattle.fed_journal.specs.declared.entry.Entry.{Entry}
use Rattle.fed_journal.specs.declared.entry.Entry.TheVariants.{GoneQueue, Consumed, Cancelled, Delivered, Closed}
use Rattle.fed_journal.specs.Names.{same_text, same_place}
use Rattle.fed_journal.specs.Holders.{Holder, same_client, is_consumer}
use Rattle.fed_journal.specs.Copies.{entered}
use Rattle.fed_journal.specs.Holds.{holder}

-- what a client asked for when it began to consume (AMQP 0-9-1, basic.consume, basic.qos)
pub record Consumer : Type 0 where
  pub queue : List ℕ
  pub no_ack : Bool
  pub prefetch : ℕ

abbrev pub is_same : Place → Client → List ℕ → Place → Client → List ℕ → Bool
is_same p k t place client tag = same_place place p && same_client client k && same_text tag t

abbrev pub is_from : List ℕ → Option Consumer → Bool
is_from q None = false
is_from q (Some consumer) = same_text consumer.queue q

-- a consumer lives until it is cancelled, its connection ends or its queue is gone (AMQP 0-9-1, basic.cancel, queue.delete)
abbrev pub consumer_step : Place → Client → List ℕ → Option Consumer → Entry → Option Consumer
consumer_step p k t was (Consumed place client queue tag no_ack prefetch) =
    if is_same p k t place client tag then Some (record { queue = queue; no_ack = no_ack; prefetch = prefetch }) else was
consumer_step p k t was (Cancelled place client tag) = if is_same p k t place client tag then None else was
consumer_step p k t was (Closed place connection) = if same_place place p && k.connection == connection then None else was
consumer_step p k t was (GoneQueue place queue) = if same_place place p && is_from queue was then None else was
consumer_step p k t was _ = was

-- the client's consumer of the tag
unfoldable pub consumer : List Entry → Place → Client → List ℕ → Option Consumer
consumer J p k t = fold (consumer_step p k t) None J

abbrev pub handed_step : Place → Client → List ℕ → List ℕ → Entry → List ℕ
handed_step p k t was (Consumed place client queue tag no_ack prefetch) = if is_same p k t place client tag then [] else was
handed_step p k t was (Delivered place client tag queue copy no_ack) = if is_same p k t place client tag then was ++ copy ∷ [] else was
handed_step p k t was _ = was

-- the copies handed to the client under the tag since it last began to consume under it
unfoldable pub handed_since : List Entry → Place → Client → List ℕ → List ℕ
handed_since J p k t = fold (handed_step p k t) [] J

abbrev pub is_consumer_of : Place → Client → List ℕ → Option Holder → Bool
is_consumer_of p k t None = false
is_consumer_of p k t (Some holder) = is_consumer p k t holder

-- the copy is unacknowledged at the consumer
abbrev pub is_held_for : List Entry → Place → Client → List ℕ → ℕ → Bool
is_held_for J p k t c = is_consumer_of p k t (holder J c) && list_any (λ n. n == c) (handed_since J p k t)

-- how many copies of the queue are (RabbitMQ, Consumer Prefetch)
unfoldable pub held_count : List Entry → Place → Client → List ℕ → List ℕ → ℕ
held_count J p k t q = count_by (is_held_for J p k t) (entered J p q)
