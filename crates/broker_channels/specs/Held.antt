-- What a channel counts beside its deliveries: how many each consumer has unacknowledged.
use Rattle.std.specs.Prelude.{◌≡◌, ◌==◌, ℕ, ◌+◌, ◌-◌, ◌≤◌, Bool, false, if◌then◌else◌, List, ◌++◌, length, take, drop, map, filter, Option, Some, None, count_by}
use Rattle.std.specs.List.{list_any}
use Rattle.broker_channels.specs.declared.delivery.Consumer.{Consumer}
use Rattle.broker_channels.specs.declared.delivery.Delivery.{Delivery}
use Rattle.broker_channels.specs.declared.shares.Share.{Share}
use Rattle.broker_channels.specs.Tags.{is_to, is_settled, unsettled}

-- The consumers of a channel in the order in which they were begun (AMQP 0-9-1, basic.consume).
abbrev pub consumers_of : List (ℕ × Share) → List Consumer
consumers_of shares = map (λ (entry : ℕ × Share). record { number = entry.0; window = entry.1.window }) shares

-- The count of a consumer is that of the unacknowledged deliveries in its window (RabbitMQ, Consumer Prefetch).
abbrev pub IsCounted : List Delivery → ℕ × Share → Type 0
IsCounted deliveries entry = entry.1.held ≡ count_by (is_to entry.0) deliveries

-- Who isn't a consumer of the channel has nothing unacknowledged (AMQP 0-9-1, basic.deliver: consumer-tag).
abbrev pub HasKnown : List Consumer → List Delivery → Type 0
HasKnown consumers deliveries = (number : ℕ) → list_any (λ (consumer : Consumer). consumer.number == number) consumers ≡ false → count_by (is_to number) deliveries ≡ 0

-- One more delivery to the consumer; one to basic.get has none (RabbitMQ, Consumer Prefetch).
abbrev pub with_more : Option ℕ → ℕ × Share → ℕ × Share
with_more None entry = entry
with_more (Some number) entry = if number == entry.0 then (entry.0, record entry.1 { held = entry.1.held + 1 }) else entry

-- One delivery less to the consumer (RabbitMQ, Consumer Prefetch).
abbrev pub with_fewer : Option ℕ → ℕ × Share → ℕ × Share
with_fewer None entry = entry
with_fewer (Some number) entry = if number == entry.0 then (entry.0, record entry.1 { held = entry.1.held - 1 }) else entry

-- An acknowledgement settles these deliveries, which stand next to each other (AMQP 0-9-1, basic.ack: multiple).
pub record IsSpan (tag : ℕ) (multiple : Bool) (deliveries : List Delivery) (start count : ℕ) : Type 0 where
  pub within : start + count ≤ length deliveries
  pub settled : filter (is_settled tag multiple) deliveries ≡ take count (drop start deliveries)
  pub stays : unsettled tag multiple deliveries ≡ take start deliveries ++ drop count (drop start deliveries)
