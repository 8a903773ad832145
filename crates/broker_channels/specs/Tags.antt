use Rattle.std.specs.Prelude.{◌==◌, ℕ, ◌+◌, ◌<◌, ◌&&◌, ◌||◌, Bool, true, false, not, List, [], ◌∷◌, ◌++◌, Option, Some, None, All, map, filter, find, count_by, is_some, nat_le}
use Rattle.std.specs.List.{list_any}
use Rattle.std.specs.Option.{option_map_or}
use Rattle.broker_channels.specs.declared.delivery.Consumer.{Consumer}
use Rattle.broker_channels.specs.declared.delivery.Delivery.{Delivery}

-- What a channel keeps of its deliveries (AMQP 0-9-1, Channels; RabbitMQ, Confirms: Delivery Tags).
pub record Deliveries : Type 0 where
  -- the last delivery tag that was given, 0 where none was
  pub last_tag : ℕ
  -- the window of the consumers to come, and the channel's window; 0 is no limit
  pub prefetch : ℕ
  pub window : ℕ
  pub consumers : List Consumer
  -- by rising delivery tag
  pub unacknowledged : List Delivery
  -- room was made for the next call of `consumer`, `deliver` or `got`
  pub reserved : Bool

-- A channel that was just opened: no tag, no limit and no consumer (AMQP 0-9-1, channel.open).
abbrev pub opened : Deliveries
opened = record { last_tag = 0; prefetch = 0; window = 0; consumers = []; unacknowledged = []; reserved = false }

-- Delivery tags rise with each delivery of the channel (RabbitMQ, Confirms: Delivery Identifiers).
abbrev pub Rises : List Delivery → Type 0
Rises [] = Unit {0}
Rises (delivery ∷ deliveries) = All (λ later. delivery.tag < later.tag) deliveries × Rises deliveries

-- A count without `global` is the window of each consumer to come, and with it the channel's window
-- (RabbitMQ, Consumer Prefetch: the meaning of `global`).
abbrev pub with_qos : ℕ → Bool → Deliveries → Deliveries
with_qos count false channel = record channel { prefetch = count }
with_qos count true channel = record channel { window = count }

-- The consumer was begun on this channel (AMQP 0-9-1, basic.consume).
abbrev pub is_known : ℕ → Deliveries → Bool
is_known number channel = list_any (λ (consumer : Consumer). consumer.number == number) channel.consumers

-- A new consumer has the window that basic.qos set for it (RabbitMQ, Consumer Prefetch).
abbrev pub with_consumer : ℕ → Deliveries → Deliveries
with_consumer number channel =
    record channel { consumers = channel.consumers ++ (record { number = number; window = channel.prefetch }) ∷ []; reserved = false }

-- One more delivery, with the next tag; one to basic.get has no consumer (RabbitMQ, Confirms: Delivery Tags).
abbrev pub with_delivery : ℕ → Option ℕ → Deliveries → Deliveries
with_delivery copy consumer channel =
    record channel {
      last_tag = channel.last_tag + 1;
      unacknowledged = channel.unacknowledged ++ (record { tag = channel.last_tag + 1; copy = copy; consumer = consumer }) ∷ [];
      reserved = false;
    }

-- The consumer of a delivery is this one; one to basic.get has none (AMQP 0-9-1, basic.deliver: consumer-tag).
abbrev pub is_of : ℕ → Option ℕ → Bool
is_of number None = false
is_of number (Some other) = other == number

-- A delivery counts in the window of its consumer (RabbitMQ, Consumer Prefetch).
abbrev pub is_to : ℕ → Delivery → Bool
is_to number delivery = is_of number delivery.consumer

-- A delivery to any consumer counts in the channel's window (RabbitMQ, Consumer Prefetch).
abbrev pub is_pushed : Delivery → Bool
is_pushed delivery = is_some delivery.consumer

-- A window is full with as many unacknowledged deliveries; 0 is no limit (AMQP 0-9-1, basic.qos: prefetch-count).
abbrev pub is_full : ℕ → ℕ → Bool
is_full window count = not (window == 0) && nat_le window count

-- The window of a consumer (RabbitMQ, Consumer Prefetch).
abbrev pub window_of : ℕ → List Consumer → ℕ
window_of number consumers =
    option_map_or (λ (consumer : Consumer). consumer.window) (find (λ (consumer : Consumer). consumer.number == number) consumers) 0

-- Neither the consumer's window nor the channel's is full (RabbitMQ, Consumer Prefetch: both limits are enforced).
abbrev pub has_room : ℕ → Deliveries → Bool
has_room number channel =
    not (is_full (window_of number channel.consumers) (count_by (is_to number) channel.unacknowledged))
    && not (is_full channel.window (count_by is_pushed channel.unacknowledged))

-- The tag names an unacknowledged delivery, or is 0 with `multiple`, which names all of them (AMQP 0-9-1, basic.ack: delivery-tag).
abbrev pub is_outstanding : ℕ → Bool → List Delivery → Bool
is_outstanding tag multiple deliveries =
    ((tag == 0) && multiple) || list_any (λ (delivery : Delivery). delivery.tag == tag) deliveries

-- What one acknowledgement settles: that delivery, or with `multiple` all up to it, and all for 0 (AMQP 0-9-1, basic.ack: multiple).
abbrev pub is_settled : ℕ → Bool → Delivery → Bool
is_settled tag false delivery = delivery.tag == tag
is_settled tag true delivery = (tag == 0) || nat_le delivery.tag tag

-- The copies that one acknowledgement settles, by rising tag (AMQP 0-9-1, basic.ack).
abbrev pub settled_copies : ℕ → Bool → List Delivery → List ℕ
settled_copies tag multiple deliveries = map (λ (delivery : Delivery). delivery.copy) (filter (is_settled tag multiple) deliveries)

-- What stays unacknowledged (AMQP 0-9-1, basic.ack).
abbrev pub unsettled : ℕ → Bool → List Delivery → List Delivery
unsettled tag multiple deliveries = filter (λ delivery. not (is_settled tag multiple delivery)) deliveries
