-- Who consumes, and who holds (AMQP 0-9-1, basic.consume).
use Rattle.std.specs.Prelude.{ℕ, ◌==◌, ◌&&◌, Bool, List, [], ◌∷◌, ◌++◌, if◌then◌else◌, unwrap_or, position, length}
use Rattle.std.specs.List.{list_any}
use Rattle.std.specs.Str.{bytes_eq}
use Rattle.client_rules.specs.declared.client.Client.{Client}
use Rattle.broker_store.specs.declared.consumer.Consumer.{Consumer}

-- the same channel of the same connection (AMQP 0-9-1, 2.1.1)
abbrev pub is_client : Client → Client → Bool
is_client who client = (client.connection == who.connection) && (client.channel == who.channel)

-- a tag names a consumer of one channel (AMQP 0-9-1, basic.consume: consumer-tag)
abbrev pub is_consumer : Client → List ℕ → Consumer → Bool
is_consumer who tag consumer = is_client who consumer.client && bytes_eq consumer.tag tag

-- a client is numbered when it first consumes or gets
abbrev pub client_number : Client → List Client → ℕ
client_number who clients = unwrap_or (position (is_client who) clients) (length clients)

abbrev pub registered : Client → List Client → List Client
registered who clients = if list_any (is_client who) clients then clients else clients ++ who ∷ []
