-- The line of a schedule that an event stands in: its words, with a space between each two.
use Rattle.std.specs.Prelude.{ℕ, List, [], ◌∷◌, ◌++◌, Bool, true, false, not, ◌==◌, if◌then◌else◌, flat_map, None, codes}
use Rattle.std.specs.Fmt.{decimal}
use Rattle.field_tables.specs.Fields.{Pairs, no_pairs}
use Rattle.amqp_props.specs.Same.{same_properties}
use Rattle.amqp_props.specs.declared.message.Message.{Message}
use Rattle.amqp_props.specs.declared.link.ExchangeKind.{ExchangeKind}
use Rattle.amqp_props.specs.declared.link.ExchangeKind.TheVariants.{Direct, Fanout, Headers, Topic}
use Rattle.amqp_props.specs.declared.link.QueueOptions.{QueueOptions}
use Rattle.client_rules.specs.declared.client.ExchangeShape.{ExchangeShape}
use Rattle.route_core.specs.declared.binding.Binding.{Binding}
use Rattle.route_core.specs.declared.object.Sort.{Sort}
use Rattle.route_core.specs.declared.object.Sort.TheVariants as sorts
use Rattle.fed_journal.specs.declared.event.Event.{Event}
use Rattle.fed_journal.specs.declared.event.Event.TheVariants.{DeclareQueue, DeclareExchange, Bind, Unbind, Publish, Consume, Cancel, Deliver, Get, Ack, Reject, Requeue, Purge, Close, Flush, SetShovel, Open, Take, Send, Accept, Confirm, Note, Settle, Show}
use Rattle.fed_journal.specs.declared.event.Shovel.{Shovel}
use Rattle.fed_journal.specs.declared.place.Place.{Place}
use Rattle.fed_journal.specs.Messages.{is_persistent, properties}
use Rattle.fed_journal.specs.Words.{word, place_word}

-- a word after another
abbrev pub spaced : List ℕ → List ℕ
spaced w = codes " " ++ w

-- the words of a line stand between single spaces
abbrev pub joined : List (List ℕ) → List ℕ
joined [] = []
joined (w ∷ ws) = w ++ flat_map spaced ws

-- what a client does at a place
abbrev pub client_words : List ℕ → Place → ℕ → List (List ℕ) → List (List ℕ)
client_words keyword place client ws = keyword ∷ place_word place ∷ decimal client ∷ ws

-- an option, where it is given
abbrev pub option_words : Bool → List ℕ → List (List ℕ)
option_words given option = if given then option ∷ [] else []

-- AMQP 0-9-1, queue.declare
unfoldable pub queue_words : List ℕ → QueueOptions → List (List ℕ)
queue_words name options =
    codes "queue" ∷ word name ∷ (option_words options.durable (codes "durable") ++ option_words options.exclusive (codes "exclusive"))

-- AMQP 0-9-1, 3.1.3 "Exchange Types"
abbrev pub kind_word : ExchangeKind → List ℕ
kind_word Direct = codes "direct"
kind_word Fanout = codes "fanout"
kind_word Headers = codes "headers"
kind_word Topic = codes "topic"

-- AMQP 0-9-1, exchange.declare
unfoldable pub exchange_words : List ℕ → ExchangeShape → List (List ℕ)
exchange_words name shape =
    codes "exchange" ∷ word name ∷ kind_word shape.kind ∷ (option_words shape.durable (codes "durable") ++ option_words shape.internal (codes "internal"))

-- what a binding leads to (AMQP 0-9-1, queue.bind; RabbitMQ, Exchange to Exchange Bindings)
abbrev pub sort_word : Sort → List ℕ
sort_word sorts.Queue = codes "queue"
sort_word sorts.Exchange = codes "exchange"

-- the same
unfoldable pub binding_words : Binding → List (List ℕ)
binding_words binding = sort_word binding.sort ∷ word binding.dest ∷ word binding.source ∷ word binding.key ∷ []

-- AMQP 0-9-1, basic.publish and the content that follows it: `persistent` is delivery mode 2
unfoldable pub message_words : Message → List (List ℕ)
message_words message = word message.exchange ∷ word message.key ∷ word message.body ∷ option_words (is_persistent message) (codes "persistent")

-- AMQP 0-9-1, basic.qos: 0 is no limit, and is not written
abbrev pub prefetch_words : ℕ → List (List ℕ)
prefetch_words prefetch = if prefetch == 0 then [] else (codes "prefetch=" ++ decimal prefetch) ∷ []

-- AMQP 0-9-1, basic.consume
unfoldable pub consumer_words : List ℕ → List ℕ → Bool → ℕ → List (List ℕ)
consumer_words queue tag no_ack prefetch = word queue ∷ word tag ∷ (option_words no_ack (codes "no-ack") ++ prefetch_words prefetch)

-- a shovel's source (RabbitMQ, dynamic shovels: `src-uri`, `src-queue`)
unfoldable pub source_words : Shovel → List (List ℕ)
source_words shovel = word shovel.source ∷ word shovel.source_queue ∷ []

-- its target and its mode (the same: `dest-uri`, `dest-queue`, `ack-mode`)
unfoldable pub target_words : Shovel → List (List ℕ)
target_words shovel = word shovel.target ∷ word shovel.target_queue ∷ codes "on-confirm" ∷ []

-- an operator sets a dynamic shovel (RabbitMQ, dynamic shovels)
unfoldable pub shovel_words : Place → List ℕ → Shovel → List (List ℕ)
shovel_words place name shovel = codes "shovel" ∷ place_word place ∷ word name ∷ (source_words shovel ++ target_words shovel)

-- a table without fields
abbrev pub is_empty_table : Pairs → Bool
is_empty_table no_pairs = true
is_empty_table _ = false

-- the words of an event's line
unfoldable pub event_words : Event → List (List ℕ)
event_words (DeclareQueue place client queue options) = client_words (codes "declare") place client (queue_words queue options)
event_words (DeclareExchange place client exchange shape) = client_words (codes "declare") place client (exchange_words exchange shape)
event_words (Bind place client binding) = client_words (codes "bind") place client (binding_words binding)
event_words (Unbind place client binding) = client_words (codes "unbind") place client (binding_words binding)
event_words (Publish place client message) = client_words (codes "publish") place client (message_words message)
event_words (Consume place client queue tag no_ack prefetch) = client_words (codes "consume") place client (consumer_words queue tag no_ack prefetch)
event_words (Cancel place client tag) = client_words (codes "cancel") place client (word tag ∷ [])
event_words (Deliver place client tag) = client_words (codes "deliver") place client (word tag ∷ [])
event_words (Get place client queue no_ack) = client_words (codes "get") place client (word queue ∷ option_words no_ack (codes "no-ack"))
event_words (Ack place client copy) = client_words (codes "ack") place client (decimal copy ∷ [])
event_words (Reject place client copy) = client_words (codes "reject") place client (decimal copy ∷ [])
event_words (Requeue place client copy) = client_words (codes "requeue") place client (decimal copy ∷ [])
event_words (Purge place client queue) = client_words (codes "purge") place client (word queue ∷ [])
event_words (Close place client) = client_words (codes "close") place client []
event_words (Flush broker) = codes "flush" ∷ word broker ∷ []
event_words (SetShovel place name shovel) = shovel_words place name shovel
event_words (Open link) = codes "open" ∷ link ∷ []
event_words (Take link) = codes "take" ∷ link ∷ []
event_words (Send link) = codes "send" ∷ link ∷ []
event_words (Accept link) = codes "accept" ∷ link ∷ []
event_words (Confirm link) = codes "confirm" ∷ link ∷ []
event_words (Note link) = codes "note" ∷ link ∷ []
event_words (Settle link) = codes "settle" ∷ link ∷ []
event_words Show = codes "show" ∷ []

-- an event of which a line is written: auto-delete queues aren't built, and arguments and properties other than a delivery mode of 2 aren't written
unfoldable pub has_line : Event → Bool
has_line (DeclareQueue place client queue options) = not options.auto_delete
has_line (Bind place client binding) = is_empty_table binding.args
has_line (Unbind place client binding) = is_empty_table binding.args
has_line (Publish place client message) = same_properties message.props (properties (is_persistent message) None)
has_line _ = true

-- the line of an event
unfoldable pub event_line : Event → List ℕ
event_line e = joined (event_words e)
