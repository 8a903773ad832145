-- What a line states, where its words are values of its form.
use Rattle.std.specs.Prelude.{ℕ, List, [], false, ◌==◌, length, drop, not, if◌then◌else◌, codes}
use Rattle.fed_journal.specs.Names.{same_text}
use Rattle.std.specs.Option.{unwrap_or}
use Rattle.fed_journal.specs.declared.event.Event.{Event}
use Rattle.fed_journal.specs.declared.event.Event.TheVariants as event
use Rattle.fed_journal.specs.declared.event.Shovel.{Shovel}
use Rattle.amqp_props.specs.declared.link.ExchangeKind.TheVariants.{Direct}
use Rattle.amqp_props.specs.declared.link.QueueOptions.{QueueOptions}
use Rattle.route_core.specs.declared.object.Sort.TheVariants as sorts
use Rattle.route_core.specs.declared.binding.Binding.{Binding}
use Rattle.route_core.specs.Bindings.{binding_of}
use Rattle.fed_journal.specs.declared.place.Place.{Place}
use Rattle.client_rules.specs.declared.client.ExchangeShape.{ExchangeShape}
use Rattle.fed_journal.specs.declared.link.AckMode.TheVariants.{OnConfirm}
use Rattle.fed_schedule.specs.declared.keyword.Keyword.{Keyword}
use Rattle.fed_schedule.specs.declared.keyword.Keyword.TheVariants as form
use Rattle.fed_schedule.specs.declared.keyword.BindingAction.{BindingAction}
use Rattle.fed_schedule.specs.declared.keyword.BindingAction.TheVariants as binding
use Rattle.fed_schedule.specs.declared.keyword.Settlement.{Settlement}
use Rattle.fed_schedule.specs.declared.keyword.Settlement.TheVariants.{Ack, Reject, Requeue}
use Rattle.fed_schedule.specs.declared.keyword.ClientAction.{ClientAction}
use Rattle.fed_schedule.specs.declared.keyword.ClientAction.TheVariants as client
use Rattle.fed_schedule.specs.declared.keyword.LinkAction.{LinkAction}
use Rattle.fed_schedule.specs.declared.keyword.LinkAction.TheVariants.{Open, Take, Send, Accept, Confirm, Note, Settle}
use Rattle.fed_schedule.specs.declared.statement.Statement.{Statement}
use Rattle.fed_schedule.specs.declared.statement.Statement.TheVariants as states
use Rattle.schedule_words.specs.Words.{word_at, text_of}
use Rattle.schedule_words.specs.Numbers.{client_of, copy_of}
use Rattle.schedule_words.specs.Fields.{place_of}
use Rattle.schedule_words.specs.Links.{link_name}
use Rattle.schedule_words.specs.Choices.{exchange_kind_of, sort_of}
use Rattle.fed_schedule.specs.Options.{consumer_prefetch, has_option}
use Rattle.schedule_words.specs.Values.{arguments_of}
use Rattle.fed_schedule.specs.Messages.{message_of}

abbrev pub link_event : LinkAction → List ℕ → Event
link_event Open l = event.Open l
link_event Take l = event.Take l
link_event Send l = event.Send l
link_event Accept l = event.Accept l
link_event Confirm l = event.Confirm l
link_event Note l = event.Note l
link_event Settle l = event.Settle l

-- the client of a line
abbrev pub client_at : List (List ℕ) → ℕ
client_at ws = unwrap_or (client_of (word_at ws 2)) 0

-- the options of a queue that is declared (AMQP 0-9-1, queue.declare); auto-delete ones aren't built yet
unfoldable pub queue_options_of : List (List ℕ) → QueueOptions
queue_options_of options = record {
  durable = has_option (codes "durable") options;
  exclusive = has_option (codes "exclusive") options;
  auto_delete = false;
}

-- the type and the options of an exchange that is declared (AMQP 0-9-1, exchange.declare)
unfoldable pub exchange_shape_of : List ℕ → List (List ℕ) → ExchangeShape
exchange_shape_of type options = record {
  kind = unwrap_or (exchange_kind_of type) Direct;
  durable = has_option (codes "durable") options;
  internal = has_option (codes "internal") options;
}

-- `declare P C queue NAME [durable] [exclusive]`, `declare P C exchange NAME KIND [durable] [internal]`
unfoldable pub declare_event : List (List ℕ) → Event
declare_event ws =
    if same_text (word_at ws 3) (codes "exchange")
    then event.DeclareExchange (place_of (word_at ws 1)) (client_at ws) (text_of (word_at ws 4)) (exchange_shape_of (word_at ws 5) (drop 6 ws))
    else event.DeclareQueue (place_of (word_at ws 1)) (client_at ws) (text_of (word_at ws 4)) (queue_options_of (drop 5 ws))

-- `P C queue|exchange DEST SOURCE KEY [NAME=VALUE]...` of a binding (AMQP 0-9-1, queue.bind; RabbitMQ, Exchange to Exchange Bindings)
unfoldable pub binding_at : List (List ℕ) → Binding
binding_at ws =
    binding_of (text_of (word_at ws 5)) (unwrap_or (sort_of (word_at ws 3)) sorts.Queue) (text_of (word_at ws 4))
    (text_of (word_at ws 6)) (arguments_of [] (drop 7 ws))

abbrev pub bound_event : BindingAction → Place → ℕ → Binding → Event
bound_event binding.Bind place client x = event.Bind place client x
bound_event binding.Unbind place client x = event.Unbind place client x

-- `bind P C ..`, `unbind P C ..`
unfoldable pub binding_event : BindingAction → List (List ℕ) → Event
binding_event action ws = bound_event action (place_of (word_at ws 1)) (client_at ws) (binding_at ws)

-- `publish P C ..`
unfoldable pub publish_event : List (List ℕ) → Event
publish_event ws = event.Publish (place_of (word_at ws 1)) (client_at ws) (message_of ws)

-- `B1 QUEUE1 B2 QUEUE2` of a shovel's line
unfoldable pub shovel_of : List (List ℕ) → Shovel
shovel_of ws = record {
  source = text_of (word_at ws 3);
  source_queue = text_of (word_at ws 4);
  target = text_of (word_at ws 5);
  target_queue = text_of (word_at ws 6);
  mode = OnConfirm;
}

-- `shovel P NAME B1 QUEUE1 B2 QUEUE2 MODE`
unfoldable pub shovel_event : List (List ℕ) → Event
shovel_event ws = event.SetShovel (place_of (word_at ws 1)) (text_of (word_at ws 2)) (shovel_of ws)

-- `consume P C QUEUE TAG [no-ack] [prefetch=N]`
unfoldable pub consume_event : List (List ℕ) → Event
consume_event ws =
    event.Consume (place_of (word_at ws 1)) (client_at ws) (text_of (word_at ws 3)) (text_of (word_at ws 4))
    (same_text (word_at ws 5) (codes "no-ack")) (consumer_prefetch (drop 5 ws))

-- `cancel P C TAG`
unfoldable pub cancel_event : List (List ℕ) → Event
cancel_event ws = event.Cancel (place_of (word_at ws 1)) (client_at ws) (text_of (word_at ws 3))

-- `deliver P C TAG`
unfoldable pub deliver_event : List (List ℕ) → Event
deliver_event ws = event.Deliver (place_of (word_at ws 1)) (client_at ws) (text_of (word_at ws 3))

-- `get P C QUEUE [no-ack]`
unfoldable pub get_event : List (List ℕ) → Event
get_event ws = event.Get (place_of (word_at ws 1)) (client_at ws) (text_of (word_at ws 3)) (not (length ws == 4))

-- `ack P C COPY`, `reject P C COPY`, `requeue P C COPY`
abbrev pub settlement_event : Settlement → Place → ℕ → ℕ → Event
settlement_event Ack place number copy = event.Ack place number copy
settlement_event Reject place number copy = event.Reject place number copy
settlement_event Requeue place number copy = event.Requeue place number copy

unfoldable pub settle_event : Settlement → List (List ℕ) → Event
settle_event settlement ws = settlement_event settlement (place_of (word_at ws 1)) (client_at ws) (unwrap_or (copy_of (word_at ws 3)) 0)

-- `purge P C QUEUE`
unfoldable pub purge_event : List (List ℕ) → Event
purge_event ws = event.Purge (place_of (word_at ws 1)) (client_at ws) (text_of (word_at ws 3))

-- `close P C`
unfoldable pub close_event : List (List ℕ) → Event
close_event ws = event.Close (place_of (word_at ws 1)) (client_at ws)

unfoldable pub client_event : ClientAction → List (List ℕ) → Event
client_event client.Consume ws = consume_event ws
client_event client.Cancel ws = cancel_event ws
client_event client.Deliver ws = deliver_event ws
client_event client.Get ws = get_event ws
client_event (client.Settle settlement) ws = settle_event settlement ws
client_event client.Purge ws = purge_event ws
client_event client.Close ws = close_event ws

unfoldable pub statement_of : Keyword → List (List ℕ) → Statement
statement_of form.Broker ws = states.Broker (text_of (word_at ws 1))
statement_of form.Declare ws = states.Event (declare_event ws)
statement_of (form.Binding action) ws = states.Event (binding_event action ws)
statement_of form.Publish ws = states.Event (publish_event ws)
statement_of form.Flush ws = states.Event (event.Flush (text_of (word_at ws 1)))
statement_of form.Shovel ws = states.Event (shovel_event ws)
statement_of form.Show ws = states.Event event.Show
statement_of (form.Client action) ws = states.Event (client_event action ws)
statement_of (form.Link action) ws = states.Event (link_event action (link_name (word_at ws 1)))
