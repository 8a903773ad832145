-- One event, and what becomes of it.
use Rattle.std.specs.Prelude.{List, [], ◌++◌, Bool, true, false, length, Ok, Err}
use Rattle.fed_journal.specs.declared.entry.Entry.{Entry}
use Rattle.fed_journal.specs.declared.event.Event.{Event}
use Rattle.fed_journal.specs.declared.event.Event.TheVariants.{DeclareQueue, DeclareExchange, Bind, Unbind, Publish, Consume, Cancel, Deliver, Get, Ack, Reject, Requeue, Purge, Close, Flush, SetShovel, Open, Take, Send, Accept, Confirm, Note, Settle, Show}
use Rattle.fed_world.specs.declared.reason.Outcome.{Outcome}
use Rattle.fed_world.specs.declared.reason.Outcome.TheVariants.{Done, NotNow}
use Rattle.fed_journal.specs.Row.{Row}
use Rattle.fed_journal.specs.Declare.{declare_row, declare_exchange_row}
use Rattle.fed_journal.specs.Bind.{bind_row, unbind_row}
use Rattle.fed_journal.specs.Publish.{publish_row}
use Rattle.fed_journal.specs.Consume.{consume_row, cancel_row}
use Rattle.fed_journal.specs.Deliver.{deliver_row}
use Rattle.fed_journal.specs.Get.{get_row}
use Rattle.fed_journal.specs.Answer.{ack_row, reject_row, requeue_row}
use Rattle.fed_journal.specs.Purge.{purge_row}
use Rattle.fed_journal.specs.Close.{close_row}
use Rattle.fed_journal.specs.Flush.{flush_row}
use Rattle.fed_world.specs.SetShovel.{set_shovel_row}
use Rattle.fed_world.specs.Open.{open_row}
use Rattle.fed_world.specs.Take.{take_row}
use Rattle.fed_world.specs.Send.{send_row}
use Rattle.fed_world.specs.Accept.{accept_row}
use Rattle.fed_world.specs.Confirm.{confirm_row}
use Rattle.fed_world.specs.Note.{note_row}
use Rattle.fed_world.specs.Settle.{settle_row}

-- each event by its own rule
abbrev pub next : List Entry → Event → Row
next J (DeclareQueue place client queue options) = declare_row J place client queue options
next J (DeclareExchange place client exchange shape) = declare_exchange_row J place exchange shape
next J (Bind place client binding) = bind_row J place client binding
next J (Unbind place client binding) = unbind_row J place client binding
next J (Publish place client message) = publish_row J place client message
next J (Consume place client queue tag no_ack prefetch) = consume_row J place client queue tag no_ack prefetch
next J (Cancel place client tag) = cancel_row J place client tag
next J (Deliver place client tag) = deliver_row J place client tag
next J (Get place client queue no_ack) = get_row J place client queue no_ack
next J (Ack place client copy) = ack_row J place client copy
next J (Reject place client copy) = reject_row J place client copy
next J (Requeue place client copy) = requeue_row J place client copy
next J (Purge place client queue) = purge_row J place client queue
next J (Close place client) = close_row J place client
next J (Flush broker) = flush_row J broker
next J (SetShovel place name shovel) = set_shovel_row J place name shovel
next J (Open link) = open_row J link
next J (Take link) = take_row J link
next J (Send link) = send_row J link
next J (Accept link) = accept_row J link
next J (Confirm link) = confirm_row J link
next J (Note link) = note_row J link
next J (Settle link) = settle_row J link
next J Show = Ok []

-- the events that declare or bind (AMQP 0-9-1, queue.declare, exchange.declare, queue.bind, queue.unbind)
abbrev pub is_declaring : Event → Bool
is_declaring (DeclareQueue place client queue options) = true
is_declaring (DeclareExchange place client exchange shape) = true
is_declaring (Bind place client binding) = true
is_declaring (Unbind place client binding) = true
is_declaring _ = false

-- the events by which a client begins or ends to consume, is handed copies, empties a queue or goes (AMQP 0-9-1, basic.consume, basic.cancel, basic.deliver, basic.get, queue.purge, connection.close)
abbrev pub is_consuming : Event → Bool
is_consuming (Consume place client queue tag no_ack prefetch) = true
is_consuming (Cancel place client tag) = true
is_consuming (Deliver place client tag) = true
is_consuming (Get place client queue no_ack) = true
is_consuming (Purge place client queue) = true
is_consuming (Close place client) = true
is_consuming _ = false

-- the events by which a client answers for a copy that it holds (AMQP 0-9-1, basic.ack, basic.reject)
abbrev pub is_answering : Event → Bool
is_answering (Ack place client copy) = true
is_answering (Reject place client copy) = true
is_answering (Requeue place client copy) = true
is_answering _ = false

-- the journal afterwards
abbrev pub after : List Entry → Row → List Entry
after J (Ok entries) = J ++ entries
after J (Err reason) = J

abbrev pub outcome_of : Row → Outcome
outcome_of (Ok entries) = Done (length entries)
outcome_of (Err reason) = NotNow reason
