-- A queue hands a copy to a consumer, or to a client that asks for one (AMQP 0-9-1, basic.deliver, basic.get).
use Rattle.std.specs.Prelude.{ℕ, List, [], Bool, ◌&&◌, nat_le, nat_lt, if◌then◌else◌, Option, Some, None, count_by, Result, Ok, Err}
use Rattle.std.specs.Option.{option_map, option_map_or}
use Rattle.amqp_props.specs.declared.message.Message.{Message}
use Rattle.queue_core.specs.declared.rows.Holder.{Holder}
use Rattle.queue_core.specs.Rows.{is_held_by}
use Rattle.client_rules.specs.declared.client.Client.{Client}
use Rattle.broker_store.specs.declared.consumer.Consumer.{Consumer}
use Rattle.mini_broker.specs.declared.deliver.Delivered.{Delivered}
use Rattle.mini_broker.specs.declared.fault.ClientFault.{ClientFault}
use Rattle.mini_broker.specs.declared.fault.ClientFault.TheVariants.{NoConsumer, Busy, Empty}
use Rattle.broker_store.specs.declared.mailbox.CopyMessage.{CopyMessage}
use Rattle.broker_store.specs.Mail.{given}
use Rattle.broker_store.specs.Queues.{Named, queue_of, first_in, changed, with_mail}
use Rattle.mini_broker.specs.Consume.{consumer_of, queue_refusal, holder_for}
use Rattle.broker_store.specs.Consumers.{registered}
use Rattle.mini_broker.specs.Bind.{unless}
use Rattle.mini_broker.specs.State.{VhostState}

abbrev pub delivered : List ℕ → CopyMessage Message → Delivered
delivered name copy = record { copy = copy.number; queue = name; message = copy.message; again = copy.again }

-- what a hand-out from the queue would give now: its first ready copy (AMQP 0-9-1, basic.get)
abbrev pub offer_of : List ℕ → List (Named Message) → Option Delivered
offer_of name queues = option_map (delivered name) (first_in name queues)

-- how many copies of its queue a holder holds (RabbitMQ, Consumer Prefetch)
abbrev pub held_count : {M : Type 0} → List ℕ → Holder → List (Named M) → ℕ
held_count name holder queues = option_map_or (λ queue. count_by (is_held_by holder) queue.mail.rows) (queue_of name queues) 0

-- as many copies as it asked for are unacknowledged; 0 is no limit (RabbitMQ, Consumer Prefetch)
abbrev pub is_busy : {M : Type 0} → Consumer → List (Named M) → Bool
is_busy consumer queues = nat_lt 0 consumer.prefetch && nat_le consumer.prefetch (held_count consumer.queue consumer.holder queues)

abbrev pub offered : Option Delivered → Result Delivered ClientFault
offered None = Err Empty
offered (Some delivered) = Ok delivered

abbrev pub deliver_to : Option Consumer → List (Named Message) → Result Delivered ClientFault
deliver_to None queues = Err NoConsumer
deliver_to (Some consumer) queues = if is_busy consumer queues then Err Busy else offered (offer_of consumer.queue queues)

-- the consumer's queue hands out its first ready copy (AMQP 0-9-1, basic.deliver)
abbrev pub deliver_answer : Client → List ℕ → VhostState → Result Delivered ClientFault
deliver_answer who tag v = deliver_to (consumer_of who tag v) v.queues

-- a copy was handed out, to be acknowledged or for good (AMQP 0-9-1, basic.consume and basic.get: no-ack)
abbrev pub handed_over : {M : Type 0} → List ℕ → ℕ → Holder → Bool → List (Named M) → List (Named M)
handed_over name copy holder no_ack queues = changed name (with_mail (given copy holder no_ack)) queues

abbrev pub with_delivered : Option Consumer → ℕ → VhostState → VhostState
with_delivered None copy v = v
with_delivered (Some consumer) copy v = record v { queues = handed_over consumer.queue copy consumer.holder consumer.no_ack v.queues }

-- the queue hands out its first ready copy (AMQP 0-9-1, basic.get)
abbrev pub get_answer : Client → List ℕ → VhostState → Result Delivered ClientFault
get_answer who name v = unless (queue_refusal who name v) (offered (offer_of name v.queues))

-- what a client gets counts for its consumer with the empty tag that began before, if there is one
abbrev pub get_part : Client → VhostState → ℕ
get_part who v = option_map_or (λ consumer. consumer.holder.part) (consumer_of who [] v) 0

abbrev pub with_got : Client → List ℕ → ℕ → Bool → VhostState → VhostState
with_got who name copy no_ack v = record v {
  clients = registered who v.clients;
  queues = handed_over name copy (holder_for who (get_part who v) v) no_ack v.queues;
}
