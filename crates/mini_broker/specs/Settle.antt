-- A client answers for a copy that it holds (AMQP 0-9-1, basic.ack, basic.reject), and empties a queue (queue.purge).
use Rattle.std.specs.Prelude.{ℕ, List, Bool, false, Option, Some, None, Result, Ok, position}
use Rattle.client_rules.specs.declared.client.Client.{Client}
use Rattle.mini_broker.specs.declared.fault.ClientFault.{ClientFault}
use Rattle.broker_store.specs.declared.mailbox.Sweep.{Sweep}
use Rattle.broker_store.specs.declared.mailbox.Sweep.TheVariants.{Leave, Release}
use Rattle.broker_store.specs.Mail.{swept, purged}
use Rattle.broker_store.specs.Queues.{Named, is_held_in, all_changed, changed, with_mail, ready_count}
use Rattle.mini_broker.specs.Bind.{unless}
use Rattle.broker_store.specs.Consumers.{is_client}
use Rattle.mini_broker.specs.Consume.{queue_refusal}
use Rattle.mini_broker.specs.State.{VhostState}

-- the client's number, if it consumed or got here
abbrev pub number_in : Client → VhostState → Option ℕ
number_in who v = position (is_client who) v.clients

abbrev pub holds_as : {M : Type 0} → Option ℕ → ℕ → List (Named M) → Bool
holds_as None copy queues = false
holds_as (Some number) copy queues = is_held_in number copy queues

-- the client holds the copy (AMQP 0-9-1, Acknowledgements)
abbrev pub holds : Client → ℕ → VhostState → Bool
holds who copy v = holds_as (number_in who v) copy v.queues

abbrev pub all_swept : Sweep → VhostState → VhostState
all_swept sweep v = record v { queues = all_changed (with_mail (swept sweep)) v.queues }

-- the virtual host once the copy that the client of this number holds, if it has one, has left (AMQP 0-9-1, basic.ack)
abbrev pub left_as : Option ℕ → ℕ → VhostState → VhostState
left_as None copy v = v
left_as (Some number) copy v = all_swept (Leave number copy) v

-- the copy that the client holds leaves its queue (AMQP 0-9-1, basic.ack, and basic.reject without requeue)
abbrev pub settled : Client → ℕ → VhostState → VhostState
settled who copy v = left_as (number_in who v) copy v

abbrev pub released_as : Option ℕ → ℕ → VhostState → VhostState
released_as None copy v = v
released_as (Some number) copy v = all_swept (Release number copy) v

-- the copy that the client holds is ready again at its place (AMQP 0-9-1, basic.reject with requeue; RabbitMQ, Consumer Acknowledgements: requeueing)
abbrev pub requeued : Client → ℕ → VhostState → VhostState
requeued who copy v = released_as (number_in who v) copy v

-- how many ready copies the queue loses (AMQP 0-9-1, queue.purge-ok: message-count)
abbrev pub purge_answer : Client → List ℕ → VhostState → Result ℕ ClientFault
purge_answer who name v = unless (queue_refusal who name v) (Ok (ready_count name v.queues))

-- its ready copies go, what is held stays (AMQP 0-9-1, queue.purge)
abbrev pub with_purged : List ℕ → VhostState → VhostState
with_purged name v = record v { queues = changed name (with_mail purged) v.queues }
