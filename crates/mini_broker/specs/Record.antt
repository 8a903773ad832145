-- What the journal records of a virtual host is done to it.
use Rattle.std.specs.Prelude.{ℕ, List, Bool}
use Rattle.std.specs.Option.{option_map_or}
use Rattle.amqp_props.specs.declared.message.Message.{Message}
use Rattle.queue_core.specs.declared.rows.Holder.{Holder}
use Rattle.client_rules.specs.declared.client.Client.{Client}
use Rattle.broker_store.specs.Mail.{handed, left, released}
use Rattle.broker_store.specs.Queues.{all_changed, with_mail, all_entered}
use Rattle.mini_broker.specs.Consume.{consumer_of, holder_for}
use Rattle.broker_store.specs.Consumers.{registered}
use Rattle.mini_broker.specs.Deliver.{handed_over}
use Rattle.mini_broker.specs.State.{VhostState}

-- a message's copies enter these queues, numbered in their order (AMQP 0-9-1, basic.publish)
abbrev pub with_entered : List (List ℕ) → ℕ → Message → VhostState → VhostState
with_entered names number m v = record v { queues = all_entered names number m v.queues }

-- as whom a client holds what it is handed under the tag: as its consumer of that tag, if it has one (AMQP 0-9-1, basic.deliver)
abbrev pub holder_as : Client → List ℕ → VhostState → Holder
holder_as who tag v = option_map_or (λ consumer. consumer.holder) (consumer_of who tag v) (holder_for who 0 v)

-- a queue hands a copy to the client, under the tag of its consumer or, where the tag is empty, as it asked for one (AMQP 0-9-1, basic.deliver, basic.get)
abbrev pub with_handed : Client → List ℕ → List ℕ → ℕ → Bool → VhostState → VhostState
with_handed who tag name copy no_ack v = record v {
  clients = registered who v.clients;
  queues = handed_over name copy (holder_as who tag v) no_ack v.queues;
}

-- the copy is handed to a session of a link (AMQP 0-9-1, basic.deliver)
abbrev pub with_taken : ℕ → Holder → VhostState → VhostState
with_taken copy holder v = record v { queues = all_changed (with_mail (handed copy holder)) v.queues }

-- the copy that was acknowledged or rejected leaves its queue (AMQP 0-9-1, basic.ack, and basic.reject without requeue)
abbrev pub with_settled : ℕ → VhostState → VhostState
with_settled copy v = record v { queues = all_changed (with_mail (left copy)) v.queues }

-- the copy that was given back is ready again at its place (AMQP 0-9-1, basic.reject with requeue; RabbitMQ, Consumer Acknowledgements: requeueing)
abbrev pub with_released : ℕ → VhostState → VhostState
with_released copy v = record v { queues = all_changed (with_mail (released copy)) v.queues }
