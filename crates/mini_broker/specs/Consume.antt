-- Clients begin and end to consume from a queue (AMQP 0-9-1, basic.consume, basic.cancel).
use Rattle.std.specs.Prelude.{ℕ, ◌+◌, List, ◌++◌, ◌∷◌, [], Bool, false, not, if◌then◌else◌, Option, Some, None, is_some, find, filter}
use Rattle.queue_core.specs.declared.rows.Holder.{Holder}
use Rattle.client_rules.specs.Names.{is_reserved}
use Rattle.client_rules.specs.declared.client.Client.{Client}
use Rattle.broker_store.specs.declared.consumer.Consumer.{Consumer}
use Rattle.mini_broker.specs.declared.fault.ClientFault.{ClientFault}
use Rattle.mini_broker.specs.declared.fault.ClientFault.TheVariants.{Refused}
use Rattle.broker_store.specs.Consumers.{is_consumer, client_number, registered}
use Rattle.mini_broker.specs.Declare.{is_locked}
use Rattle.broker_store.specs.Queues.{Standing, queue_of}
use Rattle.mini_broker.specs.State.{VhostState}

-- NOT_FOUND (404) for a queue that isn't there, RESOURCE_LOCKED (405) for another's (AMQP 0-9-1, 1.2)
abbrev pub refusal_at : {M : Type 0} → Client → Option (Standing M) → Option ClientFault
refusal_at who None = Some (Refused 404)
refusal_at who (Some queue) = if is_locked who queue then Some (Refused 405) else None

-- before these, ACCESS_REFUSED (403) for a queue that belongs to links
abbrev pub queue_refusal : Client → List ℕ → VhostState → Option ClientFault
queue_refusal who name v = if is_reserved name then Some (Refused 403) else refusal_at who (queue_of name v.queues)

abbrev pub consumer_of : Client → List ℕ → VhostState → Option Consumer
consumer_of who tag v = find (is_consumer who tag) v.consumers

-- NOT_ALLOWED (530) for a tag in use (AMQP 0-9-1, basic.consume: consumer-tag)
abbrev pub or_tag_in_use : Option ClientFault → Bool → Option ClientFault
or_tag_in_use None used = if used then Some (Refused 530) else None
or_tag_in_use (Some fault) used = Some fault

abbrev pub consume_refusal : Client → List ℕ → List ℕ → VhostState → Option ClientFault
consume_refusal who name tag v = or_tag_in_use (queue_refusal who name v) (is_some (consumer_of who tag v))

-- a consumer's copies are told from those of all other consumers, also of one that had its tag before
abbrev pub holder_for : Client → ℕ → VhostState → Holder
holder_for who part v = record { link = false; number = client_number who v.clients; part = part }

abbrev pub new_consumer : Client → List ℕ → List ℕ → Bool → ℕ → VhostState → Consumer
new_consumer who name tag no_ack prefetch v =
    record { client = who; tag = tag; queue = name; no_ack = no_ack; prefetch = prefetch; holder = holder_for who (v.begun + 1) v }

-- the consumer begins (AMQP 0-9-1, basic.consume)
abbrev pub with_consumer : Consumer → VhostState → VhostState
with_consumer consumer v = record v { clients = registered consumer.client v.clients; consumers = v.consumers ++ consumer ∷ []; begun = v.begun + 1 }

-- the consumer ends; what it holds stays held (AMQP 0-9-1, basic.cancel)
abbrev pub without_consumer : Client → List ℕ → VhostState → VhostState
without_consumer who tag v = record v { consumers = filter (λ consumer. not (is_consumer who tag consumer)) v.consumers }
