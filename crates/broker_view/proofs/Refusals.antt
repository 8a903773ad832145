-- The virtual host refuses a client what the journal has refused.
use Rattle.std.proofs.Common.{◌≡◌, ℕ, List, [], Bool, true, false, Option, Some, None, is_some, refl, sym, ap, ap₂, ◌∙◌}
use Rattle.std.specs.Prelude.{◌&&◌, ◌||◌, ◌==◌, not, if◌then◌else◌, Result, Ok, Err}
use Rattle.std.specs.Option.{option_map, option_map_or, option_and_then}
use Rattle.amqp_props.specs.declared.message.Message.{Message}
use Rattle.amqp_props.specs.declared.link.QueueOptions.{QueueOptions}
use Rattle.route_core.specs.declared.object.Sort.{Sort}
use Rattle.route_core.specs.declared.object.Sort.TheVariants as sorts
use Rattle.route_core.specs.declared.binding.Binding.{Binding}
use Rattle.client_rules.specs.declared.client.Client.{Client}
use Rattle.client_rules.specs.declared.client.ExchangeShape.{ExchangeShape}
use Rattle.client_rules.specs.Names.{is_reserved, is_unbindable, is_refused_queue, is_refused_exchange}
use Rattle.client_rules.specs.Alike.{same_options, same_shape}
use Rattle.client_rules.specs.Owners.{is_anothers}
use Rattle.fed_journal.specs.declared.place.Place.{Place}
use Rattle.fed_journal.specs.declared.entry.Entry.{Entry}
use Rattle.fed_journal.specs.declared.reason.Reason.{Reason}
use Rattle.fed_journal.specs.declared.reason.Reason.TheVariants as why
use Rattle.fed_journal.specs.Names.{same_text}
use Rattle.fed_journal.specs.Configuration.{queue_options, queue_owner, exchange_shape, is_another_in, is_locked}
use Rattle.fed_journal.specs.Row as rows
use Rattle.fed_journal.specs.Declare as declared
use Rattle.fed_journal.specs.Bind as bindings
use Rattle.fed_journal.specs.Consume as consumers
use Rattle.fed_journal.specs.Publish as publications
use Rattle.broker_store.specs.declared.consumer.Consumer.{Consumer}
use Rattle.broker_store.specs.Queues.{Standing, queue_of}
use Rattle.broker_store.specs.Exchanges.{shape_of}
use Rattle.mini_broker.specs.declared.fault.ClientFault.{ClientFault}
use Rattle.mini_broker.specs.declared.fault.ClientFault.TheVariants.{Refused}
use Rattle.mini_broker.specs.State.{VhostState}
use Rattle.mini_broker.specs.Consume.{refusal_at, queue_refusal, consumer_of, or_tag_in_use, consume_refusal}
use Rattle.mini_broker.specs.Declare as declare
use Rattle.mini_broker.specs.Bind as bind
use Rattle.mini_broker.specs.Publish as publish
use Rattle.broker_view.specs.Reasons.{reason_of, with_reason}
use Rattle.broker_view.specs.View.{IsConfigured, HasConsumers, asked}

-- ---- a queue that another connection has to itself

-- whose it is, and that it stands, as the journal has it
abbrev owner_in : Option (Standing Message) → Option ℕ
owner_in o = option_and_then (λ (s : Standing Message). s.owner) o

abbrev options_in : Option (Standing Message) → Option QueueOptions
options_in o = option_map (λ (s : Standing Message). s.options) o

another-as : (who : Client) (o : Option ℕ) → is_anothers who o ≡ is_another_in who.connection o
another-as who None = refl
another-as who (Some owner) = refl

locked-by : (b : Bool) → option_map reason_of (if b then Some (Refused 405) else None) ≡ (if b then Some (why.Refused 405) else None)
locked-by true = refl
locked-by false = refl

-- ---- the use of a queue

refusal-by : (who : Client) (reserved : Bool) (o : Option (Standing Message)) →
    option_map reason_of (if reserved then Some (Refused 403) else refusal_at who o)
    ≡ (if reserved then Some (why.Refused 403) else if is_some (options_in o) then (if is_another_in who.connection (owner_in o) then Some (why.Refused 405) else None) else Some (why.Refused 404))
refusal-by who true o = refl
refusal-by who false None = refl
refusal-by who false (Some s) =
    locked-by (is_anothers who s.owner) ∙ ap (λ b. if b then Some (why.Refused 405) else None) (another-as who s.owner)

pub queue-refusal-is : (J : List Entry) (p : Place) (v : VhostState) (who : Client) (q : List ℕ) → IsConfigured J p v → option_map reason_of (queue_refusal who q v) ≡ rows.queue_refusal J p who.connection q
queue-refusal-is J p v who q h =
    refusal-by who (is_reserved q) (queue_of q v.queues)
    ∙ ap (λ o. if is_reserved q then Some (why.Refused 403) else if is_some o then (if is_another_in who.connection (owner_in (queue_of q v.queues)) then Some (why.Refused 405) else None) else Some (why.Refused 404)) (h.options q)
    ∙ ap (λ o. if is_reserved q then Some (why.Refused 403) else if is_some (queue_options J p q) then (if is_another_in who.connection o then Some (why.Refused 405) else None) else Some (why.Refused 404)) (h.owners q)

-- ---- a consumer

tag-by : (o : Option ClientFault) (used : Bool) → option_map reason_of (or_tag_in_use o used) ≡ consumers.or_tag_in_use (option_map reason_of o) used
tag-by None true = refl
tag-by None false = refl
tag-by (Some fault) used = refl

some-asked : (o : Option Consumer) → is_some (option_map asked o) ≡ is_some o
some-asked None = refl
some-asked (Some consumer) = refl

pub consume-refusal-is : (J : List Entry) (p : Place) (v : VhostState) (client : ℕ) (q tag : List ℕ) → IsConfigured J p v → HasConsumers J p v → option_map reason_of (consume_refusal (rows.channel_of client) q tag v) ≡ consumers.consume_refusal J p client q tag
consume-refusal-is J p v client q tag h k =
    tag-by (queue_refusal (rows.channel_of client) q v) (is_some (consumer_of (rows.channel_of client) tag v))
    ∙ ap₂ consumers.or_tag_in_use (queue-refusal-is J p v (rows.channel_of client) q h) (sym (some-asked (consumer_of (rows.channel_of client) tag v)) ∙ ap is_some (k.consumers (rows.channel_of client) tag))

-- ---- a declaration

again-by : (locked same : Bool) → with_reason (if locked then Err (Refused 405) else if same then Ok false else Err (Refused 406)) ≡ rows.unless_refused (if locked then Some (why.Refused 405) else None) (if same then Ok false else Err (why.Refused 406))
again-by true same = refl
again-by false true = refl
again-by false false = refl

declared-by : (who : Client) (options : QueueOptions) (refused : Bool) (o : Option (Standing Message)) →
    with_reason (if refused then Err (Refused 403) else declare.declared_again who options o)
    ≡ (if refused then Err (why.Refused 403) else rows.unless_refused (if is_another_in who.connection (owner_in o) then Some (why.Refused 405) else None) (declared.declared_again options (options_in o)))
declared-by who options true o = refl
declared-by who options false None = refl
declared-by who options false (Some s) =
    again-by (is_anothers who s.owner) (same_options s.options options)
    ∙ ap (λ b. rows.unless_refused (if b then Some (why.Refused 405) else None) (if same_options s.options options then Ok false else Err (why.Refused 406))) (another-as who s.owner)

some-options : (o : Option (Standing Message)) → is_some (options_in o) ≡ is_some o
some-options None = refl
some-options (Some s) = refl

pub stands-is : (J : List Entry) (p : Place) (v : VhostState) (q : List ℕ) → IsConfigured J p v → is_some (queue_of q v.queues) ≡ is_some (queue_options J p q)
stands-is J p v q h = sym (some-options (queue_of q v.queues)) ∙ ap is_some (h.options q)

pub queue-declared-is : (J : List Entry) (p : Place) (v : VhostState) (who : Client) (q : List ℕ) (options : QueueOptions) → IsConfigured J p v → with_reason (declare.declare_answer who q options v) ≡ declared.queue_declared J p who.connection q options
unfolding declare.declare_answer declared.queue_declared
queue-declared-is J p v who q options h =
    declared-by who options (is_refused_queue q (is_some (queue_of q v.queues))) (queue_of q v.queues)
    ∙ ap (λ b. if is_refused_queue q b then Err (why.Refused 403) else rows.unless_refused (if is_another_in who.connection (owner_in (queue_of q v.queues)) then Some (why.Refused 405) else None) (declared.declared_again options (options_in (queue_of q v.queues)))) (stands-is J p v q h)
    ∙ ap₂ (λ a o. if is_refused_queue q (is_some (queue_options J p q)) then Err (why.Refused 403) else rows.unless_refused (if is_another_in who.connection a then Some (why.Refused 405) else None) (declared.declared_again options o)) (h.owners q) (h.options q)

shape-by : (same : Bool) → with_reason (if same then Ok false else Err (Refused 406)) ≡ (if same then Ok false else Err (why.Refused 406))
shape-by true = refl
shape-by false = refl

exchange-by : (shape : ExchangeShape) (refused : Bool) (o : Option ExchangeShape) →
    with_reason (if refused then Err (Refused 403) else declare.declared_exchange_again shape o) ≡ (if refused then Err (why.Refused 403) else declared.exchange_again shape o)
exchange-by shape true o = refl
exchange-by shape false None = refl
exchange-by shape false (Some was) = shape-by (same_shape was shape)

pub exchange-declared-is : (J : List Entry) (p : Place) (v : VhostState) (x : List ℕ) (shape : ExchangeShape) → IsConfigured J p v → with_reason (declare.declare_exchange_answer x shape v) ≡ declared.exchange_declared J p x shape
unfolding declare.declare_exchange_answer declared.exchange_declared
exchange-declared-is J p v x shape h =
    exchange-by shape (is_refused_exchange x (is_some (shape_of x v.exchanges))) (shape_of x v.exchanges)
    ∙ ap (λ o. if is_refused_exchange x (is_some o) then Err (why.Refused 403) else declared.exchange_again shape o) (h.shapes x)

-- ---- a binding

bound-by : (unbindable ends locked : Bool) →
    option_map reason_of (if unbindable then Some (Refused 403) else if not ends then Some (Refused 404) else if locked then Some (Refused 405) else None)
    ≡ (if unbindable then Some (why.Refused 403) else if ends then (if locked then Some (why.Refused 405) else None) else Some (why.Refused 404))
bound-by true ends locked = refl
bound-by false false locked = refl
bound-by false true true = refl
bound-by false true false = refl

end-is : (J : List Entry) (p : Place) (v : VhostState) (sort : Sort) (name : List ℕ) → IsConfigured J p v → bind.stands_as sort name v ≡ bindings.stands_as J p sort name
end-is J p v sorts.Queue name h = stands-is J p v name h
end-is J p v sorts.Exchange name h = ap is_some (h.shapes name)

locked-in : (who : Client) (o : Option (Standing Message)) → option_map_or (declare.is_locked who) o false ≡ is_another_in who.connection (owner_in o)
locked-in who None = refl
locked-in who (Some s) = another-as who s.owner

end-refusal-is : (J : List Entry) (p : Place) (v : VhostState) (who : Client) (sort : Sort) (name : List ℕ) → IsConfigured J p v → (if bind.is_locked_end who sort name v then Some (why.Refused 405) else None) ≡ bindings.end_refusal J p who.connection sort name
end-refusal-is J p v who sorts.Queue name h =
    ap (λ b. if b then Some (why.Refused 405) else None) (locked-in who (queue_of name v.queues) ∙ ap (is_another_in who.connection) (h.owners name))
end-refusal-is J p v who sorts.Exchange name h = refl

pub bind-refusal-is : (J : List Entry) (p : Place) (v : VhostState) (who : Client) (b : Binding) → IsConfigured J p v → option_map reason_of (bind.bind_refusal who b.source b.sort b.dest v) ≡ bindings.bind_refusal J p who.connection b
unfolding bind.bind_refusal
bind-refusal-is J p v who b h =
    bound-by (is_unbindable b.source || is_unbindable b.dest) (bind.stands_as sorts.Exchange b.source v && bind.stands_as b.sort b.dest v) (bind.is_locked_end who b.sort b.dest v)
    ∙ ap₂ (λ s d. if is_unbindable b.source || is_unbindable b.dest then Some (why.Refused 403) else if s && d then (if bind.is_locked_end who b.sort b.dest v then Some (why.Refused 405) else None) else Some (why.Refused 404)) (end-is J p v sorts.Exchange b.source h) (end-is J p v b.sort b.dest h)
    ∙ ap (λ o. if is_unbindable b.source || is_unbindable b.dest then Some (why.Refused 403) else if bindings.stands_as J p sorts.Exchange b.source && bindings.stands_as J p b.sort b.dest then o else Some (why.Refused 404)) (end-refusal-is J p v who b.sort b.dest h)

-- ---- a publication

internal-by : (internal : Bool) → option_map reason_of (if internal then Some (Refused 403) else None) ≡ (if internal then Some (why.Refused 403) else None)
internal-by true = refl
internal-by false = refl

shape-refusal-is : (o : Option ExchangeShape) → option_map reason_of (publish.shape_refusal o) ≡ publications.shape_refusal o
shape-refusal-is None = refl
shape-refusal-is (Some shape) = internal-by shape.internal

published-by : (reserved default : Bool) (o : Option ExchangeShape) →
    option_map reason_of (if reserved then Some (Refused 403) else if default then None else publish.shape_refusal o)
    ≡ (if reserved then Some (why.Refused 403) else if default then None else publications.shape_refusal o)
published-by true default o = refl
published-by false true o = refl
published-by false false o = shape-refusal-is o

pub publish-refusal-is : (J : List Entry) (p : Place) (v : VhostState) (x : List ℕ) → IsConfigured J p v → option_map reason_of (publish.publish_refusal x v) ≡ publications.publish_refusal J p x
publish-refusal-is J p v x h =
    published-by (is_reserved x) (same_text x []) (shape_of x v.exchanges)
    ∙ ap (λ o. if is_reserved x then Some (why.Refused 403) else if same_text x [] then None else publications.shape_refusal o) (h.shapes x)
