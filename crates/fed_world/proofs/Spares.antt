-- No event but a removal appends an entry by which a copy is gone.
use Rattle.std.proofs.Common.{◌≡◌, ℕ, ◌+◌, List, [], ◌∷◌, ◌++◌, Bool, true, false, Option, Some, None, sym, subst, ap, ◌∙◌, append_assoc}
use Rattle.std.specs.Prelude.{Ok, Err, not, cond, ◌==◌, find, map}
use Rattle.std.proofs.lemmas.Bool.{true≢false}
use Rattle.fed_journal.specs.declared.place.Place.{Place}
use Rattle.fed_journal.specs.declared.event.Event.{Event}
use Rattle.fed_journal.specs.declared.event.Event.TheVariants.{DeclareQueue, DeclareExchange, Bind, Unbind, Publish, Consume, Cancel, Deliver, Get, Ack, Reject, Requeue, Purge, Close, Flush, SetShovel, Open, Take, Send, Accept, Confirm, Note, Settle, Show}
use Rattle.fed_journal.specs.declared.event.Shovel.{Shovel}
use Rattle.fed_journal.specs.declared.link.LinkSpec.{LinkSpec}
use Rattle.fed_journal.specs.declared.link.StartState.{StartState}
use Rattle.fed_journal.specs.declared.link.StartState.TheVariants.{Start, NoBroker, NameTooLong}
use Rattle.fed_journal.specs.declared.entry.Publication.{Publication}
use Rattle.fed_journal.specs.declared.entry.Entry.{Entry}
use Rattle.fed_journal.specs.declared.entry.Entry.TheVariants.{GoneQueue, Opened, Flushed, ShovelSet}
use Rattle.fed_journal.specs.Configuration.{is_broker, queues_owned}
use Rattle.fed_journal.specs.Copies.{Standing, Ready, Left, is_left, is_home, closed, standing_step, publication_of, is_secured}
use Rattle.fed_journal.specs.Links.{is_shovel_set}
use Rattle.fed_journal.specs.Phases.{phase, session, is_open}
use Rattle.fed_journal.specs.Holds.{ready_count}
use Rattle.fed_journal.specs.Flight.{flight_took, flight_sent, flight_published, flight_confirmed}
use Rattle.broker_view.proofs.Awaited.{closed-stays}
use Rattle.fed_journal.specs.declared.reason.Reason.TheVariants as why
use Rattle.fed_journal.specs.Row.{oldest, lock_refusal, queue_refusal}
use Rattle.fed_journal.specs.Answer.{answer_refusal, requeue_row}
use Rattle.fed_journal.specs.Consume.{consumes, consume_refusal, consume_row, cancel_row}
use Rattle.fed_journal.specs.Close.{close_row}
use Rattle.fed_journal.specs.Declare.{declare_row, queue_declared, declare_exchange_row, exchange_declared, stands}
use Rattle.fed_journal.specs.Publish.{publish_row, publish_refusal}
use Rattle.amqp_props.specs.declared.link.QueueOptions.{QueueOptions}
use Rattle.amqp_props.specs.declared.message.Message.{Message}
use Rattle.route_core.specs.declared.binding.Binding.{Binding}
use Rattle.client_rules.specs.declared.client.ExchangeShape.{ExchangeShape}
use Rattle.fed_journal.specs.Configuration.{queue_options, exchange_shape}
use Rattle.fed_journal.specs.Routes.{is_bound}
use Rattle.fed_journal.specs.Bind.{bind_refusal, bind_row, unbind_row}
use Rattle.fed_journal.specs.Flush.{flush_row}
use Rattle.fed_world.specs.SetShovel.{set_shovel_row}
use Rattle.fed_world.specs.Open.{open_row, opened, is_source_locked, open_if_startable, made_if, is_target_missing}
use Rattle.fed_world.specs.Send.{send_row}
use Rattle.fed_world.specs.Accept.{accept_row, accept_first, accepted}
use Rattle.fed_world.specs.Confirm.{confirm_row, confirm_first, confirmed}
use Rattle.fed_world.specs.Note.{note_row}
use Rattle.fed_world.specs.Step.{next}
use Rattle.fed_world.specs.Kept.{is_removal}
use Rattle.fed_world.proofs.RowHas.{RowHas, unless_refused-has, either-has, at_place-has, with_link-has, while_open-has, one_or_empty-has, made_row-has}

-- the copy's queue goes
abbrev pub takes_away : ℕ → Publication → Entry → Bool
takes_away c x (GoneQueue place queue) = is_home x c place queue
takes_away c x _ = false

-- the entry takes no copy out of its queue, unless the queue goes
abbrev pub SparesEach : Entry → Type 0
SparesEach e = (c : ℕ) (x : Publication) (t : Standing) → is_left t ≡ false → takes_away c x e ≡ false → is_left (standing_step c x t e) ≡ false

-- none of the entries does
abbrev pub Spares : List Entry → Type 0
Spares [] = Unit {0}
Spares (e ∷ es) = SparesEach e × Spares es

-- an entry that changes nothing
stays : (t : Standing) → is_left t ≡ false → is_left (cond (is_left t) Left t) ≡ false
stays t h = ap (λ b. is_left (cond b Left t)) h ∙ h

-- one that makes a copy ready
readied : (t : Standing) (b : Bool) → is_left t ≡ false → is_left (cond (is_left t) Left (cond b Ready t)) ≡ false
readied t true h = ap (λ b. is_left (cond b Left Ready)) h
readied t false h = stays t h

-- one that ends a connection
ended : (p : Place) (n : ℕ) (t : Standing) → is_left t ≡ false → is_left (cond (is_left t) Left (closed p n t)) ≡ false
ended p n t h = ap (λ b. is_left (cond b Left (closed p n t))) h ∙ closed-stays p n t h

-- one by which another queue goes
away : (t : Standing) (b : Bool) → is_left t ≡ false → b ≡ false → is_left (cond (is_left t) Left (cond b Left t)) ≡ false
away t true h stay = absurd (true≢false stay)
away t false h stay = stays t h

gone-spares : (p : Place) (qs : List (List ℕ)) → Spares (map (GoneQueue p) qs)
gone-spares p [] = tt
gone-spares p (q ∷ qs) = (λ c y t h stay. away t (is_home y c p q) h stay, gone-spares p qs)

accepted-spares : (J : List Entry) (spec : LinkSpec) (c : ℕ) (target : Option Place) (x : Option Publication) → RowHas Spares (accepted J spec c target x)
accepted-spares J spec c (Some target) (Some x) = (λ d y t h stay. stays t h, tt)
accepted-spares J spec c (Some target) None = tt
accepted-spares J spec c None x = tt

accept_first-spares : (J : List Entry) (spec : LinkSpec) (o : Option ℕ) → RowHas Spares (accept_first J spec o)
accept_first-spares J spec None = tt
accept_first-spares J spec (Some c) = accepted-spares J spec c spec.target (publication_of c J)

accept_row-spares : (J : List Entry) (l : List ℕ) → RowHas Spares (accept_row J l)
unfolding accept_row
accept_row-spares J l =
    with_link-has Spares J l _ (λ spec d. while_open-has Spares J l _ (accept_first-spares J spec (oldest (flight_sent J l (session J l)))))

confirmed-spares : (l : List ℕ) (s : ℕ) (o : Option ℕ) → RowHas Spares (confirmed l s o)
confirmed-spares l s None = tt
confirmed-spares l s (Some p) = (λ d y t h stay. stays t h, tt)

confirm_first-spares : (J : List Entry) (l : List ℕ) (s : ℕ) (ps : List ℕ) → RowHas Spares (confirm_first J l s ps)
confirm_first-spares J l s [] = tt
confirm_first-spares J l s (p ∷ ps) = confirmed-spares l s (find (is_secured J) (p ∷ ps))

confirm_row-spares : (J : List Entry) (l : List ℕ) → RowHas Spares (confirm_row J l)
unfolding confirm_row
confirm_row-spares J l =
    with_link-has Spares J l _ (λ spec d. while_open-has Spares J l _ (confirm_first-spares J l (session J l) (flight_published J l (session J l))))

send_row-spares : (J : List Entry) (l : List ℕ) → RowHas Spares (send_row J l)
unfolding send_row
send_row-spares J l =
    with_link-has Spares J l _ (λ spec d. while_open-has Spares J l _ (one_or_empty-has Spares _ (oldest (flight_took J l (session J l))) (λ n e. (λ c y t h stay. stays t h, tt))))

note_row-spares : (J : List Entry) (l : List ℕ) → RowHas Spares (note_row J l)
unfolding note_row
note_row-spares J l =
    with_link-has Spares J l _ (λ spec d. while_open-has Spares J l _ (one_or_empty-has Spares _ (oldest (flight_confirmed J l (session J l))) (λ n e. (λ c y t h stay. stays t h, tt))))

flush_row-spares : (J : List Entry) (b : List ℕ) → RowHas Spares (flush_row J b)
unfolding flush_row
flush_row-spares J b = either-has Spares (is_broker J b) (Ok (Flushed b ∷ [])) (Err why.NoPlace) (λ c y t h stay. stays t h, tt) tt

publish_row-spares : (J : List Entry) (p : Place) (client : ℕ) (m : Message) → RowHas Spares (publish_row J p client m)
unfolding publish_row
publish_row-spares J p client m = at_place-has Spares J p _ (unless_refused-has Spares (publish_refusal J p m.exchange) _ (λ c y t h stay. stays t h, tt))

set_shovel_row-spares : (J : List Entry) (p : Place) (name : List ℕ) (shovel : Shovel) → RowHas Spares (set_shovel_row J p name shovel)
unfolding set_shovel_row
set_shovel_row-spares J p name shovel =
    at_place-has Spares J p _ (either-has Spares (is_shovel_set J p name) (Ok []) (Ok (ShovelSet p name shovel ∷ [])) tt (λ c y t h stay. stays t h, tt))

declare_row-spares : (J : List Entry) (p : Place) (client : ℕ) (q : List ℕ) (options : QueueOptions) → RowHas Spares (declare_row J p client q options)
unfolding declare_row
declare_row-spares J p client q options =
    at_place-has Spares J p _ (made_row-has Spares _ (queue_declared J p client q options) (λ h. (λ c y t h stay. stays t h, tt)) tt)

declare_exchange_row-spares : (J : List Entry) (p : Place) (x : List ℕ) (shape : ExchangeShape) → RowHas Spares (declare_exchange_row J p x shape)
unfolding declare_exchange_row
declare_exchange_row-spares J p x shape =
    at_place-has Spares J p _ (made_row-has Spares _ (exchange_declared J p x shape) (λ h. (λ c y t h stay. stays t h, tt)) tt)

bind_row-spares : (J : List Entry) (p : Place) (client : ℕ) (b : Binding) → RowHas Spares (bind_row J p client b)
unfolding bind_row
bind_row-spares J p client b =
    at_place-has Spares J p _ (unless_refused-has Spares (bind_refusal J p client b) _ (either-has Spares (is_bound J p b) (Ok []) _ tt (λ c y t h stay. stays t h, tt)))

unbind_row-spares : (J : List Entry) (p : Place) (client : ℕ) (b : Binding) → RowHas Spares (unbind_row J p client b)
unfolding unbind_row
unbind_row-spares J p client b =
    at_place-has Spares J p _ (unless_refused-has Spares (bind_refusal J p client b) _ (either-has Spares (is_bound J p b) _ (Ok []) (λ c y t h stay. stays t h, tt) tt))

-- a declaration spares, where what follows it does
made_if-spares : (missing : Bool) (p : Place) (q : List ℕ) (es : List Entry) → Spares es → Spares (made_if missing p q ++ es)
made_if-spares true p q es h = (λ c y t k stay. stays t k, h)
made_if-spares false p q es h = h

opened-spares : (J : List Entry) (spec : LinkSpec) (source target : Option Place) → RowHas Spares (opened J spec source target)
opened-spares J spec (Some source) (Some target) =
    subst Spares (sym (append_assoc (made_if (not (stands J source spec.source_queue)) source spec.source_queue) (made_if (is_target_missing J spec source target) target spec.target_queue) (Opened spec.name (session J spec.name + 1) (ready_count J source spec.source_queue) ∷ [])))
    (made_if-spares (not (stands J source spec.source_queue)) source spec.source_queue _
    (made_if-spares (is_target_missing J spec source target) target spec.target_queue _ (λ c y t h stay. stays t h, tt)))
opened-spares J spec (Some source) None = tt
opened-spares J spec None target = tt

open_if_startable-spares : (J : List Entry) (spec : LinkSpec) (state : StartState) → RowHas Spares (open_if_startable J spec state)
open_if_startable-spares J spec NoBroker = tt
open_if_startable-spares J spec NameTooLong = tt
open_if_startable-spares J spec Start =
    either-has Spares (is_open (phase J spec.name)) (Err why.Live) _ tt
    (either-has Spares (is_source_locked J spec.source spec.source_queue) (Err why.NoSource) (opened J spec spec.source spec.target) tt (opened-spares J spec spec.source spec.target))

open_row-spares : (J : List Entry) (l : List ℕ) → RowHas Spares (open_row J l)
unfolding open_row
open_row-spares J l = with_link-has Spares J l _ (λ spec d. open_if_startable-spares J spec spec.start)

requeue_row-spares : (J : List Entry) (p : Place) (client c : ℕ) → RowHas Spares (requeue_row J p client c)
unfolding requeue_row
requeue_row-spares J p client c = unless_refused-has Spares (answer_refusal J p client c) _ (λ d y t h stay. readied t (c == d) h, tt)

consume_row-spares : (J : List Entry) (p : Place) (client : ℕ) (q tag : List ℕ) (no_ack : Bool) (prefetch : ℕ) → RowHas Spares (consume_row J p client q tag no_ack prefetch)
unfolding consume_row
consume_row-spares J p client q tag no_ack prefetch =
    at_place-has Spares J p _ (unless_refused-has Spares (consume_refusal J p client q tag) _ (λ c y t h stay. stays t h, tt))

cancel_row-spares : (J : List Entry) (p : Place) (client : ℕ) (tag : List ℕ) → RowHas Spares (cancel_row J p client tag)
unfolding cancel_row
cancel_row-spares J p client tag =
    at_place-has Spares J p _ (either-has Spares (consumes J p client tag) _ (Ok []) (λ c y t h stay. stays t h, tt) tt)

close_row-spares : (J : List Entry) (p : Place) (client : ℕ) → RowHas Spares (close_row J p client)
unfolding close_row
close_row-spares J p client = at_place-has Spares J p _ (λ c y t h stay. ended p client t h, gone-spares p (queues_owned J p client))

-- whatever the event, unless it is a removal
pub next-spares : (J : List Entry) (e : Event) → is_removal e ≡ false → RowHas Spares (next J e)
next-spares J (DeclareQueue p c q options) h = declare_row-spares J p c q options
next-spares J (DeclareExchange p c x shape) h = declare_exchange_row-spares J p x shape
next-spares J (Bind p c b) h = bind_row-spares J p c b
next-spares J (Unbind p c b) h = unbind_row-spares J p c b
next-spares J (Publish p c m) h = publish_row-spares J p c m
next-spares J (Consume p client q tag no_ack prefetch) h = consume_row-spares J p client q tag no_ack prefetch
next-spares J (Cancel p client tag) h = cancel_row-spares J p client tag
next-spares J (Deliver p client tag) h = absurd (true≢false h)
next-spares J (Get p client q no_ack) h = absurd (true≢false h)
next-spares J (Ack p client c) h = absurd (true≢false h)
next-spares J (Reject p client c) h = absurd (true≢false h)
next-spares J (Requeue p client c) h = requeue_row-spares J p client c
next-spares J (Purge p client q) h = absurd (true≢false h)
next-spares J (Close p client) h = close_row-spares J p client
next-spares J (Flush b) h = flush_row-spares J b
next-spares J (SetShovel p name shovel) h = set_shovel_row-spares J p name shovel
next-spares J (Open l) h = open_row-spares J l
next-spares J (Take l) h = absurd (true≢false h)
next-spares J (Send l) h = send_row-spares J l
next-spares J (Accept l) h = accept_row-spares J l
next-spares J (Confirm l) h = confirm_row-spares J l
next-spares J (Note l) h = note_row-spares J l
next-spares J (Settle l) h = absurd (true≢false h)
next-spares J Show h = tt
