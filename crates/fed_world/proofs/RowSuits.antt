-- Each entry that a row appends suits the journal before it.
use Rattle.std.proofs.Common.{◌≡◌, ℕ, ◌+◌, List, [], ◌∷◌, ◌++◌, Bool, true, false, Option, Some, None, refl, ap, ◌∙◌}
use Rattle.std.specs.Prelude.{Ok, Err, not, ◌&&◌, ◌||◌, is_some, find}
use Rattle.std.specs.List.{list_all}
use Rattle.std.proofs.lemmas.Bool.{true≢false, or_parts}
use Rattle.std.proofs.lemmas.List.Folds.{list_all-append}
use Rattle.amqp_props.specs.declared.link.QueueOptions.{QueueOptions}
use Rattle.amqp_props.specs.declared.message.Message.{Message}
use Rattle.route_core.specs.declared.binding.Binding.{Binding}
use Rattle.fed_journal.specs.declared.place.Place.{Place}
use Rattle.client_rules.specs.declared.client.ExchangeShape.{ExchangeShape}
use Rattle.fed_journal.specs.declared.event.Event.{Event}
use Rattle.fed_journal.specs.declared.event.Event.TheVariants.{DeclareQueue, DeclareExchange, Bind, Unbind, Publish, Consume, Cancel, Deliver, Get, Ack, Reject, Requeue, Purge, Close, Flush, SetShovel, Open, Take, Send, Accept, Confirm, Note, Settle, Show}
use Rattle.fed_journal.specs.declared.event.Shovel.{Shovel}
use Rattle.fed_journal.specs.declared.link.LinkSpec.{LinkSpec}
use Rattle.fed_journal.specs.declared.link.StartState.{StartState}
use Rattle.fed_journal.specs.declared.link.StartState.TheVariants.{Start, NoBroker, NameTooLong}
use Rattle.fed_journal.specs.declared.entry.Publisher.{Publisher}
use Rattle.fed_journal.specs.declared.entry.Publisher.TheVariants.{Client, Link}
use Rattle.fed_journal.specs.declared.entry.Publication.{Publication}
use Rattle.fed_journal.specs.declared.entry.Entry.{Entry}
use Rattle.fed_journal.specs.declared.entry.Entry.TheVariants.{MadeQueue, Published, Flushed, ShovelSet, Took, Opened}
use Rattle.fed_journal.specs.Configuration.{is_broker, queue_options, exchange_shape}
use Rattle.fed_journal.specs.Names.{same_text}
use Rattle.client_rules.specs.Names.{is_reserved}
use Rattle.fed_journal.specs.Routes.{is_bound, routes}
use Rattle.fed_journal.specs.Copies.{standing, is_secured, publication_of}
use Rattle.fed_journal.specs.Flight.{flight_took, flight_sent, flight_published, flight_confirmed, flight_noted}
use Rattle.fed_journal.specs.Holds.{first_ready, ready_count}
use Rattle.fed_journal.specs.Consumers.{Consumer, consumer}
use Rattle.fed_journal.specs.Links.{is_shovel_set}
use Rattle.fed_journal.specs.Outgoing.{outgoing}
use Rattle.fed_journal.specs.Phases.{phase, session, is_open}
use Rattle.broker_view.specs.Suits.{is_begun, Suits, EachSuits}
use Rattle.fed_journal.specs.declared.reason.Reason.TheVariants as why
use Rattle.fed_journal.specs.Row.{Row, oldest, lock_refusal, queue_refusal, channel_of}
use Rattle.fed_journal.specs.Declare.{declare_row, queue_declared, declare_exchange_row, exchange_declared, stands, lasting}
use Rattle.fed_journal.specs.Bind.{bind_refusal, bind_row, unbind_row}
use Rattle.fed_journal.specs.Publish.{publish_row, publish_refusal, publication, published}
use Rattle.fed_journal.specs.Consume.{consumes, consume_refusal, consume_row, cancel_row}
use Rattle.fed_journal.specs.Deliver.{is_busy, deliver_to, deliver_row}
use Rattle.fed_journal.specs.Get.{get_row}
use Rattle.fed_journal.specs.Answer.{answer_refusal, ack_row, reject_row, requeue_row}
use Rattle.fed_journal.specs.Purge.{purge_row}
use Rattle.fed_journal.specs.Close.{close_row}
use Rattle.fed_journal.specs.Flush.{flush_row}
use Rattle.fed_world.specs.SetShovel.{set_shovel_row}
use Rattle.fed_world.specs.Open.{open_row, opened, is_source_locked, open_if_startable, made_if, is_target_missing}
use Rattle.fed_world.specs.Take.{take_row, is_full, first_ready_at}
use Rattle.fed_world.specs.Send.{send_row}
use Rattle.fed_world.specs.Accept.{accept_row, accept_first, accepted}
use Rattle.fed_world.specs.Confirm.{confirm_row, confirm_first, confirmed}
use Rattle.fed_world.specs.Note.{note_row}
use Rattle.fed_world.specs.Settle.{settle_row}
use Rattle.fed_world.specs.Step.{next}
use Rattle.fed_world.specs.Fits as fits
use Rattle.fed_world.specs.Run.{begin, begun}
use Rattle.fed_world.proofs.Causes.{EachCaused}
use Rattle.fed_world.proofs.Lists.{find-in}
use Rattle.fed_world.proofs.OwnedQueues.{close-suits}
use Rattle.fed_world.proofs.Declared.{queue-made, exchange-made, tag-free}
use Rattle.fed_world.proofs.RowHas.{RowHas, either-has, if_not-has, at_place-has, with_link-has, while_open-has, one_or_empty-has, unless_refused-has, unless_known_refused-has, made_row-has}
use Rattle.fed_world.proofs.RowCaused.{not_there, target-missing, target-fresh, take-cause, answer-held}
use Rattle.fed_world.proofs.Standings.{waiting-is}

-- the entries of the row do, if it has any
abbrev pub RowSuits : List Entry → Row → Type 0
RowSuits J row = RowHas (EachSuits J) row

declare_row-suits : (J : List Entry) (p : Place) (client : ℕ) (q : List ℕ) (options : QueueOptions) → RowSuits J (declare_row J p client q options)
unfolding declare_row
declare_row-suits J p client q options =
    at_place-has (EachSuits J) J p _ (made_row-has (EachSuits J) _ (queue_declared J p client q options) (λ made. (queue-made J p client q options made, tt)) tt)

declare_exchange_row-suits : (J : List Entry) (p : Place) (x : List ℕ) (shape : ExchangeShape) → RowSuits J (declare_exchange_row J p x shape)
unfolding declare_exchange_row
declare_exchange_row-suits J p x shape =
    at_place-has (EachSuits J) J p _ (made_row-has (EachSuits J) _ (exchange_declared J p x shape) (λ made. (exchange-made J p x shape made, tt)) tt)

bind_row-suits : (J : List Entry) (p : Place) (client : ℕ) (b : Binding) → RowSuits J (bind_row J p client b)
unfolding bind_row
bind_row-suits J p client b =
    at_place-has (EachSuits J) J p _ (unless_refused-has (EachSuits J) (bind_refusal J p client b) _ (either-has (EachSuits J) (is_bound J p b) (Ok []) _ tt (tt, tt)))

unbind_row-suits : (J : List Entry) (p : Place) (client : ℕ) (b : Binding) → RowSuits J (unbind_row J p client b)
unfolding unbind_row
unbind_row-suits J p client b =
    at_place-has (EachSuits J) J p _ (unless_refused-has (EachSuits J) (bind_refusal J p client b) _ (either-has (EachSuits J) (is_bound J p b) _ (Ok []) (tt, tt) tt))

-- a publication and the first of its copies have the next numbers
publication-suits : (J : List Entry) (p : Place) (by : Publisher) (m : Message) (queues : List (List ℕ)) → queues ≡ routes J p m → Suits J (Published (publication J p by m queues))
publication-suits J p by m [] e = (refl, e, refl)
publication-suits J p by m (q ∷ qs) e = (refl, e, refl)

-- whoever publishes
published-suits : (J : List Entry) (p : Place) (by : Publisher) (m : Message) → Suits J (published J p by m)
published-suits J p by m = publication-suits J p by m (routes J p m) refl

publish_row-suits : (J : List Entry) (p : Place) (client : ℕ) (m : Message) → RowSuits J (publish_row J p client m)
unfolding publish_row
publish_row-suits J p client m =
    at_place-has (EachSuits J) J p _ (unless_refused-has (EachSuits J) (publish_refusal J p m.exchange) _ (published-suits J p (Client (channel_of client)) m, tt))

-- a tag that isn't in use
none-there : (o : Option Consumer) → is_some o ≡ false → o ≡ None
none-there None h = refl
none-there (Some o) h = absurd (true≢false h)

consume_row-suits : (J : List Entry) (p : Place) (client : ℕ) (q tag : List ℕ) (no_ack : Bool) (prefetch : ℕ) → RowSuits J (consume_row J p client q tag no_ack prefetch)
unfolding consume_row
consume_row-suits J p client q tag no_ack prefetch =
    at_place-has (EachSuits J) J p _ (unless_known_refused-has (EachSuits J) (consume_refusal J p client q tag) _ (λ h. (none-there (consumer J p (channel_of client) tag) (tag-free (queue_refusal J p client q) (consumes J p client tag) h), tt)))

cancel_row-suits : (J : List Entry) (p : Place) (client : ℕ) (tag : List ℕ) → RowSuits J (cancel_row J p client tag)
unfolding cancel_row
cancel_row-suits J p client tag = at_place-has (EachSuits J) J p _ (either-has (EachSuits J) (consumes J p client tag) _ (Ok []) (tt, tt) tt)

deliver_to-suits : (J : List Entry) (p : Place) (client : ℕ) (tag : List ℕ) (o : Option Consumer) → RowSuits J (deliver_to J p client tag o)
deliver_to-suits J p client tag None = tt
deliver_to-suits J p client tag (Some k) =
    either-has (EachSuits J) (is_busy J p client tag k) _ _ tt (one_or_empty-has (EachSuits J) _ (first_ready J p k.queue) (λ c e. (e, tt)))

deliver_row-suits : (J : List Entry) (p : Place) (client : ℕ) (tag : List ℕ) → RowSuits J (deliver_row J p client tag)
unfolding deliver_row
deliver_row-suits J p client tag = at_place-has (EachSuits J) J p _ (deliver_to-suits J p client tag (consumer J p (channel_of client) tag))

get_row-suits : (J : List Entry) (p : Place) (client : ℕ) (q : List ℕ) (no_ack : Bool) → RowSuits J (get_row J p client q no_ack)
unfolding get_row
get_row-suits J p client q no_ack =
    at_place-has (EachSuits J) J p _ (unless_refused-has (EachSuits J) (queue_refusal J p client q) _ (one_or_empty-has (EachSuits J) _ (first_ready J p q) (λ c e. (e, tt))))

ack_row-suits : (J : List Entry) (p : Place) (client c : ℕ) → RowSuits J (ack_row J p client c)
unfolding ack_row
ack_row-suits J p client c = unless_known_refused-has (EachSuits J) (answer_refusal J p client c) _ (λ h. (answer-held J p client c h, tt))

reject_row-suits : (J : List Entry) (p : Place) (client c : ℕ) → RowSuits J (reject_row J p client c)
unfolding reject_row
reject_row-suits J p client c = unless_known_refused-has (EachSuits J) (answer_refusal J p client c) _ (λ h. (answer-held J p client c h, tt))

requeue_row-suits : (J : List Entry) (p : Place) (client c : ℕ) → RowSuits J (requeue_row J p client c)
unfolding requeue_row
requeue_row-suits J p client c = unless_known_refused-has (EachSuits J) (answer_refusal J p client c) _ (λ h. (answer-held J p client c h, tt))

purge_row-suits : (J : List Entry) (p : Place) (client : ℕ) (q : List ℕ) → RowSuits J (purge_row J p client q)
unfolding purge_row
purge_row-suits J p client q = at_place-has (EachSuits J) J p _ (unless_refused-has (EachSuits J) (queue_refusal J p client q) _ (tt, tt))

close_row-suits : (J : List Entry) (p : Place) (client : ℕ) → EachCaused [] J → RowSuits J (close_row J p client)
unfolding close_row
close_row-suits J p client caused = at_place-has (EachSuits J) J p _ (close-suits J p client caused)

flush_row-suits : (J : List Entry) (b : List ℕ) → RowSuits J (flush_row J b)
unfolding flush_row
flush_row-suits J b = either-has (EachSuits J) (is_broker J b) (Ok (Flushed b ∷ [])) (Err why.NoPlace) (tt, tt) tt

set_shovel_row-suits : (J : List Entry) (p : Place) (name : List ℕ) (shovel : Shovel) → RowSuits J (set_shovel_row J p name shovel)
unfolding set_shovel_row
set_shovel_row-suits J p name shovel =
    at_place-has (EachSuits J) J p _ (either-has (EachSuits J) (is_shovel_set J p name) (Ok []) (Ok (ShovelSet p name shovel ∷ [])) tt (tt, tt))

-- the target's queue is made where it is missing
target-suits : (K : List Entry) (target : Place) (q l : List ℕ) (s r : ℕ) (missing : Bool) → (missing ≡ true → queue_options K target q ≡ None) → EachSuits K (made_if missing target q ++ Opened l s r ∷ [])
target-suits K target q l s r true fresh = (fresh refl, (tt, tt))
target-suits K target q l s r false fresh = (tt, tt)

-- the source's queue before it
source-suits : (J : List Entry) (spec : LinkSpec) (source target : Place) (s r : ℕ) (missing : Bool) → not (stands J source spec.source_queue) ≡ missing → EachSuits J (made_if missing source spec.source_queue ++ made_if (is_target_missing J spec source target) target spec.target_queue ++ Opened spec.name s r ∷ [])
source-suits J spec source target s r true m =
    (not_there (queue_options J source spec.source_queue) m, target-suits (J ++ MadeQueue source spec.source_queue lasting None ∷ []) target spec.target_queue spec.name s r (is_target_missing J spec source target) (target-fresh J spec source target))
source-suits J spec source target s r false m =
    target-suits J target spec.target_queue spec.name s r (is_target_missing J spec source target) (target-missing J spec source target)

opened-suits : (J : List Entry) (spec : LinkSpec) (source target : Option Place) → RowSuits J (opened J spec source target)
opened-suits J spec (Some source) (Some target) =
    source-suits J spec source target (session J spec.name + 1) (ready_count J source spec.source_queue) (not (stands J source spec.source_queue)) refl
opened-suits J spec (Some source) None = tt
opened-suits J spec None target = tt

open_if_startable-suits : (J : List Entry) (spec : LinkSpec) (state : StartState) → RowSuits J (open_if_startable J spec state)
open_if_startable-suits J spec NoBroker = tt
open_if_startable-suits J spec NameTooLong = tt
open_if_startable-suits J spec Start =
    either-has (EachSuits J) (is_open (phase J spec.name)) (Err why.Live) _ tt
    (either-has (EachSuits J) (is_source_locked J spec.source spec.source_queue) (Err why.NoSource) _ tt (opened-suits J spec spec.source spec.target))

open_row-suits : (J : List Entry) (l : List ℕ) → RowSuits J (open_row J l)
unfolding open_row
open_row-suits J l = with_link-has (EachSuits J) J l _ (λ spec d. open_if_startable-suits J spec spec.start)

-- what the queue would hand out is ready
took-suits : (J : List Entry) (l : List ℕ) (s c : ℕ) (source : Option Place) (q : List ℕ) → first_ready_at J source q ≡ Some c → EachSuits J (Took l s c ∷ [])
took-suits J l s c source q e = (waiting-is (standing c J) (take-cause J source q c e).1, tt)

take_row-suits : (J : List Entry) (l : List ℕ) → RowSuits J (take_row J l)
unfolding take_row
take_row-suits J l =
    with_link-has (EachSuits J) J l _ (λ spec d. while_open-has (EachSuits J) J l _ (either-has (EachSuits J) (is_full J spec (session J l)) (Err why.Full) _ tt (one_or_empty-has (EachSuits J) _ (first_ready_at J spec.source spec.source_queue) (λ c e. took-suits J l (session J l) c spec.source spec.source_queue e))))

send_row-suits : (J : List Entry) (l : List ℕ) → RowSuits J (send_row J l)
unfolding send_row
send_row-suits J l =
    with_link-has (EachSuits J) J l _ (λ spec d. while_open-has (EachSuits J) J l _ (one_or_empty-has (EachSuits J) _ (oldest (flight_took J l (session J l))) (λ c e. (tt, tt))))

accepted-suits : (J : List Entry) (spec : LinkSpec) (c : ℕ) (target : Option Place) (x : Option Publication) → RowSuits J (accepted J spec c target x)
accepted-suits J spec c (Some target) (Some x) = (published-suits J target (Link spec.name (session J spec.name) c) (outgoing spec x.message), tt)
accepted-suits J spec c (Some target) None = tt
accepted-suits J spec c None x = tt

accept_first-suits : (J : List Entry) (spec : LinkSpec) (c : Option ℕ) → RowSuits J (accept_first J spec c)
accept_first-suits J spec None = tt
accept_first-suits J spec (Some c) = accepted-suits J spec c spec.target (publication_of c J)

accept_row-suits : (J : List Entry) (l : List ℕ) → RowSuits J (accept_row J l)
unfolding accept_row
accept_row-suits J l =
    with_link-has (EachSuits J) J l _ (λ spec d. while_open-has (EachSuits J) J l _ (accept_first-suits J spec (oldest (flight_sent J l (session J l)))))

-- what is found is secured
confirmed-suits : (J : List Entry) (l : List ℕ) (s : ℕ) (ps : List ℕ) (o : Option ℕ) → find (is_secured J) ps ≡ o → RowSuits J (confirmed l s o)
confirmed-suits J l s ps None e = tt
confirmed-suits J l s ps (Some p) e = ((find-in (is_secured J) p ps e).0, tt)

confirm_first-suits : (J : List Entry) (l : List ℕ) (s : ℕ) (ps : List ℕ) → RowSuits J (confirm_first J l s ps)
confirm_first-suits J l s [] = tt
confirm_first-suits J l s (p ∷ ps) = confirmed-suits J l s (p ∷ ps) (find (is_secured J) (p ∷ ps)) refl

confirm_row-suits : (J : List Entry) (l : List ℕ) → RowSuits J (confirm_row J l)
unfolding confirm_row
confirm_row-suits J l =
    with_link-has (EachSuits J) J l _ (λ spec d. while_open-has (EachSuits J) J l _ (confirm_first-suits J l (session J l) (flight_published J l (session J l))))

note_row-suits : (J : List Entry) (l : List ℕ) → RowSuits J (note_row J l)
unfolding note_row
note_row-suits J l =
    with_link-has (EachSuits J) J l _ (λ spec d. while_open-has (EachSuits J) J l _ (one_or_empty-has (EachSuits J) _ (oldest (flight_confirmed J l (session J l))) (λ c e. (tt, tt))))

settle_row-suits : (J : List Entry) (l : List ℕ) → RowSuits J (settle_row J l)
unfolding settle_row
settle_row-suits J l =
    with_link-has (EachSuits J) J l _ (λ spec d. while_open-has (EachSuits J) J l _ (one_or_empty-has (EachSuits J) _ (oldest (flight_noted J l (session J l))) (λ c e. (tt, tt))))

-- whatever the event
row-suits : (J : List Entry) (event : Event) → EachCaused [] J → RowSuits J (next J event)
row-suits J (DeclareQueue p c q options) caused = declare_row-suits J p c q options
row-suits J (DeclareExchange p c x shape) caused = declare_exchange_row-suits J p x shape
row-suits J (Bind p c b) caused = bind_row-suits J p c b
row-suits J (Unbind p c b) caused = unbind_row-suits J p c b
row-suits J (Publish p c m) caused = publish_row-suits J p c m
row-suits J (Consume p client q tag no_ack prefetch) caused = consume_row-suits J p client q tag no_ack prefetch
row-suits J (Cancel p client tag) caused = cancel_row-suits J p client tag
row-suits J (Deliver p client tag) caused = deliver_row-suits J p client tag
row-suits J (Get p client q no_ack) caused = get_row-suits J p client q no_ack
row-suits J (Ack p client c) caused = ack_row-suits J p client c
row-suits J (Reject p client c) caused = reject_row-suits J p client c
row-suits J (Requeue p client c) caused = requeue_row-suits J p client c
row-suits J (Purge p client q) caused = purge_row-suits J p client q
row-suits J (Close p client) caused = close_row-suits J p client caused
row-suits J (Flush b) caused = flush_row-suits J b
row-suits J (SetShovel p name shovel) caused = set_shovel_row-suits J p name shovel
row-suits J (Open l) caused = open_row-suits J l
row-suits J (Take l) caused = take_row-suits J l
row-suits J (Send l) caused = send_row-suits J l
row-suits J (Accept l) caused = accept_row-suits J l
row-suits J (Confirm l) caused = confirm_row-suits J l
row-suits J (Note l) caused = note_row-suits J l
row-suits J (Settle l) caused = settle_row-suits J l
row-suits J Show caused = tt

row-is : (J : List Entry) (row : Row) → RowSuits J row → fits.RowSuits J row
row-is J (Ok entries) h = h
row-is J (Err reason) h = tt

pub next-suits : (J : List Entry) (event : Event) → EachCaused [] J → fits.RowSuits J (next J event)
next-suits J event caused = row-is J (next J event) (row-suits J event caused)

-- the brokers' entries suit a journal of brokers
pub begin-suits : (J : List Entry) (brokers : List (List ℕ)) → list_all is_begun J ≡ true → EachSuits J (begin brokers)
begin-suits J [] h = tt
begin-suits J (b ∷ bs) h = (h, begin-suits (J ++ begun b ∷ []) bs (list_all-append is_begun J (begun b ∷ []) ∙ ap (λ v. v && true) h))
