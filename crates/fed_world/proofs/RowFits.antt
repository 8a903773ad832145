-- Each row brings entries that fit.
use Rattle.std.proofs.Common.{ℕ, ◌+◌, ◌≤◌, ◌<◌, ◌^◌, List, [], ◌∷◌, ◌++◌, length, Bool, true, false, Option, Some, None, arith, sym, subst, append_assoc, length-append}
use Rattle.std.proofs.lemmas.List.Elements.{All-head, All-tail}
use Rattle.std.specs.Prelude.{All, Result, Ok, Err, not, if◌then◌else◌, find, map}
use Rattle.fed_journal.specs.declared.place.Place.{Place}
use Rattle.amqp_props.specs.declared.message.Message.{Message}
use Rattle.fed_journal.specs.declared.event.Event.{Event}
use Rattle.fed_journal.specs.declared.event.Event.TheVariants.{DeclareQueue, DeclareExchange, Bind, Unbind, Publish, Consume, Cancel, Deliver, Get, Ack, Reject, Requeue, Purge, Close, Flush, SetShovel, Open, Take, Send, Accept, Confirm, Note, Settle, Show}
use Rattle.fed_journal.specs.declared.event.Shovel.{Shovel}
use Rattle.fed_journal.specs.declared.link.LinkSpec.{LinkSpec}
use Rattle.fed_journal.specs.declared.link.StartState.{StartState}
use Rattle.fed_journal.specs.declared.link.StartState.TheVariants.{Start, NoBroker, NameTooLong}
use Rattle.fed_journal.specs.declared.entry.Publisher.{Publisher}
use Rattle.fed_journal.specs.declared.entry.Publisher.TheVariants.{Client, Link}
use Rattle.fed_journal.specs.declared.entry.Publication.{Publication}
use Rattle.fed_journal.specs.declared.entry.Entry.{Entry}
use Rattle.fed_journal.specs.declared.entry.Entry.TheVariants.{MadeQueue, GoneQueue, Closed, Published, Flushed, ShovelSet, Opened}
use Rattle.fed_journal.specs.Configuration.{is_place, is_broker}
use Rattle.fed_journal.specs.Copies.{copy_count, publication_of, is_copy_of, is_secured}
use Rattle.fed_journal.specs.Links.{link_of, is_shovel_set}
use Rattle.fed_journal.specs.Phases.{phase, session, is_open}
use Rattle.fed_journal.specs.Holds.{first_ready, ready_count}
use Rattle.fed_journal.specs.Consumers.{Consumer, consumer}
use Rattle.fed_journal.specs.Outgoing.{outgoing}
use Rattle.fed_journal.specs.Flight.{flight_took, flight_sent, flight_published, flight_confirmed, flight_noted}
use Rattle.fed_journal.specs.declared.reason.Reason.{Reason}
use Rattle.fed_journal.specs.declared.reason.Reason.TheVariants as why
use Rattle.fed_journal.specs.Row.{Row, at_place, with_link, with_spec, while_open, unless_refused, lock_refusal, queue_refusal, channel_of, one_or_empty, oldest, made_row}
use Rattle.fed_journal.specs.Answer.{answer_refusal, ack_row, reject_row, requeue_row}
use Rattle.fed_journal.specs.Consume.{consumes, consume_refusal, consume_row, cancel_row}
use Rattle.fed_journal.specs.Deliver.{is_busy, deliver_to, deliver_row}
use Rattle.fed_journal.specs.Get.{get_row}
use Rattle.fed_journal.specs.Purge.{purge_row}
use Rattle.fed_journal.specs.Close.{close_row}
use Rattle.fed_journal.specs.Declare.{declare_row, queue_declared, declare_exchange_row, exchange_declared, stands, lasting}
use Rattle.fed_journal.specs.Publish.{publish_row, publish_refusal, published, first_copy}
use Rattle.amqp_props.specs.declared.link.QueueOptions.{QueueOptions}
use Rattle.route_core.specs.declared.binding.Binding.{Binding}
use Rattle.client_rules.specs.declared.client.ExchangeShape.{ExchangeShape}
use Rattle.fed_journal.specs.Configuration.{queue_options, exchange_shape, queues_owned}
use Rattle.fed_journal.specs.Routes.{is_bound, routes}
use Rattle.fed_journal.specs.Bind.{bind_refusal, bind_row, unbind_row}
use Rattle.fed_journal.specs.Flush.{flush_row}
use Rattle.fed_world.specs.SetShovel.{set_shovel_row}
use Rattle.fed_world.specs.Open.{open_row, opened, is_source_locked, open_if_startable, made_if, is_target_missing}
use Rattle.fed_world.specs.Take.{take_row, is_full, first_ready_at}
use Rattle.fed_world.specs.Send.{send_row}
use Rattle.fed_world.specs.Accept.{accept_row, accept_first, accepted}
use Rattle.fed_world.specs.Confirm.{confirm_row, confirm_first, confirmed}
use Rattle.fed_world.specs.Note.{note_row}
use Rattle.fed_world.specs.Settle.{settle_row}
use Rattle.fed_journal.specs.Limits.{most_entries}
use Rattle.field_tables.specs.Tables.{IsTable}
use Rattle.fed_journal.specs.Events.{IsWritable}
use Rattle.fed_journal.specs.SiteLaws.{routes-few}
use Rattle.fed_journal.specs.Sizes.{IsMessage, IsSized}
use Rattle.fed_world.specs.Step.{next}
use Rattle.fed_world.specs.Fits.{FitsEntry, EachFits, RowFits}

pub at_place-fits : (J : List Entry) (p : Place) (row : Row) → RowFits J row → RowFits J (at_place J p row)
at_place-fits J p row h = elim (is_place J p) as (λ b. RowFits J (if b then row else Err why.NoPlace)) [ true ↦ h | false ↦ tt ]

with_spec-fits : (J : List Entry) (row : LinkSpec → Row) (spec : Option LinkSpec) → ((s : LinkSpec) → RowFits J (row s)) → RowFits J (with_spec row spec)
with_spec-fits J row None h = tt
with_spec-fits J row (Some s) h = h s

pub with_link-fits : (J : List Entry) (l : List ℕ) (row : LinkSpec → Row) → ((s : LinkSpec) → RowFits J (row s)) → RowFits J (with_link J l row)
with_link-fits J l row h = with_spec-fits J row (link_of J l) h

pub while_open-fits : (J : List Entry) (l : List ℕ) (row : Row) → RowFits J row → RowFits J (while_open J l row)
while_open-fits J l row h = elim (is_open (phase J l)) as (λ b. RowFits J (if b then row else Err why.NotOpen)) [ true ↦ h | false ↦ tt ]

pub one_or_empty-fits : (J : List Entry) (entry : ℕ → Entry) (n : Option ℕ) → ((m : ℕ) → FitsEntry J (entry m)) → RowFits J (one_or_empty entry n)
one_or_empty-fits J entry None h = tt
one_or_empty-fits J entry (Some m) h = (h m, tt)

unless_refused-fits : (J : List Entry) (o : Option Reason) (row : Row) → RowFits J row → RowFits J (unless_refused o row)
unless_refused-fits J None row h = h
unless_refused-fits J (Some reason) row h = tt

either-fits : (J : List Entry) (b : Bool) (yes' no' : Row) → RowFits J yes' → RowFits J no' → RowFits J (if b then yes' else no')
either-fits J true yes' no' h k = h
either-fits J false yes' no' h k = k

get_row-fits : (J : List Entry) (p : Place) (client : ℕ) (q : List ℕ) (no_ack : Bool) → RowFits J (get_row J p client q no_ack)
unfolding get_row
get_row-fits J p client q no_ack =
    at_place-fits J p _ (unless_refused-fits J (queue_refusal J p client q) _ (one_or_empty-fits J _ (first_ready J p q) (λ m. tt)))

deliver_to-fits : (J : List Entry) (p : Place) (client : ℕ) (tag : List ℕ) (o : Option Consumer) → RowFits J (deliver_to J p client tag o)
deliver_to-fits J p client tag None = tt
deliver_to-fits J p client tag (Some k) = either-fits J (is_busy J p client tag k) _ _ tt (one_or_empty-fits J _ (first_ready J p k.queue) (λ m. tt))

deliver_row-fits : (J : List Entry) (p : Place) (client : ℕ) (tag : List ℕ) → RowFits J (deliver_row J p client tag)
unfolding deliver_row
deliver_row-fits J p client tag = at_place-fits J p _ (deliver_to-fits J p client tag (consumer J p (channel_of client) tag))

ack_row-fits : (J : List Entry) (p : Place) (client c : ℕ) → RowFits J (ack_row J p client c)
unfolding ack_row
ack_row-fits J p client c = unless_refused-fits J (answer_refusal J p client c) _ (tt, tt)

reject_row-fits : (J : List Entry) (p : Place) (client c : ℕ) → RowFits J (reject_row J p client c)
unfolding reject_row
reject_row-fits J p client c = unless_refused-fits J (answer_refusal J p client c) _ (tt, tt)

requeue_row-fits : (J : List Entry) (p : Place) (client c : ℕ) → RowFits J (requeue_row J p client c)
unfolding requeue_row
requeue_row-fits J p client c = unless_refused-fits J (answer_refusal J p client c) _ (tt, tt)

consume_row-fits : (J : List Entry) (p : Place) (client : ℕ) (q tag : List ℕ) (no_ack : Bool) (prefetch : ℕ) → RowFits J (consume_row J p client q tag no_ack prefetch)
unfolding consume_row
consume_row-fits J p client q tag no_ack prefetch =
    at_place-fits J p _ (unless_refused-fits J (consume_refusal J p client q tag) _ (tt, tt))

cancel_row-fits : (J : List Entry) (p : Place) (client : ℕ) (tag : List ℕ) → RowFits J (cancel_row J p client tag)
unfolding cancel_row
cancel_row-fits J p client tag = at_place-fits J p _ (either-fits J (consumes J p client tag) _ (Ok []) (tt, tt) tt)

purge_row-fits : (J : List Entry) (p : Place) (client : ℕ) (q : List ℕ) → RowFits J (purge_row J p client q)
unfolding purge_row
purge_row-fits J p client q = at_place-fits J p _ (unless_refused-fits J (queue_refusal J p client q) _ (tt, tt))

gone-fits : (J : List Entry) (p : Place) (qs : List (List ℕ)) → EachFits J (map (GoneQueue p) qs)
gone-fits J p [] = tt
gone-fits J p (q ∷ qs) = (tt, gone-fits (J ++ GoneQueue p q ∷ []) p qs)

close_row-fits : (J : List Entry) (p : Place) (client : ℕ) → RowFits J (close_row J p client)
unfolding close_row
close_row-fits J p client = at_place-fits J p _ (tt, gone-fits (J ++ Closed p client ∷ []) p (queues_owned J p client))

flush_row-fits : (J : List Entry) (b : List ℕ) → RowFits J (flush_row J b)
unfolding flush_row
flush_row-fits J b = elim (is_broker J b) as (λ v. RowFits J (if v then Ok (Flushed b ∷ []) else Err why.NoPlace)) [ true ↦ (tt, tt) | false ↦ tt ]

set_shovel_row-fits : (J : List Entry) (p : Place) (name : List ℕ) (shovel : Shovel) → RowFits J (set_shovel_row J p name shovel)
unfolding set_shovel_row
set_shovel_row-fits J p name shovel =
    at_place-fits J p _
    (elim (is_shovel_set J p name) as (λ v. RowFits J (if v then Ok [] else Ok (ShovelSet p name shovel ∷ []))) [ true ↦ tt | false ↦ (tt, tt) ])

made-fits : (J : List Entry) (entry : Entry) (answer : Result Bool Reason) → FitsEntry J entry → RowFits J (made_row entry answer)
made-fits J entry (Ok true) fits = (fits, tt)
made-fits J entry (Ok false) fits = tt
made-fits J entry (Err reason) fits = tt

declare_row-fits : (J : List Entry) (p : Place) (client : ℕ) (q : List ℕ) (options : QueueOptions) → RowFits J (declare_row J p client q options)
unfolding declare_row
declare_row-fits J p client q options =
    at_place-fits J p _ (made-fits J _ (queue_declared J p client q options) tt)

declare_exchange_row-fits : (J : List Entry) (p : Place) (x : List ℕ) (shape : ExchangeShape) → RowFits J (declare_exchange_row J p x shape)
unfolding declare_exchange_row
declare_exchange_row-fits J p x shape =
    at_place-fits J p _ (made-fits J _ (exchange_declared J p x shape) tt)

bind_row-fits : (J : List Entry) (p : Place) (client : ℕ) (b : Binding) → IsTable b.args → RowFits J (bind_row J p client b)
unfolding bind_row
bind_row-fits J p client b t =
    at_place-fits J p _ (unless_refused-fits J (bind_refusal J p client b) _ (either-fits J (is_bound J p b) (Ok []) _ tt (t, tt)))

unbind_row-fits : (J : List Entry) (p : Place) (client : ℕ) (b : Binding) → RowFits J (unbind_row J p client b)
unfolding unbind_row
unbind_row-fits J p client b =
    at_place-fits J p _ (unless_refused-fits J (bind_refusal J p client b) _ (either-fits J (is_bound J p b) _ (Ok []) (tt, tt) tt))

-- copies of a message in so many queues have numbers that fit
routes-fit : (J : List Entry) (queues : List (List ℕ)) → length queues ≤ 2 ^ 32 → copy_count J < 2 ^ 63 → first_copy J queues + length queues < 2 ^ 64
routes-fit J [] few small = omega arith
routes-fit J (q ∷ qs) few small = omega (arith, few, small)

published-fits : (J : List Entry) (p : Place) (by : Publisher) (m : Message) → IsMessage m → length J ≤ most_entries → copy_count J < 2 ^ 63 → FitsEntry J (published J p by m)
published-fits J p by m t within small = (routes-fit J (routes J p m) (omega (arith, routes-few J p m, within)) small, t)

publish_row-fits : (J : List Entry) (p : Place) (client : ℕ) (m : Message) → IsMessage m → length J ≤ most_entries → copy_count J < 2 ^ 63 → RowFits J (publish_row J p client m)
unfolding publish_row
publish_row-fits J p client m t within small =
    at_place-fits J p _ (unless_refused-fits J (publish_refusal J p m.exchange) _ (published-fits J p (Client (channel_of client)) m t within small, tt))

-- a link's message has the properties and the body of the one that it took
outgoing-sized : (spec : LinkSpec) (m : Message) → IsMessage m → IsMessage (outgoing spec m)
outgoing-sized spec m t = record { short = t.short; body = t.body }

abbrev IsSizedSource : Option Publication → Type 0
IsSizedSource None = Unit {0}
IsSizedSource (Some x) = IsMessage x.message

source-sized : (c : ℕ) (J : List Entry) → All IsSized J → IsSizedSource (publication_of c J)
unfolding publication_of
source-sized c [] h = tt
source-sized c (Published x ∷ J) h =
    elim (is_copy_of x c) as (λ v. IsSizedSource (if v then Some x else publication_of c J)) [
      | true ↦ All-head IsSized (Published x) J h
      | false ↦ source-sized c J (All-tail IsSized (Published x) J h)
    ]
source-sized c (e ∷ J) h = source-sized c J (All-tail IsSized e J h)

accepted-fits : (J : List Entry) (spec : LinkSpec) (c : ℕ) (target : Option Place) (x : Option Publication) → IsSizedSource x → length J ≤ most_entries → copy_count J < 2 ^ 63 → RowFits J (accepted J spec c target x)
accepted-fits J spec c (Some target) (Some x) t within small = (published-fits J target (Link spec.name (session J spec.name) c) (outgoing spec x.message) (outgoing-sized spec x.message t) within small, tt)
accepted-fits J spec c (Some target) None t within small = tt
accepted-fits J spec c None x t within small = tt

accept_first-fits : (J : List Entry) (spec : LinkSpec) (c : Option ℕ) → All IsSized J → length J ≤ most_entries → copy_count J < 2 ^ 63 → RowFits J (accept_first J spec c)
accept_first-fits J spec None sized within small = tt
accept_first-fits J spec (Some c) sized within small = accepted-fits J spec c spec.target (publication_of c J) (source-sized c J sized) within small

accept_row-fits : (J : List Entry) (l : List ℕ) → All IsSized J → length J ≤ most_entries → copy_count J < 2 ^ 63 → RowFits J (accept_row J l)
unfolding accept_row
accept_row-fits J l sized within small =
    with_link-fits J l _ (λ spec. while_open-fits J l _ (accept_first-fits J spec (oldest (flight_sent J l (session J l))) sized within small))

confirmed-fits : (J : List Entry) (l : List ℕ) (s : ℕ) (p : Option ℕ) → RowFits J (confirmed l s p)
confirmed-fits J l s None = tt
confirmed-fits J l s (Some p) = (tt, tt)

confirm_first-fits : (J : List Entry) (l : List ℕ) (s : ℕ) (ps : List ℕ) → RowFits J (confirm_first J l s ps)
confirm_first-fits J l s [] = tt
confirm_first-fits J l s (p ∷ ps) = confirmed-fits J l s (find (is_secured J) (p ∷ ps))

confirm_row-fits : (J : List Entry) (l : List ℕ) → RowFits J (confirm_row J l)
unfolding confirm_row
confirm_row-fits J l = with_link-fits J l _ (λ spec. while_open-fits J l _ (confirm_first-fits J l (session J l) (flight_published J l (session J l))))

take_row-fits : (J : List Entry) (l : List ℕ) → RowFits J (take_row J l)
unfolding take_row
take_row-fits J l = with_link-fits J l _ (λ spec. while_open-fits J l _ (either-fits J (is_full J spec (session J l)) (Err why.Full) _ tt (one_or_empty-fits J _ (first_ready_at J spec.source spec.source_queue) (λ m. tt))))

send_row-fits : (J : List Entry) (l : List ℕ) → RowFits J (send_row J l)
unfolding send_row
send_row-fits J l = with_link-fits J l _ (λ spec. while_open-fits J l _ (one_or_empty-fits J _ (oldest (flight_took J l (session J l))) (λ m. tt)))

note_row-fits : (J : List Entry) (l : List ℕ) → RowFits J (note_row J l)
unfolding note_row
note_row-fits J l = with_link-fits J l _ (λ spec. while_open-fits J l _ (one_or_empty-fits J _ (oldest (flight_confirmed J l (session J l))) (λ m. tt)))

settle_row-fits : (J : List Entry) (l : List ℕ) → RowFits J (settle_row J l)
unfolding settle_row
settle_row-fits J l = with_link-fits J l _ (λ spec. while_open-fits J l _ (one_or_empty-fits J _ (oldest (flight_noted J l (session J l))) (λ m. tt)))

-- a declaration fits, and so does what follows it
made_if-fits : (J : List Entry) (missing : Bool) (p : Place) (q : List ℕ) (es : List Entry) → ((K : List Entry) → length J ≤ length K → EachFits K es) → EachFits J (made_if missing p q ++ es)
made_if-fits J true p q es h = (tt, h (J ++ MadeQueue p q lasting None ∷ []) (simp length-append (omega arith)))
made_if-fits J false p q es h = h J (omega arith)

opened-fits : (J : List Entry) (spec : LinkSpec) (source target : Option Place) → session J spec.name ≤ length J → RowFits J (opened J spec source target)
opened-fits J spec (Some source) (Some target) h =
    subst (EachFits J) (sym (append_assoc (made_if (not (stands J source spec.source_queue)) source spec.source_queue) (made_if (is_target_missing J spec source target) target spec.target_queue) (Opened spec.name (session J spec.name + 1) (ready_count J source spec.source_queue) ∷ [])))
    (made_if-fits J (not (stands J source spec.source_queue)) source spec.source_queue _
    (λ K k. made_if-fits K (is_target_missing J spec source target) target spec.target_queue _ (λ L l. (omega arith, tt))))
opened-fits J spec (Some source) None h = tt
opened-fits J spec None target h = tt

open_if_startable-fits : (J : List Entry) (spec : LinkSpec) (state : StartState) → session J spec.name ≤ length J → RowFits J (open_if_startable J spec state)
open_if_startable-fits J spec NoBroker h = tt
open_if_startable-fits J spec NameTooLong h = tt
open_if_startable-fits J spec Start h =
    either-fits J (is_open (phase J spec.name)) (Err why.Live) _ tt
    (either-fits J (is_source_locked J spec.source spec.source_queue) (Err why.NoSource) (opened J spec spec.source spec.target) tt (opened-fits J spec spec.source spec.target h))

open_row-fits : (J : List Entry) (l : List ℕ) → ((k : List ℕ) → session J k ≤ length J) → RowFits J (open_row J l)
unfolding open_row
open_row-fits J l h = with_link-fits J l _ (λ spec. open_if_startable-fits J spec spec.start (h spec.name))

-- whatever the event, its entries fit
pub next-fits : (J : List Entry) (e : Event) → IsWritable e → length J ≤ most_entries → copy_count J < 2 ^ 63 → ((k : List ℕ) → session J k ≤ length J) → All IsSized J → RowFits J (next J e)
next-fits J (DeclareQueue p c q options) w within small h sized = declare_row-fits J p c q options
next-fits J (DeclareExchange p c x shape) w within small h sized = declare_exchange_row-fits J p x shape
next-fits J (Bind p c b) w within small h sized = bind_row-fits J p c b w
next-fits J (Unbind p c b) w within small h sized = unbind_row-fits J p c b
next-fits J (Publish p c m) w within small h sized = publish_row-fits J p c m w within small
next-fits J (Consume p client q tag no_ack prefetch) w within small h sized = consume_row-fits J p client q tag no_ack prefetch
next-fits J (Cancel p client tag) w within small h sized = cancel_row-fits J p client tag
next-fits J (Deliver p client tag) w within small h sized = deliver_row-fits J p client tag
next-fits J (Get p client q no_ack) w within small h sized = get_row-fits J p client q no_ack
next-fits J (Ack p client c) w within small h sized = ack_row-fits J p client c
next-fits J (Reject p client c) w within small h sized = reject_row-fits J p client c
next-fits J (Requeue p client c) w within small h sized = requeue_row-fits J p client c
next-fits J (Purge p client q) w within small h sized = purge_row-fits J p client q
next-fits J (Close p client) w within small h sized = close_row-fits J p client
next-fits J (Flush b) w within small h sized = flush_row-fits J b
next-fits J (SetShovel p name shovel) w within small h sized = set_shovel_row-fits J p name shovel
next-fits J (Open l) w within small h sized = open_row-fits J l h
next-fits J (Take l) w within small h sized = take_row-fits J l
next-fits J (Send l) w within small h sized = send_row-fits J l
next-fits J (Accept l) w within small h sized = accept_row-fits J l sized within small
next-fits J (Confirm l) w within small h sized = confirm_row-fits J l
next-fits J (Note l) w within small h sized = note_row-fits J l
next-fits J (Settle l) w within small h sized = settle_row-fits J l
next-fits J Show w within small h sized = tt
