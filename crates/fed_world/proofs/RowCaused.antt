-- Each event appends entries that have their causes.
use Rattle.std.proofs.Common.{◌≡◌, ℕ, ◌+◌, List, [], ◌∷◌, ◌++◌, Bool, true, false, Option, Some, None, refl, sym, ap, subst, inl, inr}
use Rattle.std.specs.Prelude.{Ok, Err, not, cond, ◌&&◌, ◌||◌, is_some, map, find, filter, filter_map}
use Rattle.std.specs.List.{list_any}
use Rattle.std.proofs.lemmas.Bool.{true≢false, false≢true, not_from_false, not-true}
use Rattle.std.proofs.lemmas.Option.{none-some, same_Some}
use Rattle.fed_journal.specs.declared.place.Place.{Place}
use Rattle.fed_journal.specs.declared.event.Event.{Event}
use Rattle.fed_journal.specs.declared.event.Event.TheVariants.{DeclareQueue, DeclareExchange, Bind, Unbind, Publish, Consume, Cancel, Deliver, Get, Ack, Reject, Requeue, Purge, Close, Flush, SetShovel, Open, Take, Send, Accept, Confirm, Note, Settle, Show}
use Rattle.fed_journal.specs.declared.event.Shovel.{Shovel}
use Rattle.fed_journal.specs.declared.link.LinkSpec.{LinkSpec}
use Rattle.fed_journal.specs.declared.link.StartState.{StartState}
use Rattle.fed_journal.specs.declared.link.StartState.TheVariants.{Start, NoBroker, NameTooLong}
use Rattle.fed_journal.specs.declared.entry.Publication.{Publication}
use Rattle.fed_journal.specs.declared.entry.Entry.{Entry}
use Rattle.fed_journal.specs.declared.entry.Entry.TheVariants.{MadeQueue, GoneQueue, Closed, Published, Flushed, Took, Sent, Confirmed, Noted, Opened, ShovelSet}
use Rattle.fed_journal.specs.Configuration.{is_broker, is_queue, options_step, queue_owner, is_connection_in, is_exclusive_in, is_exclusive, queues_of, goes_with, queues_owned}
use Rattle.fed_journal.specs.Names.{same_text, same_place}
use Rattle.fed_journal.specs.Copies.{enters, entered, entered_by, is_secured, publication_of}
use Rattle.fed_journal.specs.Flight.{has, taken_by, sent_by, published_from, published_by, confirmed_to, noted_by, settled_for, confirmed_copy, flight_took, flight_sent, flight_published, flight_confirmed, flight_noted}
use Rattle.fed_journal.specs.Holds.{is_ready, is_held_by, first_ready, ready_count}
use Rattle.fed_journal.specs.Consumers.{Consumer, consumer}
use Rattle.fed_journal.specs.Links.{link_of, links_of, is_named, is_shovel_set}
use Rattle.fed_journal.specs.Phases.{phase, session, is_open}
use Rattle.broker_view.proofs.Names.{same_text-true}
use Rattle.broker_view.proofs.Configured.{options-push}
use Rattle.fed_journal.specs.declared.reason.Reason.TheVariants as why
use Rattle.fed_journal.specs.Row.{oldest, lock_refusal, queue_refusal, channel_of}
use Rattle.fed_journal.specs.Answer.{answer_refusal, ack_row, reject_row, requeue_row}
use Rattle.fed_journal.specs.Consume.{consumes, consume_refusal, consume_row, cancel_row}
use Rattle.fed_journal.specs.Deliver.{is_busy, deliver_to, deliver_row}
use Rattle.fed_journal.specs.Get.{get_row}
use Rattle.fed_journal.specs.Purge.{purge_row}
use Rattle.fed_journal.specs.Close.{close_row}
use Rattle.fed_journal.specs.Declare.{declare_row, queue_declared, declare_exchange_row, exchange_declared, stands, lasting}
use Rattle.fed_journal.specs.Publish.{publish_row, publish_refusal}
use Rattle.amqp_props.specs.declared.link.QueueOptions.{QueueOptions}
use Rattle.amqp_props.specs.declared.message.Message.{Message}
use Rattle.route_core.specs.declared.binding.Binding.{Binding}
use Rattle.client_rules.specs.declared.client.ExchangeShape.{ExchangeShape}
use Rattle.fed_journal.specs.Configuration.{queue_options, exchange_shape}
use Rattle.fed_journal.specs.Routes.{is_bound}
use Rattle.fed_journal.specs.Bind.{bind_refusal, bind_row, unbind_row}
use Rattle.fed_journal.specs.Flush.{flush_row}
use Rattle.fed_world.specs.SetShovel.{set_shovel_row}
use Rattle.fed_world.specs.Open.{open_row, opened, is_source_locked, open_if_startable, made_if, is_target_missing}
use Rattle.fed_world.specs.Take.{take_row, is_full, first_ready_at}
use Rattle.fed_world.specs.Send.{send_row}
use Rattle.fed_world.specs.Accept.{accept_row, accept_first, accepted}
use Rattle.fed_world.specs.Confirm.{confirm_row, confirm_first, confirmed}
use Rattle.fed_world.specs.Note.{note_row}
use Rattle.fed_world.specs.Settle.{settle_row}
use Rattle.fed_world.specs.Step.{next}
use Rattle.fed_world.specs.Kept.{StandsAfter, IsPublishedFor}
use Rattle.fed_world.proofs.Causes.{is_shared, is_shared_in, Caused, EachCaused, WasConfirmed, WasNoted}
use Rattle.fed_world.proofs.Inversions.{taken_by-is, sent_by-is, noted_by-is, confirmed_copy-is, Confirms, publishes-is, Publishes}
use Rattle.fed_world.proofs.Lists.{IsIn, Split, first-in, find-in, filter-in, filter_map-in, any-middle}
use Rattle.fed_world.proofs.Described.{link_of-made}
use Rattle.fed_world.proofs.LastOpened.{last-opened}
use Rattle.std.proofs.Common.{◌∙◌}
use Rattle.std.specs.Prelude.{codes}
use Rattle.std.proofs.lemmas.Bool.{and_parts}
use Rattle.fed_journal.specs.Configuration.{is_place}
use Rattle.fed_world.proofs.Declared.{queue-made}
use Rattle.fed_world.proofs.RowHas.{unless_refused-has, unless_known_refused-has, if_not-has, at_known_place-has, while_known_open-has, RowHas, either-has, at_place-has, with_link-has, while_open-has, one_or_empty-has, made_row-has}
use Rattle.fed_world.proofs.Homes.{entered_by-enters}
use Rattle.fed_world.proofs.Queues.{shared-push, is_queue-refl, is_queue-other}

-- the place of an entry that is known to be another
stands-as : (J : List Entry) (P : Entry → Type 0) (e : Entry) (s : Split P J) → s.at ≡ e → StandsAfter s.before e J
stands-as J P e s same = (s.rest, subst (λ d. J ≡ s.before ++ d ∷ s.rest) same s.whole)

-- the first of a stage's list has passed its test, and stands in the journal
first-split : (f : Entry → Option ℕ) (p : ℕ → Bool) (c : ℕ) (J : List Entry) → oldest (filter p (filter_map f J)) ≡ Some c → (p c ≡ true) × Split (λ e. f e ≡ Some c) J
first-split f p c J h =
    let found : (p c ≡ true) × IsIn c (filter_map f J) = filter-in p c (filter_map f J) (first-in c (filter p (filter_map f J)) h) in
    (found.0, filter_map-in f c J found.1)

sent-cause : (J : List Entry) (l : List ℕ) (s c : ℕ) → oldest (flight_took J l s) ≡ Some c → (before : List Entry) × StandsAfter before (Took l s c) J
unfolding flight_took
sent-cause J l s c h =
    let found : Split (λ e. taken_by l s e ≡ Some c) J = (first-split (taken_by l s) (λ d. not (has (sent_by l s) d J)) c J h).1 in
    (found.before, stands-as J (λ e. taken_by l s e ≡ Some c) (Took l s c) found (taken_by-is l s c found.at found.holds))

accept-cause : (J : List Entry) (l : List ℕ) (s c : ℕ) → oldest (flight_sent J l s) ≡ Some c → (before : List Entry) × StandsAfter before (Sent l s c) J
unfolding flight_sent
accept-cause J l s c h =
    let found : Split (λ e. sent_by l s e ≡ Some c) J = (first-split (sent_by l s) (λ d. not (has (published_from l s) d J)) c J h).1 in
    (found.before, stands-as J (λ e. sent_by l s e ≡ Some c) (Sent l s c) found (sent_by-is l s c found.at found.holds))

note-cause : (J : List Entry) (l : List ℕ) (s c : ℕ) → oldest (flight_confirmed J l s) ≡ Some c → WasConfirmed J l s c
unfolding flight_confirmed
note-cause J l s c h =
    let found : Split (λ e. confirmed_copy J l s e ≡ Some c) J = (first-split (confirmed_copy J l s) (λ d. not (has (noted_by l s) d J)) c J h).1 in
    let confirms : Confirms J l s c found.at = confirmed_copy-is J l s c found.at found.holds in
    record {
      before = found.before;
      number = confirms.number;
      publication = confirms.publication;
      confirmed = stands-as J (λ e. confirmed_copy J l s e ≡ Some c) (Confirmed l s confirms.number) found confirms.entry;
      found = confirms.found;
      by = confirms.by;
    }

settle-cause : (J : List Entry) (l : List ℕ) (s c : ℕ) (spec : LinkSpec) → link_of J l ≡ Some spec → oldest (flight_noted J l s) ≡ Some c → WasNoted J l s c
unfolding flight_noted
settle-cause J l s c spec d h =
    let found : (not (has (settled_for l s) c J) ≡ true) × Split (λ e. noted_by l s e ≡ Some c) J = first-split (noted_by l s) (λ d. not (has (settled_for l s) d J)) c J h in
    let at : Split (λ e. noted_by l s e ≡ Some c) J = found.1 in
    record {
      before = at.before;
      spec = spec;
      described = d;
      noted = stands-as J (λ e. noted_by l s e ≡ Some c) (Noted l s c) at (noted_by-is l s c at.at at.holds);
      still = not-true (has (settled_for l s) c J) found.0;
    }

any-of : (f : Entry → Bool) (J : List Entry) (s : Split (λ e. f e ≡ true) J) → list_any f J ≡ true
any-of f J s = subst (λ K. list_any f K ≡ true) (sym s.whole) (any-middle f s.at s.before s.rest s.holds)

pub take-cause : (J : List Entry) (source : Option Place) (q : List ℕ) (c : ℕ) → first_ready_at J source q ≡ Some c → (list_any (enters c) J ≡ true) × (is_ready J c ≡ true)
unfolding first_ready entered
take-cause J None q c h = absurd (none-some c h)
take-cause J (Some p) q c h =
    let found : (is_ready J c ≡ true) × IsIn c (filter_map (entered_by p q) J) = find-in (is_ready J) c (filter_map (entered_by p q) J) h in
    let at : Split (λ e. entered_by p q e ≡ Some c) J = filter_map-in (entered_by p q) c J found.1 in
    (any-of (enters c) J (record { before = at.before; at = at.at; rest = at.rest; whole = at.whole; holds = entered_by-enters p q c at.at at.holds }), found.0)

-- the link's description has its name
named : (J : List Entry) (l : List ℕ) (spec : LinkSpec) → link_of J l ≡ Some spec → spec.name ≡ l
unfolding link_of
named J l spec h = same_text-true spec.name l (find-in (is_named l) spec (links_of J) h).0

accepted-caused : (J : List Entry) (spec : LinkSpec) (c : ℕ) (target : Option Place) (x : Option Publication) → link_of J spec.name ≡ Some spec → (before : List Entry) × StandsAfter before (Sent spec.name (session J spec.name) c) J → spec.target ≡ target → publication_of c J ≡ x → RowHas (EachCaused J) (accepted J spec c target x)
accepted-caused J spec c (Some target) (Some y) d sent t e =
    ((record { before = sent.0; spec = spec; source = y; sent = sent.1; described = d; of_copy = e; message = refl; target = t }, refl), tt)
accepted-caused J spec c (Some target) None d sent t e = tt
accepted-caused J spec c None x d sent t e = tt

accept_first-caused : (J : List Entry) (spec : LinkSpec) (o : Option ℕ) → link_of J spec.name ≡ Some spec → oldest (flight_sent J spec.name (session J spec.name)) ≡ o → RowHas (EachCaused J) (accept_first J spec o)
accept_first-caused J spec None d h = tt
accept_first-caused J spec (Some c) d h =
    accepted-caused J spec c spec.target (publication_of c J) d (accept-cause J spec.name (session J spec.name) c h) refl refl

accept_spec-caused : (J : List Entry) (l : List ℕ) (spec : LinkSpec) → link_of J l ≡ Some spec → RowHas (EachCaused J) (accept_first J spec (oldest (flight_sent J l (session J l))))
accept_spec-caused J l spec d =
    accept_first-caused J spec (oldest (flight_sent J l (session J l)))
    (subst (λ k. link_of J k ≡ Some spec) (sym (named J l spec d)) d)
    (ap (λ k. oldest (flight_sent J k (session J k))) (named J l spec d))

accept_row-caused : (J : List Entry) (l : List ℕ) → RowHas (EachCaused J) (accept_row J l)
unfolding accept_row
accept_row-caused J l = with_link-has (EachCaused J) J l _ (λ spec d. while_open-has (EachCaused J) J l _ (accept_spec-caused J l spec d))

confirm-cause : (J : List Entry) (l : List ℕ) (s p : ℕ) → IsIn p (flight_published J l s) → IsPublishedFor J l s p
unfolding flight_published
confirm-cause J l s p h =
    let at : Split (λ e. published_by l s e ≡ Some p) J = filter_map-in (published_by l s) p J (filter-in (λ q. not (has (confirmed_to l s) q J)) p (filter_map (published_by l s) J) h).1 in
    let publishes : Publishes l s p at.at = publishes-is l s p at.at at.holds in
    record {
      at_published = at.before;
      publication = publishes.publication;
      copy = publishes.copy;
      published = stands-as J (λ e. published_by l s e ≡ Some p) (Published publishes.publication) at publishes.entry;
      number = publishes.number;
      by = publishes.by;
    }

confirmed-caused : (J : List Entry) (l : List ℕ) (s : ℕ) (ps : List ℕ) (o : Option ℕ) → ((p : ℕ) → IsIn p ps → IsPublishedFor J l s p) → find (is_secured J) ps ≡ o → RowHas (EachCaused J) (confirmed l s o)
confirmed-caused J l s ps None published h = tt
confirmed-caused J l s ps (Some p) published h =
    let found : (is_secured J p ≡ true) × IsIn p ps = find-in (is_secured J) p ps h in
    ((found.0, published p found.1), tt)

confirm_first-caused : (J : List Entry) (l : List ℕ) (s : ℕ) (ps : List ℕ) → ((p : ℕ) → IsIn p ps → IsPublishedFor J l s p) → RowHas (EachCaused J) (confirm_first J l s ps)
confirm_first-caused J l s [] published = tt
confirm_first-caused J l s (p ∷ ps) published = confirmed-caused J l s (p ∷ ps) (find (is_secured J) (p ∷ ps)) published refl

confirm_row-caused : (J : List Entry) (l : List ℕ) → RowHas (EachCaused J) (confirm_row J l)
unfolding confirm_row
confirm_row-caused J l =
    with_link-has (EachCaused J) J l _ (λ spec d. while_open-has (EachCaused J) J l _ (confirm_first-caused J l (session J l) (flight_published J l (session J l)) (confirm-cause J l (session J l))))

took-caused : (J : List Entry) (l : List ℕ) (spec : LinkSpec) (c : ℕ) → link_of J l ≡ Some spec → is_open (phase J l) ≡ true → first_ready_at J spec.source spec.source_queue ≡ Some c → EachCaused J (Took l (session J l) c ∷ [])
took-caused J l spec c d open' e =
    let found : (list_any (enters c) J ≡ true) × (is_ready J c ≡ true) = take-cause J spec.source spec.source_queue c e in
    ((found.0, found.1, last-opened J l open', record { spec = spec; described = d; first = e }), tt)

take_row-caused : (J : List Entry) (l : List ℕ) → RowHas (EachCaused J) (take_row J l)
unfolding take_row
take_row-caused J l =
    with_link-has (EachCaused J) J l _ (λ spec d. while_known_open-has (EachCaused J) J l _ (λ open'. either-has (EachCaused J) (is_full J spec (session J l)) (Err why.Full) _ tt (one_or_empty-has (EachCaused J) _ (first_ready_at J spec.source spec.source_queue) (λ c e. took-caused J l spec c d open' e))))

send_row-caused : (J : List Entry) (l : List ℕ) → RowHas (EachCaused J) (send_row J l)
unfolding send_row
send_row-caused J l =
    with_link-has (EachCaused J) J l _ (λ spec d. while_open-has (EachCaused J) J l _ (one_or_empty-has (EachCaused J) _ (oldest (flight_took J l (session J l))) (λ c e. (sent-cause J l (session J l) c e, tt))))

note_row-caused : (J : List Entry) (l : List ℕ) → RowHas (EachCaused J) (note_row J l)
unfolding note_row
note_row-caused J l =
    with_link-has (EachCaused J) J l _ (λ spec d. while_open-has (EachCaused J) J l _ (one_or_empty-has (EachCaused J) _ (oldest (flight_confirmed J l (session J l))) (λ c e. (note-cause J l (session J l) c e, tt))))

settle_row-caused : (J : List Entry) (l : List ℕ) → RowHas (EachCaused J) (settle_row J l)
unfolding settle_row
settle_row-caused J l =
    with_link-has (EachCaused J) J l _ (λ spec d. while_open-has (EachCaused J) J l _ (one_or_empty-has (EachCaused J) _ (oldest (flight_noted J l (session J l))) (λ c e. (settle-cause J l (session J l) c spec d e, tt))))

flush_row-caused : (J : List Entry) (b : List ℕ) → RowHas (EachCaused J) (flush_row J b)
unfolding flush_row
flush_row-caused J b = either-has (EachCaused J) (is_broker J b) (Ok (Flushed b ∷ [])) (Err why.NoPlace) (tt, tt) tt

publish_row-caused : (J : List Entry) (p : Place) (client : ℕ) (m : Message) → RowHas (EachCaused J) (publish_row J p client m)
unfolding publish_row
publish_row-caused J p client m = at_place-has (EachCaused J) J p _ (unless_refused-has (EachCaused J) (publish_refusal J p m.exchange) _ ((tt, refl), tt))

place-vhost : (J : List Entry) (p : Place) → is_place J p ≡ true → same_text p.vhost (codes "/") ≡ true
unfolding is_place
place-vhost J p h = (and_parts (same_text p.vhost (codes "/")) (is_broker J p.broker) h).0

set_shovel_row-caused : (J : List Entry) (p : Place) (name : List ℕ) (shovel : Shovel) → RowHas (EachCaused J) (set_shovel_row J p name shovel)
unfolding set_shovel_row
set_shovel_row-caused J p name shovel =
    at_known_place-has (EachCaused J) J p _ (λ there. if_not-has (EachCaused J) (is_shovel_set J p name) (Ok []) (Ok (ShovelSet p name shovel ∷ [])) tt (λ fresh. ((place-vhost J p there, fresh), tt)))

declare_row-caused : (J : List Entry) (p : Place) (client : ℕ) (q : List ℕ) (options : QueueOptions) → RowHas (EachCaused J) (declare_row J p client q options)
unfolding declare_row
declare_row-caused J p client q options =
    at_place-has (EachCaused J) J p _ (made_row-has (EachCaused J) _ (queue_declared J p client q options) (λ made. (queue-made J p client q options made, tt)) tt)

declare_exchange_row-caused : (J : List Entry) (p : Place) (x : List ℕ) (shape : ExchangeShape) → RowHas (EachCaused J) (declare_exchange_row J p x shape)
unfolding declare_exchange_row
declare_exchange_row-caused J p x shape =
    at_place-has (EachCaused J) J p _ (made_row-has (EachCaused J) _ (exchange_declared J p x shape) (λ made. (tt, tt)) tt)

bind_row-caused : (J : List Entry) (p : Place) (client : ℕ) (b : Binding) → RowHas (EachCaused J) (bind_row J p client b)
unfolding bind_row
bind_row-caused J p client b =
    at_place-has (EachCaused J) J p _ (unless_refused-has (EachCaused J) (bind_refusal J p client b) _ (either-has (EachCaused J) (is_bound J p b) (Ok []) _ tt (tt, tt)))

unbind_row-caused : (J : List Entry) (p : Place) (client : ℕ) (b : Binding) → RowHas (EachCaused J) (unbind_row J p client b)
unfolding unbind_row
unbind_row-caused J p client b =
    at_place-has (EachCaused J) J p _ (unless_refused-has (EachCaused J) (bind_refusal J p client b) _ (either-has (EachCaused J) (is_bound J p b) _ (Ok []) (tt, tt) tt))

-- a queue that isn't there
pub not_there : (o : Option QueueOptions) → not (is_some o) ≡ true → o ≡ None
not_there None h = refl
not_there (Some o) h = absurd (false≢true h)

-- one that stands, and that no connection has to itself
there-shared : (o : Option QueueOptions) → not (is_some o) ≡ false → is_exclusive_in o ≡ false → is_shared_in o ≡ true
there-shared None h k = absurd (true≢false h)
there-shared (Some o) h k = not_from_false o.exclusive k

made-same : (p : Place) (q : List ℕ) (o : QueueOptions) (was : Option QueueOptions) → options_step p q was (MadeQueue p q o None) ≡ Some o
made-same p q o was = ap (λ b. cond b (Some o) was) (is_queue-refl p q)

made-shared : (J : List Entry) (p : Place) (q : List ℕ) → is_shared (J ++ MadeQueue p q lasting None ∷ []) p q ≡ true
made-shared J p q = ap is_shared_in (options-push J (MadeQueue p q lasting None) p q ∙ made-same p q lasting (queue_options J p q))

made-others : (J : List Entry) (p r : Place) (q n : List ℕ) → is_queue r n p q ≡ false → queue_options J r n ≡ None → queue_options (J ++ MadeQueue p q lasting None ∷ []) r n ≡ None
made-others J p r q n other h =
    options-push J (MadeQueue p q lasting None) r n ∙ ap (λ b. cond b (Some lasting) (queue_options J r n)) other ∙ h

made-described : (J : List Entry) (l : List ℕ) (spec : LinkSpec) (p : Place) (q : List ℕ) → link_of J l ≡ Some spec → link_of (J ++ MadeQueue p q lasting None ∷ []) l ≡ Some spec
made-described J l spec p q d = link_of-made J (MadeQueue p q lasting None) l (λ b. refl) (λ K. refl) (λ K b. refl) ∙ d

-- the session's beginning, where its source queue stands
opening-caused : (K : List Entry) (spec : LinkSpec) (source : Place) (s r : ℕ) → link_of K spec.name ≡ Some spec → spec.source ≡ Some source → is_shared K source spec.source_queue ≡ true → EachCaused K (Opened spec.name s r ∷ [])
opening-caused K spec source s r d e h =
    ((spec, d, λ p k. subst (λ t. is_shared K t spec.source_queue ≡ true) (same_Some source p (sym e ∙ k)) h), tt)

target-caused : (K : List Entry) (spec : LinkSpec) (source target : Place) (missing : Bool) (s r : ℕ) → link_of K spec.name ≡ Some spec → spec.source ≡ Some source → is_shared K source spec.source_queue ≡ true → (missing ≡ true → queue_options K target spec.target_queue ≡ None) → EachCaused K (made_if missing target spec.target_queue ++ Opened spec.name s r ∷ [])
target-caused K spec source target true s r d e h fresh =
    let made : Entry = MadeQueue target spec.target_queue lasting None in
    let cause : Caused K made = fresh refl in
    (cause, opening-caused (K ++ made ∷ []) spec source s r (made-described K spec.name spec target spec.target_queue d) e (shared-push K made source spec.source_queue cause h))
target-caused K spec source target false s r d e h fresh = opening-caused K spec source s r d e h

-- the target's queue is missing before and after the source's is made
missing-parts : (there same : Bool) → not (there || same) ≡ true → (not there ≡ true) × (same ≡ false)
missing-parts true b h = absurd (false≢true h)
missing-parts false true h = absurd (false≢true h)
missing-parts false false h = (refl, refl)

-- the target's queue isn't there before the source's is made
pub target-missing : (J : List Entry) (spec : LinkSpec) (source target : Place) → is_target_missing J spec source target ≡ true → queue_options J target spec.target_queue ≡ None
target-missing J spec source target h =
    not_there (queue_options J target spec.target_queue) (missing-parts (stands J target spec.target_queue) (same_place target source && same_text spec.target_queue spec.source_queue) h).0

-- nor afterwards
pub target-fresh : (J : List Entry) (spec : LinkSpec) (source target : Place) → is_target_missing J spec source target ≡ true → queue_options (J ++ MadeQueue source spec.source_queue lasting None ∷ []) target spec.target_queue ≡ None
target-fresh J spec source target h =
    let other : (same_place target source && same_text spec.target_queue spec.source_queue) ≡ false = (missing-parts (stands J target spec.target_queue) (same_place target source && same_text spec.target_queue spec.source_queue) h).1 in
    made-others J source target spec.source_queue spec.target_queue (is_queue-other source target spec.source_queue spec.target_queue other) (target-missing J spec source target h)

source-caused : (J : List Entry) (spec : LinkSpec) (source target : Place) (missing : Bool) (s r : ℕ) → not (stands J source spec.source_queue) ≡ missing → link_of J spec.name ≡ Some spec → spec.source ≡ Some source → is_exclusive J source spec.source_queue ≡ false → EachCaused J (made_if missing source spec.source_queue ++ made_if (is_target_missing J spec source target) target spec.target_queue ++ Opened spec.name s r ∷ [])
source-caused J spec source target true s r m d e open' =
    let made : Entry = MadeQueue source spec.source_queue lasting None in
    let cause : Caused J made = not_there (queue_options J source spec.source_queue) m in
    (cause, target-caused (J ++ made ∷ []) spec source target (is_target_missing J spec source target) s r (made-described J spec.name spec source spec.source_queue d) e (made-shared J source spec.source_queue) (λ h. target-fresh J spec source target h))
source-caused J spec source target false s r m d e open' =
    target-caused J spec source target (is_target_missing J spec source target) s r d e (there-shared (queue_options J source spec.source_queue) m open') (λ h. target-missing J spec source target h)

opened-caused : (J : List Entry) (spec : LinkSpec) (source target : Option Place) → spec.source ≡ source → link_of J spec.name ≡ Some spec → is_source_locked J source spec.source_queue ≡ false → RowHas (EachCaused J) (opened J spec source target)
opened-caused J spec (Some source) (Some target) e d open' =
    source-caused J spec source target (not (stands J source spec.source_queue)) (session J spec.name + 1) (ready_count J source spec.source_queue) refl d e open'
opened-caused J spec (Some source) None e d open' = tt
opened-caused J spec None target e d open' = tt

open_if_startable-caused : (J : List Entry) (spec : LinkSpec) (state : StartState) → link_of J spec.name ≡ Some spec → RowHas (EachCaused J) (open_if_startable J spec state)
open_if_startable-caused J spec NoBroker d = tt
open_if_startable-caused J spec NameTooLong d = tt
open_if_startable-caused J spec Start d =
    either-has (EachCaused J) (is_open (phase J spec.name)) (Err why.Live) _ tt
    (if_not-has (EachCaused J) (is_source_locked J spec.source spec.source_queue) (Err why.NoSource) (opened J spec spec.source spec.target) tt (opened-caused J spec spec.source spec.target refl d))

open_row-caused : (J : List Entry) (l : List ℕ) → RowHas (EachCaused J) (open_row J l)
unfolding open_row
open_row-caused J l = with_link-has (EachCaused J) J l _ (λ spec d. open_if_startable-caused J spec spec.start (subst (λ k. link_of J k ≡ Some spec) (sym (named J l spec d)) d))

get_row-caused : (J : List Entry) (p : Place) (client : ℕ) (q : List ℕ) (no_ack : Bool) → RowHas (EachCaused J) (get_row J p client q no_ack)
unfolding get_row
get_row-caused J p client q no_ack =
    at_place-has (EachCaused J) J p _ (unless_refused-has (EachCaused J) (queue_refusal J p client q) _ (one_or_empty-has (EachCaused J) _ (first_ready J p q) (λ c e. ((take-cause J (Some p) q c e).1, tt))))

deliver_to-caused : (J : List Entry) (p : Place) (client : ℕ) (tag : List ℕ) (o : Option Consumer) → RowHas (EachCaused J) (deliver_to J p client tag o)
deliver_to-caused J p client tag None = tt
deliver_to-caused J p client tag (Some k) =
    either-has (EachCaused J) (is_busy J p client tag k) _ _ tt (one_or_empty-has (EachCaused J) _ (first_ready J p k.queue) (λ c e. ((take-cause J (Some p) k.queue c e).1, tt)))

deliver_row-caused : (J : List Entry) (p : Place) (client : ℕ) (tag : List ℕ) → RowHas (EachCaused J) (deliver_row J p client tag)
unfolding deliver_row
deliver_row-caused J p client tag = at_place-has (EachCaused J) J p _ (deliver_to-caused J p client tag (consumer J p (channel_of client) tag))

-- a client's answer that isn't refused is for a copy that it holds
none-held : (a b : Bool) → cond a (cond b None (Some why.NotHeld)) (Some why.NoPlace) ≡ None → b ≡ true
none-held true true h = refl
none-held true false h = absurd (none-some why.NotHeld (sym h))
none-held false b h = absurd (none-some why.NoPlace (sym h))

pub answer-held : (J : List Entry) (p : Place) (client c : ℕ) → answer_refusal J p client c ≡ None → is_held_by J p (channel_of client) c ≡ true
answer-held J p client c h = none-held (is_place J p) (is_held_by J p (channel_of client) c) h

ack_row-caused : (J : List Entry) (p : Place) (client c : ℕ) → RowHas (EachCaused J) (ack_row J p client c)
unfolding ack_row
ack_row-caused J p client c = unless_known_refused-has (EachCaused J) (answer_refusal J p client c) _ (λ h. (answer-held J p client c h, tt))

reject_row-caused : (J : List Entry) (p : Place) (client c : ℕ) → RowHas (EachCaused J) (reject_row J p client c)
unfolding reject_row
reject_row-caused J p client c = unless_known_refused-has (EachCaused J) (answer_refusal J p client c) _ (λ h. (answer-held J p client c h, tt))

requeue_row-caused : (J : List Entry) (p : Place) (client c : ℕ) → RowHas (EachCaused J) (requeue_row J p client c)
unfolding requeue_row
requeue_row-caused J p client c = unless_known_refused-has (EachCaused J) (answer_refusal J p client c) _ (λ h. (answer-held J p client c h, tt))

consume_row-caused : (J : List Entry) (p : Place) (client : ℕ) (q tag : List ℕ) (no_ack : Bool) (prefetch : ℕ) → RowHas (EachCaused J) (consume_row J p client q tag no_ack prefetch)
unfolding consume_row
consume_row-caused J p client q tag no_ack prefetch =
    at_place-has (EachCaused J) J p _ (unless_refused-has (EachCaused J) (consume_refusal J p client q tag) _ (tt, tt))

cancel_row-caused : (J : List Entry) (p : Place) (client : ℕ) (tag : List ℕ) → RowHas (EachCaused J) (cancel_row J p client tag)
unfolding cancel_row
cancel_row-caused J p client tag = at_place-has (EachCaused J) J p _ (either-has (EachCaused J) (consumes J p client tag) _ (Ok []) (tt, tt) tt)

purge_row-caused : (J : List Entry) (p : Place) (client : ℕ) (q : List ℕ) → RowHas (EachCaused J) (purge_row J p client q)
unfolding purge_row
purge_row-caused J p client q = at_place-has (EachCaused J) J p _ (unless_refused-has (EachCaused J) (queue_refusal J p client q) _ (tt, tt))

-- a queue that goes stays one that isn't shared
gone-push : (K : List Entry) (p : Place) (q n : List ℕ) → is_shared K p n ≡ false → is_shared (K ++ GoneQueue p q ∷ []) p n ≡ false
gone-push K p q n h =
    ap is_shared_in (options-push K (GoneQueue p q) p n) ∙ gone-by (is_queue p n p q) (queue_options K p n) h
  where
    gone-by : (b : Bool) (was : Option QueueOptions) → is_shared_in was ≡ false → is_shared_in (cond b None was) ≡ false
    gone-by true was h = refl
    gone-by false was h = h

gone-caused : (K : List Entry) (p : Place) (qs : List (List ℕ)) → ((q : List ℕ) → IsIn q qs → is_shared K p q ≡ false) → EachCaused K (map (GoneQueue p) qs)
gone-caused K p [] h = tt
gone-caused K p (q ∷ qs) h =
    (h q (inl refl), gone-caused (K ++ GoneQueue p q ∷ []) p qs (λ n k. gone-push K p q n (h n (inr k))))

exclusive-not_shared : (o : Option QueueOptions) → is_exclusive_in o ≡ true → is_shared_in o ≡ false
exclusive-not_shared None h = refl
exclusive-not_shared (Some o) h = ap not h

-- a queue that a connection has to itself isn't shared
owned-not_shared : (J : List Entry) (p : Place) (n : ℕ) (q : List ℕ) → IsIn q (queues_owned J p n) → is_shared J p q ≡ false
unfolding queues_owned
owned-not_shared J p n q h =
    let goes : (goes_with J p n q ≡ true) × IsIn q (queues_of J p) = filter-in (goes_with J p n) q (queues_of J p) h in
    exclusive-not_shared (queue_options J p q) (and_parts (is_exclusive J p q) (is_connection_in n (queue_owner J p q)) goes.0).0

close_row-caused : (J : List Entry) (p : Place) (client : ℕ) → RowHas (EachCaused J) (close_row J p client)
unfolding close_row
close_row-caused J p client =
    at_place-has (EachCaused J) J p _ (tt, gone-caused (J ++ Closed p client ∷ []) p (queues_owned J p client) (λ q h. ap is_shared_in (options-push J (Closed p client) p q) ∙ owned-not_shared J p client q h))

-- whatever the event
pub next-caused : (J : List Entry) (e : Event) → RowHas (EachCaused J) (next J e)
next-caused J (DeclareQueue p c q options) = declare_row-caused J p c q options
next-caused J (DeclareExchange p c x shape) = declare_exchange_row-caused J p x shape
next-caused J (Bind p c b) = bind_row-caused J p c b
next-caused J (Unbind p c b) = unbind_row-caused J p c b
next-caused J (Publish p c m) = publish_row-caused J p c m
next-caused J (Consume p client q tag no_ack prefetch) = consume_row-caused J p client q tag no_ack prefetch
next-caused J (Cancel p client tag) = cancel_row-caused J p client tag
next-caused J (Deliver p client tag) = deliver_row-caused J p client tag
next-caused J (Get p client q no_ack) = get_row-caused J p client q no_ack
next-caused J (Ack p client c) = ack_row-caused J p client c
next-caused J (Reject p client c) = reject_row-caused J p client c
next-caused J (Requeue p client c) = requeue_row-caused J p client c
next-caused J (Purge p client q) = purge_row-caused J p client q
next-caused J (Close p client) = close_row-caused J p client
next-caused J (Flush b) = flush_row-caused J b
next-caused J (SetShovel p name shovel) = set_shovel_row-caused J p name shovel
next-caused J (Open l) = open_row-caused J l
next-caused J (Take l) = take_row-caused J l
next-caused J (Send l) = send_row-caused J l
next-caused J (Accept l) = accept_row-caused J l
next-caused J (Confirm l) = confirm_row-caused J l
next-caused J (Note l) = note_row-caused J l
next-caused J (Settle l) = settle_row-caused J l
next-caused J Show = tt
