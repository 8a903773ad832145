-- Each entry leaves the queues as the longer journal has them.
use Rattle.std.proofs.Common.{◌≡◌, ℕ, ◌<◌, List, [], ◌∷◌, ◌++◌, Bool, true, false, cond, None, is_some, refl, sym, ap, subst, ◌∙◌}
use Rattle.std.specs.Prelude.{◌+◌, All, filter, option_map, position}
use Rattle.queue_core.specs.declared.rows.Hold.TheVariants as numbers
use Rattle.queue_core.specs.declared.rows.Row.{Row}
use Rattle.queue_core.specs.Rows as rows
use Rattle.fed_journal.specs.declared.place.Place.{Place}
use Rattle.client_rules.specs.declared.client.Client.{Client}
use Rattle.fed_journal.specs.declared.entry.Publication.{Publication}
use Rattle.fed_journal.specs.declared.entry.Entry.{Entry}
use Rattle.fed_journal.specs.declared.entry.Entry.TheVariants.{Begun, MadeQueue, MadeExchange, GoneQueue, Bound, Unbound, Published, Flushed, Took, Sent, Confirmed, Noted, Settled, Opened, Consumed, Cancelled, Delivered, Acked, Rejected, Requeued, Purged, Closed, ShovelSet}
use Rattle.fed_journal.specs.Names.{same_text, same_place}
use Rattle.fed_journal.specs.Holders as holders
use Rattle.fed_journal.specs.Copies.{Ready, Held, Left, copy_count, publication_of, entered_by}
use Rattle.route_core.specs.Routing.{bound, unbound}
use Rattle.broker_store.specs.declared.mailbox.Sweep.TheVariants as sweeps
use Rattle.broker_store.specs.Mail as mail
use Rattle.broker_store.specs.Queues.{queue_of}
use Rattle.mini_broker.specs.State.{VhostState}
use Rattle.mini_broker.specs.Declare.{with_queue, with_exchange, made_queue}
use Rattle.mini_broker.specs.Bind.{with_routing}
use Rattle.mini_broker.specs.Consume.{new_consumer, with_consumer, without_consumer}
use Rattle.mini_broker.specs.Settle.{with_purged, all_swept}
use Rattle.mini_broker.specs.Close.{disconnected, without_queue}
use Rattle.mini_broker.specs.Record.{holder_as, with_entered, with_handed}
use Rattle.broker_view.specs.View.{AreDistinct, HasHome, HasCopies, IsChannel, rows_in}
use Rattle.broker_view.specs.Recorded.{recorded, session_holder}
use Rattle.broker_view.specs.Suits.{Suits}
use Rattle.broker_view.proofs.Names.{same_text-true, same_place-true}
use Rattle.broker_view.proofs.QueueRows.{all-rows, changed-rows_none, gone-rows, made-rows}
use Rattle.broker_view.proofs.FreedRows.{freed-rows}
use Rattle.broker_view.proofs.EnteredRows.{entered-rows}
use Rattle.broker_view.proofs.Copies.{Keeps, IsStep, Moves_nothing, Hands_nothing, copies-from, still-step, still-all, without-step, with_hold-step, apart-step}
use Rattle.broker_view.proofs.CopySteps.{first-home, same-home, other-place, other-queue, purged-step, unpurged-step, gone-step, ungone-step, closed-step, unclosed-step}
use Rattle.broker_view.proofs.HeldHome.{held-step}
use Rattle.broker_view.proofs.PublishedStep.{homes-step, published-copies}

-- the queues of a publication stand, each once
abbrev pub IsRouted : Place → VhostState → Entry → Type 0
IsRouted p v (Published x) = same_place x.place p ≡ true → AreDistinct x.queues × All (λ name. is_some (queue_of name v.queues) ≡ true) x.queues
IsRouted p v _ = Unit {0}

-- a copy that is handed out counts for the consumer that it is handed to
abbrev pub IsFresh : List Entry → Place → VhostState → Entry → VhostState → Type 0
IsFresh J p v (Delivered place client tag queue copy no_ack) w = place ≡ p → IsChannel (J ++ Delivered place client tag queue copy no_ack ∷ []) p w copy place client tag (holder_as client tag v)
IsFresh J p v _ w = Unit {0}

cond-rows : (b : Bool) (v u : VhostState) (q : List ℕ) → rows_in q u.queues ≡ rows_in q v.queues → rows_in q (cond b u v).queues ≡ rows_in q v.queues
cond-rows true v u q same = same
cond-rows false v u q same = refl

-- ---- a delivery

handed-here : (J : List Entry) (place p : Place) (client : Client) (tag queue : List ℕ) (copy : ℕ) (no_ack : Bool) (v : VhostState) (q : List ℕ) → place ≡ p → same_text q queue ≡ true → Keeps J p v (Delivered place client tag queue copy no_ack) (with_handed client tag queue copy no_ack v) → IsChannel (J ++ Delivered place client tag queue copy no_ack ∷ []) p (with_handed client tag queue copy no_ack v) copy place client tag (holder_as client tag v) → IsStep J (Delivered place client tag queue copy no_ack) p v (with_handed client tag queue copy no_ack v) q
handed-here J place p client tag queue copy true v q here on keeps fresh =
    without-step J (Delivered place client tag queue copy true) p v (with_handed client tag queue copy true v) copy q (λ d x t. refl) (λ d other. other) keeps
    (changed-rows_none (mail.given copy (holder_as client tag v) true) (rows.without copy) (λ x. refl) refl queue v.queues q ∙ ap (λ b. cond b (rows.without copy (rows_in q v.queues)) (rows_in q v.queues)) on)
handed-here J place p client tag queue copy false v q here on keeps fresh =
    with_hold-step J (Delivered place client tag queue copy false) p v (with_handed client tag queue copy false v) copy (Held (holders.Channel place client tag)) (numbers.Held (holder_as client tag v)) q (λ d x t. refl) (λ d other. other) keeps fresh
    (changed-rows_none (mail.given copy (holder_as client tag v) false) (rows.handed copy (holder_as client tag v)) (λ x. refl) refl queue v.queues q ∙ ap (λ b. cond b (rows.handed copy (holder_as client tag v) (rows_in q v.queues)) (rows_in q v.queues)) on)

not-at : (J : List Entry) (place p : Place) (queue q : List ℕ) (copy : ℕ) → HasHome J place queue copy → ((p ≡ place) × (q ≡ queue) → ⊥) → (c : ℕ) → HasHome J p q c → copy ≡ c → ⊥
not-at J place p queue q copy home other c h is = other (same-home J p place q queue c copy h home is)

handed-apart : (J : List Entry) (place p : Place) (client : Client) (tag queue : List ℕ) (copy : ℕ) (no_ack : Bool) (v w : VhostState) (q : List ℕ) → HasHome J place queue copy → ((p ≡ place) × (q ≡ queue) → ⊥) → Keeps J p v (Delivered place client tag queue copy no_ack) w → rows_in q w.queues ≡ rows_in q v.queues → IsStep J (Delivered place client tag queue copy no_ack) p v w q
handed-apart J place p client tag queue copy true v w q home other keeps same =
    apart-step J (Delivered place client tag queue copy true) p v w copy Left q (λ d x t. refl) (λ d o. o) keeps (not-at J place p queue q copy home other) same
handed-apart J place p client tag queue copy false v w q home other keeps same =
    apart-step J (Delivered place client tag queue copy false) p v w copy (Held (holders.Channel place client tag)) q (λ d x t. refl) (λ d o. o) keeps (not-at J place p queue q copy home other) same

given-rows : (copy : ℕ) (client : Client) (tag queue : List ℕ) (no_ack : Bool) (v : VhostState) (q : List ℕ) → same_text q queue ≡ false → rows_in q (with_handed client tag queue copy no_ack v).queues ≡ rows_in q v.queues
given-rows copy client tag queue true v q off =
    changed-rows_none (mail.given copy (holder_as client tag v) true) (rows.without copy) (λ x. refl) refl queue v.queues q ∙ ap (λ b. cond b (rows.without copy (rows_in q v.queues)) (rows_in q v.queues)) off
given-rows copy client tag queue false v q off =
    changed-rows_none (mail.given copy (holder_as client tag v) false) (rows.handed copy (holder_as client tag v)) (λ x. refl) refl queue v.queues q ∙ ap (λ b. cond b (rows.handed copy (holder_as client tag v) (rows_in q v.queues)) (rows_in q v.queues)) off

handed-at : (J : List Entry) (place p : Place) (client : Client) (tag queue : List ℕ) (copy : ℕ) (no_ack : Bool) (v : VhostState) (q : List ℕ) (b : Bool) → same_text q queue ≡ b → place ≡ p → HasHome J place queue copy → Keeps J p v (Delivered place client tag queue copy no_ack) (with_handed client tag queue copy no_ack v) → IsChannel (J ++ Delivered place client tag queue copy no_ack ∷ []) p (with_handed client tag queue copy no_ack v) copy place client tag (holder_as client tag v) → IsStep J (Delivered place client tag queue copy no_ack) p v (with_handed client tag queue copy no_ack v) q
handed-at J place p client tag queue copy no_ack v q true on here home keeps fresh = handed-here J place p client tag queue copy no_ack v q here on keeps fresh
handed-at J place p client tag queue copy no_ack v q false off here home keeps fresh =
    handed-apart J place p client tag queue copy no_ack v (with_handed client tag queue copy no_ack v) q home (other-queue p place q queue off) keeps (given-rows copy client tag queue no_ack v q off)

delivered-by : (J : List Entry) (place p : Place) (client : Client) (tag queue : List ℕ) (copy : ℕ) (no_ack : Bool) (v : VhostState) (b : Bool) → same_place place p ≡ b → HasHome J place queue copy → Keeps J p v (Delivered place client tag queue copy no_ack) (cond b (with_handed client tag queue copy no_ack v) v) → IsFresh J p v (Delivered place client tag queue copy no_ack) (cond b (with_handed client tag queue copy no_ack v) v) → (q : List ℕ) → IsStep J (Delivered place client tag queue copy no_ack) p v (cond b (with_handed client tag queue copy no_ack v) v) q
delivered-by J place p client tag queue copy no_ack v true here home keeps fresh q =
    handed-at J place p client tag queue copy no_ack v q (same_text q queue) refl (same_place-true place p here) home keeps (fresh (same_place-true place p here))
delivered-by J place p client tag queue copy no_ack v false off home keeps fresh q =
    handed-apart J place p client tag queue copy no_ack v v q home (other-place place p q queue off) keeps refl

-- ---- a purge, and a queue that is gone

purged-at : (J : List Entry) (place p : Place) (queue q : List ℕ) (v : VhostState) (b : Bool) → same_text q queue ≡ b → place ≡ p → Keeps J p v (Purged place queue) (with_purged queue v) → IsStep J (Purged place queue) p v (with_purged queue v) q
purged-at J place p queue q v true on here keeps =
    let name : q ≡ queue = same_text-true q queue on in
    let same : rows_in q (with_purged queue v).queues ≡ filter rows.is_held (rows_in q v.queues) = changed-rows_none mail.purged (filter rows.is_held) (λ x. refl) refl queue v.queues q ∙ ap (λ b. cond b (filter rows.is_held (rows_in q v.queues)) (rows_in q v.queues)) on in
    subst (λ r. IsStep J (Purged r queue) p v (with_purged queue v) q) (sym here)
    (subst (λ n. IsStep J (Purged p n) p v (with_purged queue v) q) name
    (purged-step J p q v (with_purged queue v) (subst (λ n. Keeps J p v (Purged p n) (with_purged queue v)) (sym name) (subst (λ r. Keeps J p v (Purged r queue) (with_purged queue v)) here keeps)) same))
purged-at J place p queue q v false off here keeps =
    unpurged-step J place p queue q v (with_purged queue v) (other-queue p place q queue off) keeps
    (changed-rows_none mail.purged (filter rows.is_held) (λ x. refl) refl queue v.queues q ∙ ap (λ b. cond b (filter rows.is_held (rows_in q v.queues)) (rows_in q v.queues)) off)

purged-by : (J : List Entry) (place p : Place) (queue : List ℕ) (v : VhostState) (b : Bool) → same_place place p ≡ b → Keeps J p v (Purged place queue) (cond b (with_purged queue v) v) → (q : List ℕ) → IsStep J (Purged place queue) p v (cond b (with_purged queue v) v) q
purged-by J place p queue v true here keeps q = purged-at J place p queue q v (same_text q queue) refl (same_place-true place p here) keeps
purged-by J place p queue v false off keeps q = unpurged-step J place p queue q v v (other-place place p q queue off) keeps refl

gone-at : (J : List Entry) (place p : Place) (queue q : List ℕ) (v : VhostState) (b : Bool) → same_text q queue ≡ b → place ≡ p → Keeps J p v (GoneQueue place queue) (without_queue queue v) → IsStep J (GoneQueue place queue) p v (without_queue queue v) q
gone-at J place p queue q v true on here keeps =
    let name : q ≡ queue = same_text-true q queue on in
    let none : rows_in q (without_queue queue v).queues ≡ [] = gone-rows queue v.queues q ∙ ap (λ b. cond b [] (rows_in q v.queues)) on in
    subst (λ r. IsStep J (GoneQueue r queue) p v (without_queue queue v) q) (sym here)
    (subst (λ n. IsStep J (GoneQueue p n) p v (without_queue queue v) q) name (gone-step J p q v (without_queue queue v) none))
gone-at J place p queue q v false off here keeps =
    ungone-step J place p queue q v (without_queue queue v) (other-queue p place q queue off) keeps (gone-rows queue v.queues q ∙ ap (λ b. cond b [] (rows_in q v.queues)) off)

gone-by : (J : List Entry) (place p : Place) (queue : List ℕ) (v : VhostState) (b : Bool) → same_place place p ≡ b → Keeps J p v (GoneQueue place queue) (cond b (without_queue queue v) v) → (q : List ℕ) → IsStep J (GoneQueue place queue) p v (cond b (without_queue queue v) v) q
gone-by J place p queue v true here keeps q = gone-at J place p queue q v (same_text q queue) refl (same_place-true place p here) keeps
gone-by J place p queue v false off keeps q = ungone-step J place p queue q v v (other-place place p q queue off) keeps refl

-- ---- a connection that ends, and a flush

closed-by : (J : List Entry) (place p : Place) (n : ℕ) (v : VhostState) (b : Bool) → same_place place p ≡ b → Keeps J p v (Closed place n) (cond b (disconnected n v) v) → (q : List ℕ) → IsStep J (Closed place n) p v (cond b (disconnected n v) v) q
closed-by J place p n v true on keeps q =
    let here : place ≡ p = same_place-true place p on in
    subst (λ r. IsStep J (Closed r n) p v (disconnected n v) q) (sym here)
    (closed-step J p q v (disconnected n v) n (subst (λ r. Keeps J p v (Closed r n) (disconnected n v)) here keeps) (freed-rows n 0 v.clients v.queues q))
closed-by J place p n v false off keeps q = unclosed-step J p place q v v n off keeps refl

flushed-by : (J : List Entry) (broker : List ℕ) (p : Place) (v : VhostState) (b : Bool) → Keeps J p v (Flushed broker) (cond b (all_swept sweeps.Store v) v) → (q : List ℕ) → IsStep J (Flushed broker) p v (cond b (all_swept sweeps.Store v) v) q
flushed-by J broker p v true keeps q =
    still-step J (Flushed broker) p v (all_swept sweeps.Store v) q (λ (row : Row). record row { stored = true }) (λ c x t. refl) (λ c. tt) keeps (λ row. refl) (λ row. refl) (all-rows mail.stored rows.all_stored (λ x. refl) refl v.queues q)
flushed-by J broker p v false keeps q = still-all J (Flushed broker) p v v (λ c x t. refl) (λ c. tt) keeps (λ q. refl) q

-- ---- a publication

published-by : (J : List Entry) (x : Publication) (p : Place) (v : VhostState) (b : Bool) → same_place x.place p ≡ b → ((c : ℕ) → copy_count J < c → publication_of c J ≡ None) → Suits J (Published x) → HasCopies J p v → IsRouted p v (Published x) → Keeps J p v (Published x) (cond b (with_entered x.queues x.first x.message v) v) → HasCopies (J ++ Published x ∷ []) p (cond b (with_entered x.queues x.first x.message v) v)
published-by J x p v true here known suits has routed keeps =
    published-copies J x p v (with_entered x.queues x.first x.message v) known suits here has keeps (entered-rows x.queues x.first x.message v.queues (routed here).0 (routed here).1)
published-by J x p v false off known suits has routed keeps =
    copies-from J (Published x) p v v has (λ q. ap (λ b. cond b (option_map (λ k. x.first + k) (position (same_text q) x.queues)) None) off) (homes-step J (Published x) known suits has.homes) (held-step J (Published x) suits has.held) (still-all J (Published x) p v v (λ c y t. refl) (λ c. tt) keeps (λ q. refl))

-- ---- every entry

still : (J : List Entry) (e : Entry) (p : Place) (v w : VhostState) → HasCopies J p v → ((c : ℕ) → copy_count J < c → publication_of c J ≡ None) → Suits J e → ((q : List ℕ) → entered_by p q e ≡ None) → Moves_nothing e → Hands_nothing e → Keeps J p v e w → ((q : List ℕ) → rows_in q w.queues ≡ rows_in q v.queues) → HasCopies (J ++ e ∷ []) p w
still J e p v w has known suits none moves hands keeps same =
    copies-from J e p v w has none (homes-step J e known suits has.homes) (held-step J e suits has.held) (still-all J e p v w moves hands keeps same)

number-step : (J : List Entry) (p : Place) (e : Entry) (v : VhostState) → HasCopies J p v → ((c : ℕ) → copy_count J < c → publication_of c J ≡ None) → Suits J e → ((q : List ℕ) → entered_by p q e ≡ None) → ((q : List ℕ) → IsStep J e p v (recorded p e v) q) → HasCopies (J ++ e ∷ []) p (recorded p e v)
number-step J p e v has known suits none steps = copies-from J e p v (recorded p e v) has none (homes-step J e known suits has.homes) (held-step J e suits has.held) steps

-- the queues of the place after one entry more
pub copies-step : (J : List Entry) (p : Place) (e : Entry) (v : VhostState) → HasCopies J p v → ((c : ℕ) → copy_count J < c → publication_of c J ≡ None) → Suits J e → IsRouted p v e → Keeps J p v e (recorded p e v) → IsFresh J p v e (recorded p e v) → HasCopies (J ++ e ∷ []) p (recorded p e v)
copies-step J p (Published x) v has known suits routed keeps fresh = published-by J x p v (same_place x.place p) refl known suits has routed keeps
copies-step J p (Delivered place client tag queue copy no_ack) v has known suits routed keeps fresh =
    number-step J p (Delivered place client tag queue copy no_ack) v has known suits (λ q. refl)
    (delivered-by J place p client tag queue copy no_ack v (same_place place p) refl (first-home J place queue copy has.homes suits) keeps fresh)
copies-step J p (Took l s c) v has known suits routed keeps fresh =
    number-step J p (Took l s c) v has known suits (λ q. refl)
    (λ q. with_hold-step J (Took l s c) p v (recorded p (Took l s c) v) c (Held (holders.Session l s)) (numbers.Held (session_holder s)) q (λ d x t. refl) (λ d o. tt) keeps refl (all-rows (mail.handed c (session_holder s)) (rows.handed c (session_holder s)) (λ x. refl) refl v.queues q))
copies-step J p (Settled l s c) v has known suits routed keeps fresh =
    number-step J p (Settled l s c) v has known suits (λ q. refl)
    (λ q. without-step J (Settled l s c) p v (recorded p (Settled l s c) v) c q (λ d x t. refl) (λ d o. tt) keeps (all-rows (mail.left c) (rows.without c) (λ x. refl) refl v.queues q))
copies-step J p (Acked place client c) v has known suits routed keeps fresh =
    number-step J p (Acked place client c) v has known suits (λ q. refl)
    (λ q. without-step J (Acked place client c) p v (recorded p (Acked place client c) v) c q (λ d x t. refl) (λ d o. tt) keeps (all-rows (mail.left c) (rows.without c) (λ x. refl) refl v.queues q))
copies-step J p (Rejected place client c) v has known suits routed keeps fresh =
    number-step J p (Rejected place client c) v has known suits (λ q. refl)
    (λ q. without-step J (Rejected place client c) p v (recorded p (Rejected place client c) v) c q (λ d x t. refl) (λ d o. tt) keeps (all-rows (mail.left c) (rows.without c) (λ x. refl) refl v.queues q))
copies-step J p (Requeued place client c) v has known suits routed keeps fresh =
    number-step J p (Requeued place client c) v has known suits (λ q. refl)
    (λ q. with_hold-step J (Requeued place client c) p v (recorded p (Requeued place client c) v) c Ready numbers.Ready q (λ d x t. refl) (λ d o. tt) keeps tt (all-rows (mail.released c) (rows.released c) (λ x. refl) refl v.queues q))
copies-step J p (Purged place queue) v has known suits routed keeps fresh =
    number-step J p (Purged place queue) v has known suits (λ q. refl) (purged-by J place p queue v (same_place place p) refl keeps)
copies-step J p (GoneQueue place queue) v has known suits routed keeps fresh =
    number-step J p (GoneQueue place queue) v has known suits (λ q. refl) (gone-by J place p queue v (same_place place p) refl keeps)
copies-step J p (Closed place connection) v has known suits routed keeps fresh =
    number-step J p (Closed place connection) v has known suits (λ q. refl) (closed-by J place p connection v (same_place place p) refl keeps)
copies-step J p (Flushed broker) v has known suits routed keeps fresh =
    number-step J p (Flushed broker) v has known suits (λ q. refl) (flushed-by J broker p v (same_text broker p.broker) keeps)
copies-step J p (MadeQueue place queue options owner) v has known suits routed keeps fresh =
    still J (MadeQueue place queue options owner) p v (recorded p (MadeQueue place queue options owner) v) has known suits (λ q. refl) (λ c x t. refl) (λ c. tt) keeps
    (λ q. cond-rows (same_place place p) v (with_queue queue options owner v) q (made-rows (queue, made_queue v.made options owner) refl v.queues q))
copies-step J p (MadeExchange place exchange shape) v has known suits routed keeps fresh =
    still J (MadeExchange place exchange shape) p v (recorded p (MadeExchange place exchange shape) v) has known suits (λ q. refl) (λ c x t. refl) (λ c. tt) keeps
    (λ q. cond-rows (same_place place p) v (with_exchange exchange shape v) q refl)
copies-step J p (Bound place binding) v has known suits routed keeps fresh =
    still J (Bound place binding) p v (recorded p (Bound place binding) v) has known suits (λ q. refl) (λ c x t. refl) (λ c. tt) keeps
    (λ q. cond-rows (same_place place p) v (with_routing (bound binding v.routing) v) q refl)
copies-step J p (Unbound place binding) v has known suits routed keeps fresh =
    still J (Unbound place binding) p v (recorded p (Unbound place binding) v) has known suits (λ q. refl) (λ c x t. refl) (λ c. tt) keeps
    (λ q. cond-rows (same_place place p) v (with_routing (unbound binding v.routing) v) q refl)
copies-step J p (Consumed place client queue tag no_ack prefetch) v has known suits routed keeps fresh =
    still J (Consumed place client queue tag no_ack prefetch) p v (recorded p (Consumed place client queue tag no_ack prefetch) v) has known suits (λ q. refl) (λ c x t. refl) (λ c. tt) keeps
    (λ q. cond-rows (same_place place p) v (with_consumer (new_consumer client queue tag no_ack prefetch v) v) q refl)
copies-step J p (Cancelled place client tag) v has known suits routed keeps fresh =
    still J (Cancelled place client tag) p v (recorded p (Cancelled place client tag) v) has known suits (λ q. refl) (λ c x t. refl) (λ c. tt) keeps
    (λ q. cond-rows (same_place place p) v (without_consumer client tag v) q refl)
copies-step J p (Begun broker cluster kept) v has known suits routed keeps fresh = still J (Begun broker cluster kept) p v v has known suits (λ q. refl) (λ c x t. refl) (λ c. tt) keeps (λ q. refl)
copies-step J p (Sent l s c) v has known suits routed keeps fresh = still J (Sent l s c) p v v has known suits (λ q. refl) (λ d x t. refl) (λ d. tt) keeps (λ q. refl)
copies-step J p (Confirmed l s c) v has known suits routed keeps fresh = still J (Confirmed l s c) p v v has known suits (λ q. refl) (λ d x t. refl) (λ d. tt) keeps (λ q. refl)
copies-step J p (Noted l s c) v has known suits routed keeps fresh = still J (Noted l s c) p v v has known suits (λ q. refl) (λ d x t. refl) (λ d. tt) keeps (λ q. refl)
copies-step J p (Opened l s ready) v has known suits routed keeps fresh = still J (Opened l s ready) p v v has known suits (λ q. refl) (λ c x t. refl) (λ c. tt) keeps (λ q. refl)
copies-step J p (ShovelSet place name shovel) v has known suits routed keeps fresh = still J (ShovelSet place name shovel) p v v has known suits (λ q. refl) (λ c x t. refl) (λ c. tt) keeps (λ q. refl)
