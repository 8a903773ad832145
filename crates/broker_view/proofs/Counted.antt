-- No copy has a number beyond the count of the copies.
use Rattle.std.proofs.Common.{◌≡◌, ℕ, ◌+◌, ◌-◌, ◌<◌, ◌≤◌, ◌==◌, List, [], ◌∷◌, ◌++◌, length, Bool, true, false, cond, not, Some, None, arith, refl, sym, ap, subst, ◌∙◌}
use Rattle.std.specs.Prelude.{if◌then◌else◌, nat_le, nat_lt}
use Rattle.std.specs.Str.{bytes_eq}
use Rattle.std.proofs.lemmas.Bool.{and_parts, leb-true, ltb-true}
use Rattle.std.proofs.lemmas.List.Elements.{All-nil, All-cons, All-head, All-tail, All-push, All-filter, All-map, All-weaker}
use Rattle.std.proofs.lemmas.List.Sums.{sum_by_push}
use Rattle.queue_core.specs.declared.rows.Holder.{Holder}
use Rattle.queue_core.specs.declared.rows.Hold.TheVariants as holds
use Rattle.queue_core.specs.declared.rows.Row.{Row}
use Rattle.queue_core.specs.Rows as rows
use Rattle.amqp_props.specs.declared.message.Message.{Message}
use Rattle.fed_journal.specs.declared.place.Place.{Place}
use Rattle.client_rules.specs.declared.client.Client.{Client}
use Rattle.fed_journal.specs.declared.entry.Publication.{Publication}
use Rattle.fed_journal.specs.declared.entry.Entry.{Entry}
use Rattle.fed_journal.specs.declared.entry.Entry.TheVariants.{MadeQueue, MadeExchange, GoneQueue, Bound, Unbound, Published, Flushed, Took, Settled, Consumed, Cancelled, Delivered, Acked, Rejected, Requeued, Purged, Closed}
use Rattle.fed_journal.specs.Names.{same_text, same_place}
use Rattle.fed_journal.specs.Copies.{copy_count, copies_made, is_copy_of, publication_of}
use Rattle.route_core.specs.Routing.{bound, unbound}
use Rattle.broker_store.specs.declared.mailbox.CopyMessage.{CopyMessage}
use Rattle.broker_store.specs.declared.mailbox.Sweep.TheVariants as sweeps
use Rattle.broker_store.specs.Mail.{Mail, entered, fresh, as_seen, handed, left, given, released, released_from, purged, swept}
use Rattle.broker_store.specs.Queues.{Standing, Named, changed, all_changed, with_mail, IsLast, AreAbove, all_entered}
use Rattle.mini_broker.specs.State.{VhostState}
use Rattle.mini_broker.specs.Declare.{with_queue, with_exchange, made_queue}
use Rattle.mini_broker.specs.Bind.{with_routing}
use Rattle.mini_broker.specs.Publish.{first_of}
use Rattle.mini_broker.specs.Consume.{new_consumer, with_consumer, without_consumer}
use Rattle.mini_broker.specs.Settle.{all_swept, with_purged}
use Rattle.mini_broker.specs.Close.{freed_from, disconnected, without_queue}
use Rattle.mini_broker.specs.Record.{with_entered, with_handed, holder_as}
use Rattle.broker_view.specs.View.{IsCounted}
use Rattle.broker_view.specs.Suits.{Suits}
use Rattle.broker_view.specs.Recorded.{recorded, session_holder}
use Rattle.broker_view.proofs.Publications.{publication-skip}

-- ---- the count

pub count-push : (J : List Entry) (e : Entry) → copy_count (J ++ e ∷ []) ≡ copy_count J + copies_made e
unfolding copy_count
count-push J e = sum_by_push copies_made J e

-- a number beyond those of the publication's copies
beyond-by : (n c first : ℕ) (qs : List (List ℕ)) → first ≡ first_of (n + 1) qs → n + length qs < c → first ≤ c → c - first < length qs → ⊥
beyond-by n c first [] e far low high = omega (arith, high)
beyond-by n c first (q ∷ qs) e far low high = omega (arith, e, far, low, high)

beyond : (n c : ℕ) (x : Publication) (b : Bool) → is_copy_of x c ≡ b → x.first ≡ first_of (n + 1) x.queues → n + length x.queues < c → b ≡ false
beyond n c x false e first far = refl
beyond n c x true e first far =
    let parts : (nat_le x.first c ≡ true) × (nat_lt (c - x.first) (length x.queues) ≡ true) = and_parts (nat_le x.first c) (nat_lt (c - x.first) (length x.queues)) e in
    absurd (beyond-by n c x.first x.queues first far (leb-true x.first c parts.0) (ltb-true (c - x.first) (length x.queues) parts.1))

alone : (c n : ℕ) (J : List Entry) (e : Entry) → n ≡ copy_count J → Suits J e → n + copies_made e < c → publication_of c (e ∷ []) ≡ None
unfolding publication_of
alone c n J (Published x) same suits far =
    ap (λ b. cond b (Some x) (publication_of c [])) (beyond n c x (is_copy_of x c) refl (suits.0 ∙ ap (λ m. first_of (m + 1) x.queues) (sym same)) far)
alone c n J _ same suits far = refl

-- ---- changes of a queue's copies

abbrev KeepsLast : (Mail Message → Mail Message) → Type 0
KeepsLast f = (m : ℕ) (queue : Standing Message) → IsLast m queue → IsLast m (with_mail f queue)

last-handed : (copy : ℕ) (holder : Holder) → KeepsLast (handed copy holder)
last-handed copy holder m queue h =
    (All-map (λ (row : Row). row.copy < m) (rows.with_hold copy (holds.Held holder)) queue.mail.rows h.0, All-map (λ (k : CopyMessage Message). k.number < m) (as_seen copy) queue.mail.copies h.1)

last-left : (copy : ℕ) → KeepsLast (left copy)
last-left copy m queue h =
    (All-filter (λ (row : Row). not (row.copy == copy)) (λ (row : Row). row.copy < m) queue.mail.rows h.0, All-filter (λ (k : CopyMessage Message). not (k.number == copy)) (λ (k : CopyMessage Message). k.number < m) queue.mail.copies h.1)

last-given : (copy : ℕ) (holder : Holder) (no_ack : Bool) → KeepsLast (given copy holder no_ack)
last-given copy holder true m queue h = last-left copy m queue h
last-given copy holder false m queue h = last-handed copy holder m queue h

last-released : (copy : ℕ) → KeepsLast (released copy)
last-released copy m queue h = (All-map (λ (row : Row). row.copy < m) (rows.with_hold copy holds.Ready) queue.mail.rows h.0, h.1)

last-freed : (client : ℕ) → KeepsLast (released_from client)
last-freed client m queue h = (All-map (λ (row : Row). row.copy < m) (λ (row : Row). record row { hold = rows.freed_of client row.hold }) queue.mail.rows h.0, h.1)

last-purged : KeepsLast purged
last-purged m queue h =
    (All-filter rows.is_held (λ (row : Row). row.copy < m) queue.mail.rows h.0, All-filter _ (λ (k : CopyMessage Message). k.number < m) queue.mail.copies h.1)

last-stored : KeepsLast (swept sweeps.Store)
last-stored m queue h = (All-map (λ (row : Row). row.copy < m) (λ (row : Row). record row { stored = true }) queue.mail.rows h.0, h.1)

-- ---- changes of the queues

above-all : (f : Mail Message → Mail Message) (m : ℕ) (queues : List (Named Message)) → KeepsLast f → AreAbove m queues → AreAbove m (all_changed (with_mail f) queues)
above-all f m queues keeps h =
    All-map (λ (q : Named Message). IsLast m q.1) (λ (q : Named Message). (q.0, with_mail f q.1)) queues (All-weaker (λ (q : Named Message). IsLast m q.1) (λ q. IsLast m (with_mail f q.1)) (λ q k. keeps m q.1 k) queues h)

above-changed : (name : List ℕ) (f : Mail Message → Mail Message) (m : ℕ) (queues : List (Named Message)) → KeepsLast f → AreAbove m queues → AreAbove m (changed name (with_mail f) queues)
above-changed name f m [] keeps h = h
above-changed name f m (q ∷ queues) keeps h =
    let head : IsLast m q.1 = All-head (λ (x : Named Message). IsLast m x.1) q queues h in
    let tail : AreAbove m queues = All-tail (λ (x : Named Message). IsLast m x.1) q queues h in
    elim (bytes_eq name q.0) as (λ b. AreAbove m (cond b ((q.0, with_mail f q.1) ∷ queues) (q ∷ changed name (with_mail f) queues))) [
      | true ↦ All-cons (λ (x : Named Message). IsLast m x.1) (q.0, with_mail f q.1) queues (keeps m q.1 head) tail
      | false ↦ All-cons (λ (x : Named Message). IsLast m x.1) q (changed name (with_mail f) queues) head (above-changed name f m queues keeps tail)
    ]

above-freed : (connection number : ℕ) (clients : List Client) (m : ℕ) (queues : List (Named Message)) → AreAbove m queues → AreAbove m (freed_from connection number clients queues)
above-freed connection number [] m queues h = h
above-freed connection number (client ∷ clients) m queues h =
    above-freed connection (number + 1) clients m (if client.connection == connection then all_changed (with_mail (released_from number)) queues else queues)
    (elim (client.connection == connection) as (λ b. AreAbove m (if b then all_changed (with_mail (released_from number)) queues else queues)) [
      | true ↦ above-all (released_from number) m queues (last-freed number) h
      | false ↦ h
    ])

raise-last : (a b : ℕ) (queue : Standing Message) → a ≤ b → IsLast a queue → IsLast b queue
raise-last a b queue le h =
    (All-weaker (λ (row : Row). row.copy < a) (λ row. row.copy < b) (λ row k. omega (arith, le, k)) queue.mail.rows h.0, All-weaker (λ (k : CopyMessage Message). k.number < a) (λ k. k.number < b) (λ copy k. omega (arith, le, k)) queue.mail.copies h.1)

pub raise : (a b : ℕ) (queues : List (Named Message)) → a ≤ b → AreAbove a queues → AreAbove b queues
raise a b queues le h = All-weaker (λ (q : Named Message). IsLast a q.1) (λ q. IsLast b q.1) (λ q k. raise-last a b q.1 le k) queues h

next-entered : (n : ℕ) (m : Message) (queue : Standing Message) → IsLast n queue → IsLast (n + 1) (with_mail (entered n m) queue)
next-entered n m queue h =
    let next : IsLast (n + 1) queue = raise-last n (n + 1) queue (omega arith) h in
    (All-push (λ (row : Row). row.copy < n + 1) queue.mail.rows (rows.entered n) next.0 (omega arith), All-push (λ (k : CopyMessage Message). k.number < n + 1) queue.mail.copies (fresh n m) next.1 (omega arith))

next-above : (name : List ℕ) (n : ℕ) (m : Message) (queues : List (Named Message)) → AreAbove n queues → AreAbove (n + 1) (changed name (with_mail (entered n m)) queues)
next-above name n m [] h = All-nil (λ (q : Named Message). IsLast (n + 1) q.1)
next-above name n m (q ∷ queues) h =
    let head : IsLast n q.1 = All-head (λ (x : Named Message). IsLast n x.1) q queues h in
    let tail : AreAbove n queues = All-tail (λ (x : Named Message). IsLast n x.1) q queues h in
    elim (bytes_eq name q.0) as (λ b. AreAbove (n + 1) (cond b ((q.0, with_mail (entered n m) q.1) ∷ queues) (q ∷ changed name (with_mail (entered n m)) queues))) [
      | true ↦ All-cons (λ (x : Named Message). IsLast (n + 1) x.1) (q.0, with_mail (entered n m) q.1) queues (next-entered n m q.1 head) (raise n (n + 1) queues (omega arith) tail)
      | false ↦ All-cons (λ (x : Named Message). IsLast (n + 1) x.1) q (changed name (with_mail (entered n m)) queues) (raise-last n (n + 1) q.1 (omega arith) head) (next-above name n m queues tail)
    ]

above-entered : (names : List (List ℕ)) (n : ℕ) (m : Message) (queues : List (Named Message)) → AreAbove n queues → AreAbove (n + length names) (all_entered names n m queues)
above-entered [] n m queues h = let none : List (List ℕ) = [] in raise n (n + length none) queues (omega arith) h
above-entered (name ∷ names) n m queues h =
    let next : List (Named Message) = changed name (with_mail (entered n m)) queues in
    raise (n + 1 + length names) (n + length (name ∷ names)) (all_entered names (n + 1) m next) (omega arith) (above-entered names (n + 1) m next (next-above name n m queues h))

-- the copies of a publication have the next numbers
above-published : (qs : List (List ℕ)) (first n : ℕ) (m : Message) (queues : List (Named Message)) → first ≡ first_of n qs → AreAbove n queues → AreAbove (n + length qs) (all_entered qs first m queues)
above-published [] first n m queues e h = let none : List (List ℕ) = [] in raise n (n + length none) queues (omega arith) h
above-published (q ∷ qs) first n m queues e h =
    subst (λ k. AreAbove (n + length (q ∷ qs)) (all_entered (q ∷ qs) k m queues)) (sym e) (above-entered (q ∷ qs) n m queues h)

-- ---- each entry

at-place : (b : Bool) (u v : VhostState) (n m : ℕ) → n ≤ m → AreAbove m u.queues → AreAbove n v.queues → AreAbove m (if b then u else v).queues
at-place true u v n m le h k = h
at-place false u v n m le h k = raise n m v.queues le k

-- an entry that is no publication
still : (n : ℕ) (queues : List (Named Message)) → AreAbove n queues → AreAbove (n + 0) queues
still n queues h = raise n (n + 0) queues (omega arith) h

maybe : (b : Bool) (u v : VhostState) (n : ℕ) → AreAbove n u.queues → AreAbove n v.queues → AreAbove (n + 0) (if b then u else v).queues
maybe b u v n h k = at-place b u v n (n + 0) (omega arith) (still n u.queues h) k

grown : (J : List Entry) (p : Place) (e : Entry) (v : VhostState) (n : ℕ) → n ≡ copy_count J + 1 → Suits J e → AreAbove n v.queues → AreAbove (n + copies_made e) (recorded p e v).queues
grown J p (Published x) v n same suits h =
    at-place (same_place x.place p) (with_entered x.queues x.first x.message v) v n (n + length x.queues) (omega arith) (above-published x.queues x.first n x.message v.queues (suits.0 ∙ ap (λ k. first_of k x.queues) (sym same)) h) h
grown J p (MadeQueue place queue options owner) v n same suits h =
    maybe (same_place place p) (with_queue queue options owner v) v n (All-push (λ (q : Named Message). IsLast n q.1) v.queues (queue, made_queue v.made options owner) h (All-nil (λ (row : Row). row.copy < n), All-nil (λ (k : CopyMessage Message). k.number < n))) h
grown J p (MadeExchange place exchange shape) v n same suits h = maybe (same_place place p) (with_exchange exchange shape v) v n h h
grown J p (GoneQueue place queue) v n same suits h =
    maybe (same_place place p) (without_queue queue v) v n (All-filter (λ (q : Named Message). not (bytes_eq q.0 queue)) (λ (q : Named Message). IsLast n q.1) v.queues h) h
grown J p (Bound place binding) v n same suits h = maybe (same_place place p) (with_routing (bound binding v.routing) v) v n h h
grown J p (Unbound place binding) v n same suits h = maybe (same_place place p) (with_routing (unbound binding v.routing) v) v n h h
grown J p (Flushed broker) v n same suits h = maybe (same_text broker p.broker) (all_swept sweeps.Store v) v n (above-all (swept sweeps.Store) n v.queues last-stored h) h
grown J p (Took link session copy) v n same suits h = still n _ (above-all (handed copy (session_holder session)) n v.queues (last-handed copy (session_holder session)) h)
grown J p (Settled link session copy) v n same suits h = still n _ (above-all (left copy) n v.queues (last-left copy) h)
grown J p (Consumed place client queue tag no_ack prefetch) v n same suits h =
    maybe (same_place place p) (with_consumer (new_consumer client queue tag no_ack prefetch v) v) v n h h
grown J p (Cancelled place client tag) v n same suits h = maybe (same_place place p) (without_consumer client tag v) v n h h
grown J p (Delivered place client tag queue copy no_ack) v n same suits h =
    maybe (same_place place p) (with_handed client tag queue copy no_ack v) v n (above-changed queue (given copy (holder_as client tag v) no_ack) n v.queues (last-given copy (holder_as client tag v) no_ack) h) h
grown J p (Acked place client copy) v n same suits h = still n _ (above-all (left copy) n v.queues (last-left copy) h)
grown J p (Rejected place client copy) v n same suits h = still n _ (above-all (left copy) n v.queues (last-left copy) h)
grown J p (Requeued place client copy) v n same suits h = still n _ (above-all (released copy) n v.queues (last-released copy) h)
grown J p (Purged place queue) v n same suits h = maybe (same_place place p) (with_purged queue v) v n (above-changed queue purged n v.queues last-purged h) h
grown J p (Closed place connection) v n same suits h = maybe (same_place place p) (disconnected connection v) v n (above-freed connection 0 v.clients n v.queues h) h
grown J p _ v n same suits h = still n v.queues h

-- no copy has a number beyond the count after one entry more
pub fresh-step : (J : List Entry) (e : Entry) → ((c : ℕ) → copy_count J < c → publication_of c J ≡ None) → Suits J e → (c : ℕ) → copy_count (J ++ e ∷ []) < c → publication_of c (J ++ e ∷ []) ≡ None
fresh-step J e known suits c far =
    let beyond-all : copy_count J + copies_made e < c = subst (λ k. k < c) (count-push J e) far in
    publication-skip c J (e ∷ []) (known c (omega (arith, beyond-all))) ∙ alone c (copy_count J) J e refl suits beyond-all

-- the numbers of copies are below the next one after each entry
pub counted-step : (J : List Entry) (p : Place) (e : Entry) (v : VhostState) → IsCounted J v → Suits J e → IsCounted (J ++ e ∷ []) (recorded p e v)
counted-step J p e v h suits = record {
  known = fresh-step J e h.known suits;
  above =
      raise (copy_count J + 1 + copies_made e) (copy_count (J ++ e ∷ []) + 1) (recorded p e v).queues (omega (arith, count-push J e)) (grown J p e v (copy_count J + 1) refl suits h.above);
}
