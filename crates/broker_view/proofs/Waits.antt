-- What a new publication waits for, and which of its copies leave with a purge or with their queue.
use Rattle.std.proofs.Common.{◌≡◌, ℕ, suc, ◌+◌, ◌-◌, ◌<◌, List, [], ◌∷◌, ◌++◌, length, Bool, true, false, cond, not, Some, None, arith, refl, sym, ap, subst, ◌∙◌, map}
use Rattle.std.specs.Prelude.{◌==◌, ◌&&◌, ◌||◌, All, filter, slice_get}
use Rattle.std.specs.Cmp.{both_ways}
use Rattle.std.specs.List.{list_any}
use Rattle.std.specs.Option.{option_map}
use Rattle.std.proofs.Math.Bool.{not-not}
use Rattle.std.proofs.lemmas.Bool.{false≢true, eqb-true, and_right}
use Rattle.std.proofs.lemmas.Option.{same_Some, slice_get_within}
use Rattle.std.proofs.lemmas.List.Elements.{All-head, All-tail}
use Rattle.confirm_core.specs.Waits.{Unconfirmed}
use Rattle.queue_core.specs.declared.rows.Row.{Row}
use Rattle.queue_core.specs.Rows as rows
use Rattle.fed_journal.specs.declared.place.Place.{Place}
use Rattle.fed_journal.specs.declared.entry.Publication.{Publication}
use Rattle.fed_journal.specs.declared.entry.Entry.{Entry}
use Rattle.fed_journal.specs.declared.entry.Entry.TheVariants.{Published}
use Rattle.fed_journal.specs.Messages.{is_persistent}
use Rattle.fed_journal.specs.Copies.{is_waiting, is_home, is_copy_of, is_copy_secured, is_lasting, is_lasting_at, copy_count, numbers_from, publication_of, entered, standing}
use Rattle.fed_journal.specs.Holds.{is_ready}
use Rattle.mini_broker.specs.Publish.{first_of}
use Rattle.broker_store.specs.Queues.{queue_of}
use Rattle.mini_broker.specs.State.{VhostState}
use Rattle.broker_view.specs.View.{IsConfigured, HasHome, HaveHomes, HasCopies, RowStands, is_there, rows_in}
use Rattle.broker_view.specs.Confirms.{awaited, IsKnown}
use Rattle.broker_view.specs.Told.{lasting_from, must_wait, ready_copies, all_copies}
use Rattle.broker_view.proofs.CopySteps.{ready-as}
use Rattle.broker_view.proofs.PublishedStep.{new-first, copy-at}
use Rattle.broker_view.proofs.Secured.{secured-new}

-- ---- membership

kept-by : (keep : ℕ → Bool) (c n : ℕ) (ns : List ℕ) (b k : Bool) → (n == c) ≡ b → keep n ≡ k → list_any (λ m. m == c) (filter keep ns) ≡ (keep c && list_any (λ m. m == c) ns) → list_any (λ m. m == c) (cond k (n ∷ filter keep ns) (filter keep ns)) ≡ (keep c && (b || list_any (λ m. m == c) ns))
kept-by keep c n ns true true is kept later =
    ap (λ b. b || list_any (λ m. m == c) (filter keep ns)) is ∙ sym (ap (λ b. b && true) (ap keep (sym (eqb-true n c is)) ∙ kept))
kept-by keep c n ns true false is off later =
    let none : keep c ≡ false = ap keep (sym (eqb-true n c is)) ∙ off in
    later ∙ ap (λ b. b && list_any (λ m. m == c) ns) none ∙ sym (ap (λ b. b && true) none)
kept-by keep c n ns false true isn't kept later = ap (λ b. b || list_any (λ m. m == c) (filter keep ns)) isn't ∙ later
kept-by keep c n ns false false isn't off later = later

any-kept : (keep : ℕ → Bool) (c : ℕ) (ns : List ℕ) → list_any (λ n. n == c) (filter keep ns) ≡ (keep c && list_any (λ n. n == c) ns)
any-kept keep c [] = sym (and_right (keep c) false refl)
any-kept keep c (n ∷ ns) = kept-by keep c n ns (n == c) (keep n) refl refl (any-kept keep c ns)

member-by : (P : ℕ → Type 0) (c n : ℕ) (rest b : Bool) → (n == c) ≡ b → P n → (rest ≡ true → P c) → (b || rest) ≡ true → P c
member-by P c n rest true is here later any = subst P (eqb-true n c is) here
member-by P c n rest false isn't here later any = later any

member : (P : ℕ → Type 0) (c : ℕ) (ns : List ℕ) → All P ns → list_any (λ n. n == c) ns ≡ true → P c
member P c [] all any = absurd (false≢true any)
member P c (n ∷ ns) all any = member-by P c n (list_any (λ m. m == c) ns) (n == c) refl (All-head P n ns all) (member P c ns (All-tail P n ns all)) any

-- ---- the copies of a queue

-- what entered a queue has its home there
at-home : (J : List Entry) (p : Place) (q : List ℕ) (x : Publication) (c : ℕ) → IsKnown J x → is_copy_of x c ≡ true → HasHome J p q c → is_home x c p q ≡ true
at-home J p q x c known copy h =
    subst (λ y. is_home y c p q ≡ true) (same_Some h.publication x (sym h.of_copy ∙ known.copies c copy)) h.home

home-member : (J : List Entry) (p : Place) (q : List ℕ) (x : Publication) (c : ℕ) → HaveHomes J → IsKnown J x → is_copy_of x c ≡ true → is_home x c p q ≡ list_any (λ n. n == c) (entered J p q)
home-member J p q x c homes known copy =
    both_ways (is_home x c p q) (list_any (λ n. n == c) (entered J p q)) (known.homes c p q copy) (λ any. at-home J p q x c known copy (member (HasHome J p q) c (entered J p q) (homes p q) any))

there-member : (J : List Entry) (c : ℕ) (ns : List ℕ) → is_there J c ≡ true → list_any (λ n. n == c) (filter (is_there J) ns) ≡ list_any (λ n. n == c) ns
there-member J c ns there = any-kept (is_there J) c ns ∙ ap (λ b. b && list_any (λ n. n == c) ns) there

row-kept : (row : Row) (rs : List Row) (ns : List ℕ) (b : Bool) → map (λ (r : Row). r.copy) rs ≡ ns → map (λ (r : Row). r.copy) (cond b (row ∷ rs) rs) ≡ cond b (row.copy ∷ ns) ns
row-kept row rs ns true e = ap (λ ms. row.copy ∷ ms) e
row-kept row rs ns false e = e

-- the ready rows are those of the ready copies
ready-rows : (J : List Entry) (p : Place) (v : VhostState) (rs : List Row) → All (RowStands J p v) rs → map (λ (r : Row). r.copy) (filter rows.is_ready rs) ≡ filter (is_ready J) (map (λ (r : Row). r.copy) rs)
ready-rows J p v [] k = refl
ready-rows J p v (row ∷ rs) k =
    ap (λ b. map (λ (r : Row). r.copy) (cond b (row ∷ filter rows.is_ready rs) (filter rows.is_ready rs))) (ready-as J p v row.copy (standing row.copy J) row.hold (All-head (RowStands J p v) row rs k))
    ∙ row-kept row (filter rows.is_ready rs) (filter (is_ready J) (map (λ (r : Row). r.copy) rs)) (is_ready J row.copy) (ready-rows J p v rs (All-tail (RowStands J p v) row rs k))

-- a purge takes the copies that wait in their home (AMQP 0-9-1, queue.purge)
pub purged-member : (J : List Entry) (p : Place) (q : List ℕ) (v : VhostState) (x : Publication) (c : ℕ) → HasCopies J p v → IsKnown J x → is_copy_of x c ≡ true → is_there J c ≡ true →
    (is_waiting (standing c J) && is_home x c p q) ≡ list_any (λ n. n == c) (ready_copies q v)
purged-member J p q v x c has known copy there =
    ap (λ b. is_waiting (standing c J) && b) (home-member J p q x c has.homes known copy ∙ sym (there-member J c (entered J p q) there))
    ∙ sym (any-kept (is_ready J) c (filter (is_there J) (entered J p q)))
    ∙ ap (list_any (λ n. n == c)) (sym (ready-rows J p v (rows_in q v.queues) (has.rows q) ∙ ap (filter (is_ready J)) (has.numbers q)))

-- a queue takes all copies of which it is the home with it (AMQP 0-9-1, queue.delete)
pub gone-member : (J : List Entry) (p : Place) (q : List ℕ) (v : VhostState) (x : Publication) (c : ℕ) → HasCopies J p v → IsKnown J x → is_copy_of x c ≡ true → is_there J c ≡ true →
    is_home x c p q ≡ list_any (λ n. n == c) (all_copies q v)
gone-member J p q v x c has known copy there =
    home-member J p q x c has.homes known copy ∙ sym (there-member J c (entered J p q) there) ∙ ap (list_any (λ n. n == c)) (sym (has.numbers q))

-- ---- a new publication

-- the queue of that name is lasting
abbrev lasts : VhostState → List ℕ → Bool
lasts v q = is_lasting (option_map (λ s. s.options) (queue_of q v.queues))

-- the test of the copies, numbered from n on, says that of their queues
abbrev Tests : (ℕ → Bool) → ℕ → List (List ℕ) → (List ℕ → Bool) → Type 0
Tests test n qs says = (k : ℕ) (q : List ℕ) → slice_get qs k ≡ Some q → test (n + k) ≡ says q

first-tests : (test : ℕ → Bool) (n : ℕ) (q : List ℕ) (qs : List (List ℕ)) (says : List ℕ → Bool) → Tests test n (q ∷ qs) says → test n ≡ says q
first-tests test n q qs says h = ap test (omega arith) ∙ h 0 q refl

next-tests : (test : ℕ → Bool) (n : ℕ) (q : List ℕ) (qs : List (List ℕ)) (says : List ℕ → Bool) → Tests test n (q ∷ qs) says → Tests test (n + 1) qs says
next-tests test n q qs says h = λ k r at. ap test (omega arith) ∙ h (suc k) r at

lasting-kept : (test : ℕ → Bool) (v : VhostState) (n : ℕ) (qs : List (List ℕ)) → Tests test n qs (lasts v) → filter test (numbers_from n qs) ≡ lasting_from v n qs
lasting-kept test v n [] h = refl
lasting-kept test v n (q ∷ qs) h =
    ap (λ b. cond b (n ∷ filter test (numbers_from (n + 1) qs)) (filter test (numbers_from (n + 1) qs))) (first-tests test n q qs (lasts v) h)
    ∙ ap (λ ns. cond (lasts v q) (n ∷ ns) ns) (lasting-kept test v (n + 1) qs (next-tests test n q qs (lasts v) h))

none-kept : (test : ℕ → Bool) (n : ℕ) (qs : List (List ℕ)) → Tests test n qs (λ q. false) → filter test (numbers_from n qs) ≡ []
none-kept test n [] h = refl
none-kept test n (q ∷ qs) h =
    ap (λ b. cond b (n ∷ filter test (numbers_from (n + 1) qs)) (filter test (numbers_from (n + 1) qs))) (first-tests test n q qs (λ q. false) h)
    ∙ none-kept test (n + 1) qs (next-tests test n q qs (λ q. false) h)

-- of a persistent message the copies in lasting queues, of another none
waits-by : (test : ℕ → Bool) (v : VhostState) (n : ℕ) (qs : List (List ℕ)) (b : Bool) → Tests test n qs (λ q. b && lasts v q) → filter test (numbers_from n qs) ≡ cond b (lasting_from v n qs) []
waits-by test v n qs true h = lasting-kept test v n qs h
waits-by test v n qs false h = none-kept test n qs h

-- a new copy isn't secured where its message is persistent and its queue is lasting
unsecured : (J : List Entry) (p : Place) (v : VhostState) (x : Publication) → IsConfigured J p v → ((c : ℕ) → copy_count J < c → publication_of c J ≡ None) → x.place ≡ p → x.first ≡ first_of (copy_count J + 1) x.queues → Tests (λ c. not (is_copy_secured (J ++ Published x ∷ []) c)) x.first x.queues (λ q. is_persistent x.message && lasts v q)
unsecured J p v x configured known at first k q there =
    let within : k < length x.queues = slice_get_within x.queues k q there in
    ap not (secured-new J x (x.first + k) (known (x.first + k) (new-first (copy_count J) x.first k x.queues first within)) (copy-at x k within))
    ∙ not-not (is_persistent x.message && is_lasting_at J x.place (slice_get x.queues (x.first + k - x.first)))
    ∙ ap (λ i. is_persistent x.message && is_lasting_at J x.place (slice_get x.queues i)) (omega arith)
    ∙ ap (λ o. is_persistent x.message && is_lasting_at J x.place o) there
    ∙ ap (λ place. is_persistent x.message && is_lasting_at J place (Some q)) at
    ∙ ap (λ o. is_persistent x.message && is_lasting o) (sym (configured.options q))

abbrev waiting : ℕ → List ℕ → Unconfirmed
waiting number waits = record { number = number; waits = waits }

-- a new publication waits for its copies in lasting queues, where its message is persistent (RabbitMQ, Publisher Confirms: persistent messages)
pub awaited-new : (J : List Entry) (p : Place) (v : VhostState) (x : Publication) → IsConfigured J p v → ((c : ℕ) → copy_count J < c → publication_of c J ≡ None) → x.place ≡ p → x.first ≡ first_of (copy_count J + 1) x.queues →
    awaited (J ++ Published x ∷ []) x ≡ record { number = x.number; waits = must_wait x v }
awaited-new J p v x configured known at first =
    ap (waiting x.number) (waits-by (λ c. not (is_copy_secured (J ++ Published x ∷ []) c)) v x.first x.queues (is_persistent x.message) (unsecured J p v x configured known at first))
