-- What a publication waits for after one entry more (RabbitMQ, Publisher Confirms: when messages are confirmed).
use Rattle.std.proofs.Common.{◌≡◌, ℕ, ◌+◌, ◌-◌, ◌<◌, ◌≤◌, List, [], ◌∷◌, ◌++◌, length, Bool, true, false, filter, arith, refl, sym, ap, ◌∙◌}
use Rattle.std.specs.Prelude.{◌==◌, cond, not, ◌&&◌, ◌||◌, if◌then◌else◌, nat_le, nat_lt, slice_get, fold, All}
use Rattle.std.specs.List.{list_any}
use Rattle.std.proofs.lemmas.Bool.{not-true, and_from, and_right, le-leb, lt-ltb}
use Rattle.std.proofs.lemmas.List.Elements.{All-nil, All-cons, All-head, All-tail, All-weaker}
use Rattle.confirm_core.specs.Waits.{Unconfirmed, without_wait}
use Rattle.fed_journal.specs.declared.place.Place.{Place}
use Rattle.fed_journal.specs.declared.entry.Publication.{Publication}
use Rattle.fed_journal.specs.declared.entry.Entry.{Entry}
use Rattle.fed_journal.specs.declared.entry.Entry.TheVariants.{GoneQueue, Flushed, Took, Delivered, Acked, Rejected, Requeued, Purged, Closed, Settled}
use Rattle.fed_journal.specs.Names.{same_text, same_place}
use Rattle.fed_journal.specs.Holders.{Session, Channel, is_connection}
use Rattle.fed_journal.specs.Copies.{Standing, Unknown, Ready, Held, Left, is_left, is_waiting, is_home, is_name_of, standing, moved, closed, is_copy_of, is_copy_secured, flushes, numbers_from}
use Rattle.mini_broker.specs.State.{VhostState}
use Rattle.broker_view.specs.View.{HasCopies}
use Rattle.broker_view.specs.Told.{ready_copies, all_copies}
use Rattle.broker_view.specs.Confirms.{awaited, IsKnown}
use Rattle.broker_view.proofs.Names.{same_text-sym, same_place-true, number-sym}
use Rattle.broker_view.proofs.Secured.{secured-stays, secured-by, unsecured-there}
use Rattle.broker_view.proofs.Waits.{purged-member, gone-member}

-- what the entry leaves of what a publication at the place waits for; v is the virtual host before the entry
abbrev pub told_one : Place → Entry → VhostState → Unconfirmed → Unconfirmed
told_one p (Flushed broker) v u = if same_text broker p.broker then record u { waits = [] } else u
told_one p (Settled l session copy) v u = without_wait copy u
told_one p (Acked place client copy) v u = without_wait copy u
told_one p (Rejected place client copy) v u = without_wait copy u
told_one p (Delivered place client tag queue copy no_ack) v u = if no_ack then without_wait copy u else u
told_one p (Purged place queue) v u = if same_place place p then fold (λ u copy. without_wait copy u) u (ready_copies queue v) else u
told_one p (GoneQueue place queue) v u = if same_place place p then fold (λ u copy. without_wait copy u) u (all_copies queue v) else u
told_one p _ v u = u

-- ---- lists

not-not : (a : Bool) → not (not a) ≡ a
not-not true = refl
not-not false = refl

neither : (a b : Bool) → not (a || b) ≡ (not a && not b)
neither true b = refl
neither false b = refl

filter-all : (ns : List ℕ) → filter (λ n. true) ns ≡ ns
filter-all [] = refl
filter-all (n ∷ ns) = ap (λ ms. n ∷ ms) (filter-all ns)

filter-none : (ns : List ℕ) → filter (λ n. false) ns ≡ []
filter-none [] = refl
filter-none (n ∷ ns) = filter-none ns

twice-by : (q : ℕ → Bool) (n : ℕ) (ms ks : List ℕ) (a b : Bool) → b ≡ (a && q n) → filter q ms ≡ ks → filter q (cond a (n ∷ ms) ms) ≡ cond b (n ∷ ks) ks
twice-by q n ms ks true b both same = ap (λ x. cond (q n) (n ∷ x) x) same ∙ ap (λ x. cond x (n ∷ ks) ks) (sym both)
twice-by q n ms ks false b both same = same ∙ ap (λ x. cond x (n ∷ ks) ks) (sym both)

filter-twice : (p q r : ℕ → Bool) → ((n : ℕ) → r n ≡ (p n && q n)) → (ns : List ℕ) → filter q (filter p ns) ≡ filter r ns
filter-twice p q r both [] = refl
filter-twice p q r both (n ∷ ns) = twice-by q n (filter p ns) (filter r ns) (p n) (r n) (both n) (filter-twice p q r both ns)

-- what passes the one test fails the other, or keep has it
abbrev Kept : Bool → Bool → Bool → Type 0
Kept was now keep = (was ≡ true → now ≡ true) × (was ≡ false → now ≡ not keep)

kept-by : (keep : ℕ → Bool) (n : ℕ) (ms ks : List ℕ) (was now : Bool) → Kept was now (keep n) → ms ≡ filter keep ks → cond (not now) (n ∷ ms) ms ≡ filter keep (cond (not was) (n ∷ ks) ks)
kept-by keep n ms ks true now h same = ap (λ x. cond (not x) (n ∷ ms) ms) (h.0 refl) ∙ same
kept-by keep n ms ks false now h same =
    ap (λ x. cond (not x) (n ∷ ms) ms) (h.1 refl) ∙ ap (λ x. cond x (n ∷ ms) ms) (not-not (keep n)) ∙ ap (λ x. cond (keep n) (n ∷ x) x) same

filter-kept : (was now keep : ℕ → Bool) (ns : List ℕ) → All (λ n. Kept (was n) (now n) (keep n)) ns → filter (λ n. not (now n)) ns ≡ filter keep (filter (λ n. not (was n)) ns)
filter-kept was now keep [] all = refl
filter-kept was now keep (n ∷ ns) all =
    kept-by keep n (filter (λ n. not (now n)) ns) (filter (λ n. not (was n)) ns) (was n) (now n) (All-head (λ n. Kept (was n) (now n) (keep n)) n ns all) (filter-kept was now keep ns (All-tail (λ n. Kept (was n) (now n) (keep n)) n ns all))

-- ---- the copies of a publication

numbers-within : (n : ℕ) (qs : List (List ℕ)) → All (λ c. (n ≤ c) × (c < n + length qs)) (numbers_from n qs)
numbers-within n [] = All-nil (λ c. (n ≤ c) × (c < n + 0))
numbers-within n (q ∷ qs) =
    All-cons (λ c. (n ≤ c) × (c < n + length (q ∷ qs))) n (numbers_from (n + 1) qs) (omega arith, omega arith)
    (All-weaker (λ c. (n + 1 ≤ c) × (c < n + 1 + length qs)) (λ c. (n ≤ c) × (c < n + length (q ∷ qs))) (λ c h. (omega (arith, h.0), omega (arith, h.1))) (numbers_from (n + 1) qs) (numbers-within (n + 1) qs))

-- its copies are numbered from the first on
pub numbers-copies : (x : Publication) → All (λ c. is_copy_of x c ≡ true) (numbers_from x.first x.queues)
numbers-copies x =
    All-weaker (λ c. (x.first ≤ c) × (c < x.first + length x.queues)) (λ c. is_copy_of x c ≡ true)
    (λ c h. and_from (nat_le x.first c) (nat_lt (c - x.first) (length x.queues)) (le-leb x.first c h.0) (lt-ltb (c - x.first) (length x.queues) (omega (arith, h.0, h.1))))
    (numbers_from x.first x.queues) (numbers-within x.first x.queues)

-- ---- what is kept of what it waits for

abbrev unconfirmed : ℕ → List ℕ → Unconfirmed
unconfirmed number waits = record { number = number; waits = waits }

-- the entry secures those copies that aren't to be kept
abbrev Secures : List Entry → Entry → Publication → (ℕ → Bool) → Type 0
Secures J e x keep = (c : ℕ) → is_copy_of x c ≡ true → is_copy_secured J c ≡ false → (flushes x.place.broker e || is_left (moved c x (standing c J) e)) ≡ not (keep c)

-- the publication goes on to wait for those that are kept
pub awaited-kept : (J : List Entry) (e : Entry) (x : Publication) (keep : ℕ → Bool) → IsKnown J x → Secures J e x keep → awaited (J ++ e ∷ []) x ≡ record { number = x.number; waits = filter keep (awaited J x).waits }
awaited-kept J e x keep known secures =
    ap (unconfirmed x.number) (filter-kept (is_copy_secured J) (is_copy_secured (J ++ e ∷ [])) keep (numbers_from x.first x.queues)
    (All-weaker (λ c. is_copy_of x c ≡ true) (λ c. Kept (is_copy_secured J c) (is_copy_secured (J ++ e ∷ []) c) (keep c))
    (λ c copy. (secured-stays J e c x (known.copies c copy), λ h. secured-by J e c x (known.copies c copy) h ∙ secures c copy h))
    (numbers_from x.first x.queues) (numbers-copies x)))

not-left : (J : List Entry) (c : ℕ) → is_copy_secured J c ≡ false → is_left (standing c J) ≡ false
not-left J c h = not-true (is_left (standing c J)) (unsecured-there J c h)

-- no copy leaves by the entry
abbrev Stays : Publication → Entry → Type 0
Stays x e = (c : ℕ) (t : Standing) → is_left t ≡ false → (flushes x.place.broker e || is_left (moved c x t e)) ≡ false

still : (J : List Entry) (e : Entry) (x : Publication) → IsKnown J x → Stays x e → awaited (J ++ e ∷ []) x ≡ awaited J x
still J e x known stays =
    awaited-kept J e x (λ c. true) known (λ c copy h. stays c (standing c J) (not-left J c h)) ∙ ap (unconfirmed x.number) (filter-all (awaited J x).waits)

-- that copy alone leaves by the entry
abbrev Leaves : Publication → ℕ → Entry → Type 0
Leaves x copy e = (c : ℕ) (t : Standing) → is_left t ≡ false → (flushes x.place.broker e || is_left (moved c x t e)) ≡ (copy == c)

one-left : (J : List Entry) (e : Entry) (x : Publication) (copy : ℕ) → IsKnown J x → Leaves x copy e → awaited (J ++ e ∷ []) x ≡ without_wait copy (awaited J x)
one-left J e x copy known leaves =
    awaited-kept J e x (λ wait. not (wait == copy)) known (λ c of_it h. leaves c (standing c J) (not-left J c h) ∙ number-sym copy c ∙ sym (not-not (c == copy)))

-- without one copy after another
all-left : (copies : List ℕ) (u : Unconfirmed) → fold (λ u copy. without_wait copy u) u copies ≡ record { number = u.number; waits = filter (λ c. not (list_any (λ n. n == c) copies)) u.waits }
all-left [] u = ap (unconfirmed u.number) (sym (filter-all u.waits))
all-left (copy ∷ copies) u =
    all-left copies (without_wait copy u)
    ∙ ap (unconfirmed u.number) (filter-twice (λ c. not (c == copy)) (λ c. not (list_any (λ n. n == c) copies)) (λ c. not (list_any (λ n. n == c) (copy ∷ copies)))
    (λ c. neither (copy == c) (list_any (λ n. n == c) copies) ∙ ap (λ b. not b && not (list_any (λ n. n == c) copies)) (number-sym copy c)) u.waits)

-- ---- what the entries do

if-left : (b : Bool) (t : Standing) → is_left t ≡ false → is_left (cond b Left t) ≡ b
if-left true t h = refl
if-left false t h = h

if-stays : (b : Bool) (s t : Standing) → is_left s ≡ false → is_left t ≡ false → is_left (cond b s t) ≡ false
if-stays true s t g h = g
if-stays false s t g h = h

pub closed-stays : (p : Place) (n : ℕ) (t : Standing) → is_left t ≡ false → is_left (closed p n t) ≡ false
closed-stays p n (Held holder) h = if-stays (is_connection p n holder) Ready (Held holder) refl refl
closed-stays p n Unknown h = h
closed-stays p n Ready h = h
closed-stays p n Left h = h

place-sym : (a b : Place) → same_place a b ≡ same_place b a
place-sym a b =
    ap (λ t. t && same_text a.vhost b.vhost) (same_text-sym a.broker b.broker) ∙ ap (λ t. same_text b.broker a.broker && t) (same_text-sym a.vhost b.vhost)

elsewhere : (x : Publication) (c : ℕ) (p place : Place) (q : List ℕ) → x.place ≡ p → same_place place p ≡ false → is_home x c place q ≡ false
elsewhere x c p place q at isn't =
    ap (λ b. b && is_name_of q (slice_get x.queues (c - x.first))) (ap (λ y. same_place y place) at ∙ place-sym p place ∙ isn't)

flushed : (J : List Entry) (p : Place) (broker : List ℕ) (x : Publication) (b : Bool) → same_text broker p.broker ≡ b → IsKnown J x → x.place ≡ p → awaited (J ++ Flushed broker ∷ []) x ≡ cond b (unconfirmed x.number []) (awaited J x)
flushed J p broker x true is known at =
    awaited-kept J (Flushed broker) x (λ c. false) known (λ c copy h. ap (λ f. f || is_left (standing c J)) (ap (λ y. same_text broker y.broker) at ∙ is))
    ∙ ap (unconfirmed x.number) (filter-none (awaited J x).waits)
flushed J p broker x false isn't known at =
    still J (Flushed broker) x known (λ c t h. ap (λ f. f || is_left t) (ap (λ y. same_text broker y.broker) at ∙ isn't) ∙ h)

purged : (J : List Entry) (p place : Place) (q : List ℕ) (v : VhostState) (x : Publication) (b : Bool) → same_place place p ≡ b → HasCopies J p v → IsKnown J x → x.place ≡ p → awaited (J ++ Purged place q ∷ []) x ≡ cond b (fold (λ u copy. without_wait copy u) (awaited J x) (ready_copies q v)) (awaited J x)
purged J p place q v x true is has known at =
    awaited-kept J (Purged place q) x (λ c. not (list_any (λ n. n == c) (ready_copies q v))) known
    (λ c copy h. if-left (is_waiting (standing c J) && is_home x c place q) (standing c J) (not-left J c h)
    ∙ ap (λ y. is_waiting (standing c J) && is_home x c y q) (same_place-true place p is)
    ∙ purged-member J p q v x c has known copy (unsecured-there J c h)
    ∙ sym (not-not (list_any (λ n. n == c) (ready_copies q v))))
    ∙ sym (all-left (ready_copies q v) (awaited J x))
purged J p place q v x false isn't has known at =
    still J (Purged place q) x known
    (λ c t h. if-left (is_waiting t && is_home x c place q) t h ∙ and_right (is_waiting t) (is_home x c place q) (elsewhere x c p place q at isn't))

gone : (J : List Entry) (p place : Place) (q : List ℕ) (v : VhostState) (x : Publication) (b : Bool) → same_place place p ≡ b → HasCopies J p v → IsKnown J x → x.place ≡ p → awaited (J ++ GoneQueue place q ∷ []) x ≡ cond b (fold (λ u copy. without_wait copy u) (awaited J x) (all_copies q v)) (awaited J x)
gone J p place q v x true is has known at =
    awaited-kept J (GoneQueue place q) x (λ c. not (list_any (λ n. n == c) (all_copies q v))) known
    (λ c copy h. if-left (is_home x c place q) (standing c J) (not-left J c h)
    ∙ ap (λ y. is_home x c y q) (same_place-true place p is)
    ∙ gone-member J p q v x c has known copy (unsecured-there J c h)
    ∙ sym (not-not (list_any (λ n. n == c) (all_copies q v))))
    ∙ sym (all-left (all_copies q v) (awaited J x))
gone J p place q v x false isn't has known at =
    still J (GoneQueue place q) x known (λ c t h. if-left (is_home x c place q) t h ∙ elsewhere x c p place q at isn't)

-- what a publication at the place waits for is as its broker is told
pub awaited-push : (J : List Entry) (p : Place) (e : Entry) (v : VhostState) (x : Publication) → HasCopies J p v → IsKnown J x → x.place ≡ p → awaited (J ++ e ∷ []) x ≡ told_one p e v (awaited J x)
awaited-push J p (Flushed broker) v x has known at = flushed J p broker x (same_text broker p.broker) refl known at
awaited-push J p (Settled l session copy) v x has known at = one-left J (Settled l session copy) x copy known (λ c t h. if-left (copy == c) t h)
awaited-push J p (Acked place client copy) v x has known at = one-left J (Acked place client copy) x copy known (λ c t h. if-left (copy == c) t h)
awaited-push J p (Rejected place client copy) v x has known at = one-left J (Rejected place client copy) x copy known (λ c t h. if-left (copy == c) t h)
awaited-push J p (Delivered place client tag queue copy true) v x has known at =
    one-left J (Delivered place client tag queue copy true) x copy known (λ c t h. if-left (copy == c) t h)
awaited-push J p (Delivered place client tag queue copy false) v x has known at =
    still J (Delivered place client tag queue copy false) x known (λ c t h. if-stays (copy == c) (Held (Channel place client tag)) t refl h)
awaited-push J p (Purged place queue) v x has known at = purged J p place queue v x (same_place place p) refl has known at
awaited-push J p (GoneQueue place queue) v x has known at = gone J p place queue v x (same_place place p) refl has known at
awaited-push J p (Took l session copy) v x has known at = still J (Took l session copy) x known (λ c t h. if-stays (copy == c) (Held (Session l session)) t refl h)
awaited-push J p (Requeued place client copy) v x has known at = still J (Requeued place client copy) x known (λ c t h. if-stays (copy == c) Ready t refl h)
awaited-push J p (Closed place connection) v x has known at = still J (Closed place connection) x known (λ c t h. closed-stays place connection t h)
awaited-push J p e v x has known at = still J e x known (λ c t h. h)
