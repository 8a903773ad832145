-- What a place owes of confirms after one entry more.
use Rattle.std.proofs.Common.{◌≡◌, ℕ, ◌+◌, List, [], ◌∷◌, ◌++◌, length, Bool, true, false, cond, not, Some, None, is_some, refl, sym, ap, ap₂, ◌∙◌, map, append-nil}
use Rattle.std.specs.Prelude.{◌==◌, ◌&&◌, All, filter, find, fold}
use Rattle.std.proofs.lemmas.List.{map-append, length-map}
use Rattle.std.proofs.lemmas.List.Elements.{All-head, All-tail}
use Rattle.confirm_core.specs.Waits.{Unconfirmed, without_wait, all_stored, released, without, ready_numbers, least}
use Rattle.fed_journal.specs.declared.place.Place.{Place}
use Rattle.fed_journal.specs.declared.entry.Publisher.{Publisher}
use Rattle.fed_journal.specs.declared.entry.Publisher.TheVariants.{Client, Link}
use Rattle.fed_journal.specs.declared.entry.Publication.{Publication}
use Rattle.fed_journal.specs.declared.entry.Entry.{Entry}
use Rattle.fed_journal.specs.declared.entry.Entry.TheVariants.{GoneQueue, Published, Confirmed, Settled, Flushed, Delivered, Acked, Rejected, Purged}
use Rattle.fed_journal.specs.Names.{same_text, same_place}
use Rattle.fed_journal.specs.Copies.{publication_count, publication_in, is_secured}
use Rattle.fed_journal.specs.Flight.{confirmed_to, copy_published_by, flight_published}
use Rattle.broker_store.specs.declared.account.Account.{Account}
use Rattle.broker_store.specs.Confirms.{ledger_of, all_ledgers, all_left}
use Rattle.mini_broker.specs.State.{VhostState}
use Rattle.broker_view.specs.Confirms.{publications, is_by, is_open_at, open_at, awaited, HasConfirms, IsKnown, HasPublications, ArePublishedAt}
use Rattle.broker_view.specs.Suits.{Suits}
use Rattle.broker_view.specs.Told.{must_wait, with_publication, ready_copies, all_copies, told}
use Rattle.broker_view.specs.View.{HasCopies, IsView}
use Rattle.broker_view.proofs.Awaited.{told_one, awaited-push}
use Rattle.broker_view.proofs.Ledgers.{ledger-all, ledger-its, ledger-opened, ledger-left, told-below, below-none}
use Rattle.broker_view.proofs.Names.{same_place-true}
use Rattle.broker_view.proofs.OpenAt.{open-same, open-published, open-confirmed, flight-open, least-secured, open-known, open-here}
use Rattle.broker_view.proofs.Waits.{awaited-new}

-- ---- lists

map-same : {X : Type 0} (xs : List X) → xs ≡ map (λ x. x) xs
map-same [] = refl
map-same (x ∷ xs) = ap (λ ys. x ∷ ys) (map-same xs)

-- one change of the elements after another
fold-map : (copies : List ℕ) (ledger : List Unconfirmed) → fold (λ ledger copy. released copy ledger) ledger copies ≡ map (λ u. fold (λ u copy. without_wait copy u) u copies) ledger
fold-map [] ledger = map-same ledger
fold-map (c ∷ cs) ledger = fold-map cs (released c ledger) ∙ twice ledger
  where
    twice : (us : List Unconfirmed) → map (λ u. fold (λ u copy. without_wait copy u) u cs) (map (without_wait c) us) ≡ map (λ u. fold (λ u copy. without_wait copy u) u (c ∷ cs)) us
    twice [] = refl
    twice (u ∷ us) = ap (λ ws. fold (λ u copy. without_wait copy u) (without_wait c u) cs ∷ ws) (twice us)

-- ---- an entry that neither publishes nor confirms

abbrev IsOther : Entry → Type 0
IsOther (Published x) = ⊥
IsOther (Confirmed l s n) = ⊥
IsOther _ = Unit {0}

if-stored : (t : Bool) (l : List ℕ) (s : ℕ) (accounts : List Account) → ledger_of l s (cond t (all_ledgers all_stored accounts) accounts) ≡ map (λ (u : Unconfirmed). cond t (record u { waits = [] }) u) (ledger_of l s accounts)
if-stored true l s accounts = ledger-all all_stored refl l s accounts
if-stored false l s accounts = map-same (ledger_of l s accounts)

if-left : (t : Bool) (copy : ℕ) (l : List ℕ) (s : ℕ) (accounts : List Account) → ledger_of l s (cond t (all_ledgers (released copy) accounts) accounts) ≡ map (λ (u : Unconfirmed). cond t (without_wait copy u) u) (ledger_of l s accounts)
if-left true copy l s accounts = ledger-all (released copy) refl l s accounts
if-left false copy l s accounts = map-same (ledger_of l s accounts)

if-all_left : (t : Bool) (copies : List ℕ) (l : List ℕ) (s : ℕ) (accounts : List Account) → ledger_of l s (cond t (all_left copies accounts) accounts) ≡ map (λ (u : Unconfirmed). cond t (fold (λ u copy. without_wait copy u) u copies) u) (ledger_of l s accounts)
if-all_left true copies l s accounts = ledger-left l s copies accounts ∙ fold-map copies (ledger_of l s accounts)
if-all_left false copies l s accounts = map-same (ledger_of l s accounts)

-- each publication of the ledger is told
told-ledger : (p : Place) (e : Entry) (v : VhostState) (l : List ℕ) (s : ℕ) (accounts : List Account) → IsOther e → ledger_of l s (told p e v accounts) ≡ map (told_one p e v) (ledger_of l s accounts)
told-ledger p (Published x) v l s accounts other = absurd other
told-ledger p (Confirmed link session n) v l s accounts other = absurd other
told-ledger p (Flushed broker) v l s accounts other = if-stored (same_text broker p.broker) l s accounts
told-ledger p (Settled link session copy) v l s accounts other = ledger-all (released copy) refl l s accounts
told-ledger p (Acked place client copy) v l s accounts other = ledger-all (released copy) refl l s accounts
told-ledger p (Rejected place client copy) v l s accounts other = ledger-all (released copy) refl l s accounts
told-ledger p (Delivered place client tag queue copy no_ack) v l s accounts other = if-left no_ack copy l s accounts
told-ledger p (Purged place queue) v l s accounts other = if-all_left (same_place place p) (ready_copies queue v) l s accounts
told-ledger p (GoneQueue place queue) v l s accounts other = if-all_left (same_place place p) (all_copies queue v) l s accounts
told-ledger p _ v l s accounts other = map-same (ledger_of l s accounts)

-- each open publication waits for what it is told
awaited-all : (J : List Entry) (p : Place) (e : Entry) (v : VhostState) (xs : List Publication) → HasCopies J p v → All (IsKnown J) xs → All (λ x. same_place x.place p ≡ true) xs → map (told_one p e v) (map (awaited J) xs) ≡ map (awaited (J ++ e ∷ [])) xs
awaited-all J p e v [] has known here = refl
awaited-all J p e v (x ∷ xs) has known here =
    ap₂ (λ (u : Unconfirmed) us. u ∷ us)
    (sym (awaited-push J p e v x has (All-head (IsKnown J) x xs known) (same_place-true x.place p (All-head (λ (y : Publication). same_place y.place p ≡ true) x xs here))))
    (awaited-all J p e v xs has (All-tail (IsKnown J) x xs known) (All-tail (λ (y : Publication). same_place y.place p ≡ true) x xs here))

open-all : (J : List Entry) (p : Place) (e : Entry) (v : VhostState) (l : List ℕ) (s : ℕ) → HasCopies J p v → HasPublications J → map (told_one p e v) (map (awaited J) (open_at J p l s)) ≡ map (awaited (J ++ e ∷ [])) (open_at J p l s)
open-all J p e v l s has pubs = awaited-all J p e v (open_at J p l s) has (open-known J p l s pubs) (open-here J p l s)

not-published : (e : Entry) → IsOther e → publication_in (Some e) ≡ None
not-published (Published x) other = absurd other
not-published _ other = refl

not-confirmed : (e : Entry) → IsOther e → (l : List ℕ) (s : ℕ) → confirmed_to l s e ≡ None
not-confirmed (Confirmed link session n) other l s = absurd other
not-confirmed _ other l s = refl

other-ledger : (J : List Entry) (p : Place) (e : Entry) (v : VhostState) (accounts : List Account) (l : List ℕ) (s : ℕ) → IsOther e → HasCopies J p v → HasPublications J → HasConfirms J p accounts → ledger_of l s (told p e v accounts) ≡ map (awaited (J ++ e ∷ [])) (open_at (J ++ e ∷ []) p l s)
other-ledger J p e v accounts l s other has pubs owes =
    told-ledger p e v l s accounts other
    ∙ ap (map (told_one p e v)) (owes.ledgers l s)
    ∙ open-all J p e v l s has pubs
    ∙ ap (map (awaited (J ++ e ∷ []))) (sym (open-same J p l s e (not-published e other) (not-confirmed e other)))

-- ---- a publication

new-ledger : (by : Publisher) (x : Publication) (v : VhostState) (l : List ℕ) (s : ℕ) (accounts : List Account) →
    ledger_of l s (with_publication by x v accounts) ≡ ledger_of l s accounts ++ cond (is_some (copy_published_by l s by)) (record { number = x.number; waits = must_wait x v } ∷ []) []
new-ledger (Client client) x v l s accounts = sym (append-nil (ledger_of l s accounts))
new-ledger (Link link session c) x v l s accounts =
    ledger-opened l s link session x.number (must_wait x v) accounts
    ∙ elim (same_text link l && (session == s)) as (λ t. cond t (ledger_of l s accounts ++ record { number = x.number; waits = must_wait x v } ∷ []) (ledger_of l s accounts) ≡ ledger_of l s accounts ++ cond (is_some (cond t (Some c) None)) (record { number = x.number; waits = must_wait x v } ∷ []) []) [
      | true ↦ refl
      | false ↦ sym (append-nil (ledger_of l s accounts))
    ]

told-by : (b t : Bool) (x : Publication) (u : Unconfirmed) (was now new : List Unconfirmed) → now ≡ was ++ cond t (u ∷ []) [] → new ≡ cond (b && t) (u ∷ []) [] → cond b now was ≡ was ++ new
told-by true t x u was now new h k = h ∙ ap (λ us. was ++ us) (sym k)
told-by false t x u was now new h k = sym (append-nil was) ∙ ap (λ us. was ++ us) (sym k)

cond-ledger : (b : Bool) (l : List ℕ) (s : ℕ) (now was : List Account) → ledger_of l s (cond b now was) ≡ cond b (ledger_of l s now) (ledger_of l s was)
cond-ledger true l s now was = refl
cond-ledger false l s now was = refl

-- what the new publication waits for, if it is the session's at the place
new-awaited : (K : List Entry) (x : Publication) (u : Unconfirmed) (b t : Bool) → (b ≡ true → awaited K x ≡ u) → map (awaited K) (cond (b && t) (x ∷ []) []) ≡ cond (b && t) (u ∷ []) []
new-awaited K x u true true h = ap (λ (w : Unconfirmed). w ∷ []) (h refl)
new-awaited K x u true false h = refl
new-awaited K x u false t h = refl

published-ledger : (J : List Entry) (p : Place) (x : Publication) (v : VhostState) (accounts : List Account) (l : List ℕ) (s : ℕ) → IsView J p v → HasPublications J → HasConfirms J p accounts → Suits J (Published x) → ledger_of l s (told p (Published x) v accounts) ≡ map (awaited (J ++ Published x ∷ [])) (open_at (J ++ Published x ∷ []) p l s)
published-ledger J p x v accounts l s view pubs owes suits =
    let K : List Entry = J ++ Published x ∷ [] in
    let u : Unconfirmed = record { number = x.number; waits = must_wait x v } in
    let b : Bool = same_place x.place p in
    let old : ledger_of l s accounts ≡ map (awaited K) (open_at J p l s) = owes.ledgers l s ∙ map-same (map (awaited J) (open_at J p l s)) ∙ open-all J p (Published x) v l s view.copies pubs in
    let new : map (awaited K) (cond (b && is_by l s x) (x ∷ []) []) ≡ cond (b && is_by l s x) (u ∷ []) [] =
    new-awaited K x u b (is_by l s x) (λ here. awaited-new J p v x view.configured view.counted.known (same_place-true x.place p here) suits.0) in
    cond-ledger b l s (with_publication x.by x v accounts) accounts
    ∙ told-by b (is_by l s x) x u (ledger_of l s accounts) (ledger_of l s (with_publication x.by x v accounts)) (map (awaited K) (cond (b && is_by l s x) (x ∷ []) [])) (new-ledger x.by x v l s accounts) new
    ∙ ap (λ us. us ++ map (awaited K) (cond (b && is_by l s x) (x ∷ []) [])) old
    ∙ sym (map-append (awaited K) (open_at J p l s) (cond (b && is_by l s x) (x ∷ []) []))
    ∙ ap (map (awaited K)) (sym (open-published J p l s x pubs suits.2))

-- ---- a confirm

without-awaited : (J : List Entry) (n : ℕ) (xs : List Publication) → without n (map (awaited J) xs) ≡ map (awaited J) (filter (λ (x : Publication). not (x.number == n)) xs)
without-awaited J n [] = refl
without-awaited J n (x ∷ xs) =
    elim (not (x.number == n)) as (λ b. cond b (awaited J x ∷ without n (map (awaited J) xs)) (without n (map (awaited J) xs)) ≡ map (awaited J) (cond b (x ∷ filter (λ (y : Publication). not (y.number == n)) xs) (filter (λ (y : Publication). not (y.number == n)) xs))) [
      | true ↦ ap (λ us. awaited J x ∷ us) (without-awaited J n xs)
      | false ↦ without-awaited J n xs
    ]

answered-by : (t : Bool) (K : List Entry) (n : ℕ) (xs : List Publication) (ledger : List Unconfirmed) → ledger ≡ map (awaited K) xs → cond t (without n ledger) ledger ≡ map (awaited K) (cond t (filter (λ (x : Publication). not (x.number == n)) xs) xs)
answered-by true K n xs ledger h = ap (without n) h ∙ without-awaited K n xs
answered-by false K n xs ledger h = h

confirmed-ledger : (J : List Entry) (p : Place) (link : List ℕ) (session n : ℕ) (v : VhostState) (accounts : List Account) (l : List ℕ) (s : ℕ) → HasCopies J p v → HasPublications J → HasConfirms J p accounts → ledger_of l s (told p (Confirmed link session n) v accounts) ≡ map (awaited (J ++ Confirmed link session n ∷ [])) (open_at (J ++ Confirmed link session n ∷ []) p l s)
confirmed-ledger J p link session n v accounts l s has pubs owes =
    let K : List Entry = J ++ Confirmed link session n ∷ [] in
    let old : ledger_of l s accounts ≡ map (awaited K) (open_at J p l s) = owes.ledgers l s ∙ map-same (map (awaited J) (open_at J p l s)) ∙ open-all J p (Confirmed link session n) v l s has pubs in
    ledger-its (without n) refl l s link session accounts
    ∙ answered-by (same_text link l && (session == s)) K n (open_at J p l s) (ledger_of l s accounts) old
    ∙ ap (map (awaited K)) (sym (open-confirmed J p l s link session n))

-- ---- each entry

told-step : (J : List Entry) (p : Place) (e : Entry) (v : VhostState) (accounts : List Account) (l : List ℕ) (s : ℕ) → IsView J p v → HasPublications J → HasConfirms J p accounts → Suits J e → ledger_of l s (told p e v accounts) ≡ map (awaited (J ++ e ∷ [])) (open_at (J ++ e ∷ []) p l s)
told-step J p (Published x) v accounts l s view pubs owes suits = published-ledger J p x v accounts l s view pubs owes suits
told-step J p (Confirmed link session n) v accounts l s view pubs owes suits = confirmed-ledger J p link session n v accounts l s view.copies pubs owes
told-step J p e v accounts l s view pubs owes suits = other-ledger J p e v accounts l s tt view.copies pubs owes

-- what is owed after the entry is what the longer journal says
pub owed-step : (J : List Entry) (p : Place) (e : Entry) (v : VhostState) (accounts : List Account) → IsView J p v → HasPublications J → HasConfirms J p accounts → Suits J e → HasConfirms (J ++ e ∷ []) p (told p e v accounts)
owed-step J p e v accounts view pubs owes suits = record {
  ledgers = λ l s. told-step J p e v accounts l s view pubs owes suits;
  below = told-below J p e v accounts suits owes.below;
}

-- a place that published nothing owes nothing
pub none-owed : (J : List Entry) (p : Place) → publications J ≡ [] → HasConfirms J p []
none-owed J p none = record {
  ledgers = λ l s. sym (ap (λ (xs : List Publication). map (awaited J) (filter (is_open_at J p l s) xs)) none);
  below = below-none (publication_count J + 1);
}

-- ---- what the place answers

length-zero : {X Y : Type 0} (xs : List X) (ys : List Y) → length xs ≡ length ys → not (length xs == 0) ≡ not (length ys == 0)
length-zero xs ys h = ap (λ n. not (n == 0)) h

-- a session awaits confirms exactly where it has publications in flight
pub awaited-is : (J : List Entry) (p : Place) (accounts : List Account) (l : List ℕ) (s : ℕ) → HasConfirms J p accounts → ArePublishedAt J p l s → not (length (ledger_of l s accounts) == 0) ≡ not (length (flight_published J l s) == 0)
awaited-is J p accounts l s owes there =
    length-zero (ledger_of l s accounts) (flight_published J l s)
    (ap length (owes.ledgers l s) ∙ length-map (open_at J p l s) (awaited J) ∙ sym (length-map (open_at J p l s) (λ (x : Publication). x.number)) ∙ ap length (sym (flight-open J p l s there)))

-- the least that waits for nothing is the first that is secured
pub first-secured-is : (J : List Entry) (p : Place) (accounts : List Account) (l : List ℕ) (s : ℕ) → HasPublications J → HasConfirms J p accounts → ArePublishedAt J p l s → least (ready_numbers (ledger_of l s accounts)) ≡ find (is_secured J) (flight_published J l s)
first-secured-is J p accounts l s pubs owes there =
    ap (λ ledger. least (ready_numbers ledger)) (owes.ledgers l s) ∙ least-secured J p l s pubs ∙ ap (find (is_secured J)) (sym (flight-open J p l s there))
