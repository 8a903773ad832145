-- What becomes of a session's ledger where an account, or each account, changes.
use Rattle.std.proofs.Common.{◌≡◌, ℕ, ◌+◌, ◌<◌, ◌≤◌, List, [], ◌∷◌, ◌++◌, Bool, true, false, Some, None, Option, arith, refl, sym, ap, subst, ◌∙◌}
use Rattle.std.specs.Prelude.{◌==◌, ◌&&◌, ◌||◌, if◌then◌else◌, cond, All, find, fold, is_some}
use Rattle.std.specs.List.{list_any}
use Rattle.std.specs.Option.{option_map, option_map_or, option_or}
use Rattle.std.proofs.lemmas.Bool.{and_parts, and_from, eqb-true, eq-eqb, false≢true, true≢false}
use Rattle.std.proofs.lemmas.List.Elements.{All-nil, All-filter, All-map, All-push, All-weaker}
use Rattle.std.proofs.lemmas.List.Folds.{find-append}
use Rattle.confirm_core.specs.Waits.{Unconfirmed, all_stored, released, without, without_wait}
use Rattle.fed_journal.specs.declared.place.Place.{Place}
use Rattle.fed_journal.specs.declared.entry.Publisher.{Publisher}
use Rattle.fed_journal.specs.declared.entry.Publisher.TheVariants.{Client, Link}
use Rattle.fed_journal.specs.declared.entry.Publication.{Publication}
use Rattle.fed_journal.specs.declared.entry.Entry.{Entry}
use Rattle.fed_journal.specs.declared.entry.Entry.TheVariants.{GoneQueue, Published, Flushed, Settled, Delivered, Acked, Rejected, Purged, Confirmed}
use Rattle.fed_journal.specs.Copies.{is_publication, publication_count}
use Rattle.fed_journal.specs.Names.{same_text, same_place}
use Rattle.broker_store.specs.declared.account.Account.{Account}
use Rattle.broker_store.specs.Confirms.{is_of, ledger_of, with_ledger, all_ledgers, its_ledger, with_account, opened, all_left, AreBelow}
use Rattle.mini_broker.specs.State.{VhostState}
use Rattle.broker_view.specs.Suits.{Suits}
use Rattle.broker_view.specs.Told.{with_publication, must_wait, ready_copies, all_copies, told}
use Rattle.broker_view.proofs.Names.{same_text-true, same_text-refl, same_text-sym, number-sym}
use Rattle.broker_view.proofs.Published.{published-count}

-- ---- the account that is found

-- what the account that was found has
abbrev ledger_in : Option Account → List Unconfirmed
ledger_in found = option_map_or (λ account. account.ledger) found []

-- where two sessions both have the account they are one
agree : (l : List ℕ) (s : ℕ) (link : List ℕ) (session : ℕ) (account : Account) → is_of l s account ≡ true → is_of link session account ≡ (same_text link l && (session == s))
agree l s link session account h =
    let parts : (same_text account.link l ≡ true) × ((account.session == s) ≡ true) = and_parts (same_text account.link l) (account.session == s) h in
    ap (λ x. same_text x link && (account.session == session)) (same_text-true account.link l parts.0) ∙ ap (λ n. same_text l link && (n == session)) (eqb-true account.session s parts.1)
    ∙ ap (λ b. b && (s == session)) (same_text-sym l link) ∙ ap (λ b. same_text link l && b) (number-sym s session)

all-by : (f : List Unconfirmed → List Unconfirmed) (account : Account) (before after : Option Account) (b : Bool) → ledger_in after ≡ f (ledger_in before) → ledger_in (cond b (Some (with_ledger f account)) after) ≡ f (ledger_in (cond b (Some account) before))
all-by f account before after true h = refl
all-by f account before after false h = h

-- each ledger is changed, that of the session too
pub ledger-all : (f : List Unconfirmed → List Unconfirmed) → f [] ≡ [] → (l : List ℕ) (s : ℕ) (accounts : List Account) → ledger_of l s (all_ledgers f accounts) ≡ f (ledger_of l s accounts)
ledger-all f none l s [] = sym none
ledger-all f none l s (account ∷ accounts) =
    all-by f account (find (is_of l s) accounts) (find (is_of l s) (all_ledgers f accounts)) (is_of l s account) (ledger-all f none l s accounts)

-- ---- the ledger of one session changes

here-by : (l : List ℕ) (s : ℕ) (f : List Unconfirmed → List Unconfirmed) (account : Account) (b : Bool) → is_of l s (if b then with_ledger f account else account) ≡ is_of l s account
here-by l s f account true = refl
here-by l s f account false = refl

step-by : (f : List Unconfirmed → List Unconfirmed) (account : Account) (before after : Option Account) (t b c : Bool) → (c ≡ true → b ≡ t) → after ≡ option_map (λ a. if t then with_ledger f a else a) before → cond c (Some (if b then with_ledger f account else account)) after ≡ option_map (λ a. if t then with_ledger f a else a) (cond c (Some account) before)
step-by f account before after t b true one later = ap (λ x. Some (if x then with_ledger f account else account)) (one refl)
step-by f account before after t b false one later = later

find-its : (f : List Unconfirmed → List Unconfirmed) (l : List ℕ) (s : ℕ) (link : List ℕ) (session : ℕ) (accounts : List Account) →
    find (is_of l s) (its_ledger link session f accounts) ≡ option_map (λ a. if same_text link l && (session == s) then with_ledger f a else a) (find (is_of l s) accounts)
find-its f l s link session [] = refl
find-its f l s link session (account ∷ accounts) =
    let b : Bool = is_of link session account in
    let after : Option Account = find (is_of l s) (its_ledger link session f accounts) in
    ap (λ c. cond c (Some (if b then with_ledger f account else account)) after) (here-by l s f account b)
    ∙ step-by f account (find (is_of l s) accounts) after (same_text link l && (session == s)) b (is_of l s account) (agree l s link session account) (find-its f l s link session accounts)

its-by : (f : List Unconfirmed → List Unconfirmed) (found : Option Account) (t : Bool) → (found ≡ None → t ≡ true → f [] ≡ []) → ledger_in (option_map (λ a. if t then with_ledger f a else a) found) ≡ (if t then f (ledger_in found) else ledger_in found)
its-by f None true none = sym (none refl refl)
its-by f None false none = refl
its-by f (Some account) true none = refl
its-by f (Some account) false none = refl

-- a session's ledger is changed, and no other session's
pub ledger-its : (f : List Unconfirmed → List Unconfirmed) → f [] ≡ [] → (l : List ℕ) (s : ℕ) (link : List ℕ) (session : ℕ) (accounts : List Account) →
    ledger_of l s (its_ledger link session f accounts) ≡ (if same_text link l && (session == s) then f (ledger_of l s accounts) else ledger_of l s accounts)
ledger-its f none l s link session accounts =
    ap ledger_in (find-its f l s link session accounts) ∙ its-by f (find (is_of l s) accounts) (same_text link l && (session == s)) (λ no_account same. none)

-- ---- a publication more

abbrev empty_account : List ℕ → ℕ → Account
empty_account link session = record { link = link; session = session; ledger = [] }

more-by : (link : List ℕ) (session : ℕ) (found : Option Account) (b : Bool) → ledger_in (option_or found (cond b (Some (empty_account link session)) None)) ≡ ledger_in found
more-by link session (Some account) b = refl
more-by link session None true = refl
more-by link session None false = refl

account-by : (l : List ℕ) (s : ℕ) (link : List ℕ) (session : ℕ) (accounts : List Account) (b : Bool) → ledger_of l s (if b then accounts else accounts ++ empty_account link session ∷ []) ≡ ledger_of l s accounts
account-by l s link session accounts true = refl
account-by l s link session accounts false =
    ap ledger_in (find-append (is_of l s) accounts (empty_account link session ∷ [])) ∙ more-by link session (find (is_of l s) accounts) (is_of l s (empty_account link session))

-- an empty account changes no ledger
ledger-account : (l : List ℕ) (s : ℕ) (link : List ℕ) (session : ℕ) (accounts : List Account) → ledger_of l s (with_account link session accounts) ≡ ledger_of l s accounts
ledger-account l s link session accounts = account-by l s link session accounts (list_any (is_of link session) accounts)

any-by : {X : Type 0} (p : X → Bool) (x : X) (xs : List X) (b : Bool) → p x ≡ b → (list_any p xs ≡ true → is_some (find p xs) ≡ true) → list_any p (x ∷ xs) ≡ true → is_some (find p (x ∷ xs)) ≡ true
any-by p x xs true e later h = ap (λ b. is_some (cond b (Some x) (find p xs))) e
any-by p x xs false e later h = ap (λ b. is_some (cond b (Some x) (find p xs))) e ∙ later (sym (ap (λ b. b || list_any p xs) e) ∙ h)

found-any : {X : Type 0} (p : X → Bool) (xs : List X) → list_any p xs ≡ true → is_some (find p xs) ≡ true
found-any p [] h = h
found-any p (x ∷ xs) h = any-by p x xs (p x) refl (found-any p xs) h

last-by : (account : Account) (found : Option Account) (b : Bool) → b ≡ true → is_some (option_or found (cond b (Some account) None)) ≡ true
last-by account (Some other) b h = refl
last-by account None b h = ap (λ x. is_some (cond x (Some account) None)) h

found-by : (link : List ℕ) (session : ℕ) (accounts : List Account) (b : Bool) → list_any (is_of link session) accounts ≡ b → is_some (find (is_of link session) (if b then accounts else accounts ++ empty_account link session ∷ [])) ≡ true
found-by link session accounts true e = found-any (is_of link session) accounts e
found-by link session accounts false e =
    ap is_some (find-append (is_of link session) accounts (empty_account link session ∷ []))
    ∙ last-by (empty_account link session) (find (is_of link session) accounts) (is_of link session (empty_account link session)) (and_from (same_text link link) (session == session) (same_text-refl link) (eq-eqb session session refl))

-- a session with an account is found
found-account : (l : List ℕ) (s : ℕ) (link : List ℕ) (session : ℕ) (accounts : List Account) → (same_text link l && (session == s)) ≡ true → is_some (find (is_of l s) (with_account link session accounts)) ≡ true
found-account l s link session accounts h =
    let parts : (same_text link l ≡ true) × ((session == s) ≡ true) = and_parts (same_text link l) (session == s) h in
    ap (λ x. is_some (find (is_of x s) (with_account link session accounts))) (sym (same_text-true link l parts.0))
    ∙ ap (λ n. is_some (find (is_of link n) (with_account link session accounts))) (sym (eqb-true session s parts.1))
    ∙ found-by link session accounts (list_any (is_of link session) accounts) refl

some-none : (found : Option Account) → is_some found ≡ true → found ≡ None → ⊥
some-none found h none = false≢true (sym (ap is_some none) ∙ h)

-- a publication more for its session, and none for the others
pub ledger-opened : (l : List ℕ) (s : ℕ) (link : List ℕ) (session number : ℕ) (waits : List ℕ) (accounts : List Account) →
    ledger_of l s (opened link session number waits accounts) ≡ (if same_text link l && (session == s) then ledger_of l s accounts ++ record { number = number; waits = waits } ∷ [] else ledger_of l s accounts)
ledger-opened l s link session number waits accounts =
    let f : List Unconfirmed → List Unconfirmed = λ ledger. ledger ++ record { number = number; waits = waits } ∷ [] in
    let all : List Account = with_account link session accounts in
    let t : Bool = same_text link l && (session == s) in
    ap ledger_in (find-its f l s link session all)
    ∙ its-by f (find (is_of l s) all) t (λ none same. absurd (some-none (find (is_of l s) all) (found-account l s link session accounts same) none))
    ∙ ap (λ (ledger : List Unconfirmed). if t then f ledger else ledger) (ledger-account l s link session accounts)

-- copies that leave, leave the session's ledger one after another
pub ledger-left : (l : List ℕ) (s : ℕ) (copies : List ℕ) (accounts : List Account) → ledger_of l s (all_left copies accounts) ≡ fold (λ ledger copy. released copy ledger) (ledger_of l s accounts) copies
ledger-left l s [] accounts = refl
ledger-left l s (copy ∷ copies) accounts =
    ledger-left l s copies (all_ledgers (released copy) accounts) ∙ ap (λ (ledger : List Unconfirmed). fold (λ ledger copy. released copy ledger) ledger copies) (ledger-all (released copy) refl l s accounts)

-- ---- the numbers of publications rise

abbrev Below : ℕ → List Unconfirmed → Type 0
Below n ledger = All (λ publication. publication.number < n) ledger

-- what keeps a ledger below a number
abbrev KeepsBelow : ℕ → (List Unconfirmed → List Unconfirmed) → Type 0
KeepsBelow n f = (ledger : List Unconfirmed) → Below n ledger → Below n (f ledger)

below-all : (n : ℕ) (f : List Unconfirmed → List Unconfirmed) (accounts : List Account) → KeepsBelow n f → AreBelow n accounts → AreBelow n (all_ledgers f accounts)
below-all n f accounts keeps below =
    All-map (λ (a : Account). Below n a.ledger) (with_ledger f) accounts
    (All-weaker (λ (a : Account). Below n a.ledger) (λ (a : Account). Below n (f a.ledger)) (λ a h. keeps a.ledger h) accounts below)

own-by : (n : ℕ) (f : List Unconfirmed → List Unconfirmed) (account : Account) (b : Bool) → KeepsBelow n f → Below n account.ledger → Below n (if b then with_ledger f account else account).ledger
own-by n f account true keeps h = keeps account.ledger h
own-by n f account false keeps h = h

below-its : (n : ℕ) (link : List ℕ) (session : ℕ) (f : List Unconfirmed → List Unconfirmed) (accounts : List Account) → KeepsBelow n f → AreBelow n accounts → AreBelow n (its_ledger link session f accounts)
below-its n link session f accounts keeps below =
    All-map (λ (a : Account). Below n a.ledger) (λ (a : Account). if is_of link session a then with_ledger f a else a) accounts
    (All-weaker (λ (a : Account). Below n a.ledger) (λ (a : Account). Below n (if is_of link session a then with_ledger f a else a).ledger) (λ a h. own-by n f a (is_of link session a) keeps h) accounts below)

-- later publications have greater numbers
pub below-more : (n m : ℕ) (accounts : List Account) → n ≤ m → AreBelow n accounts → AreBelow m accounts
below-more n m accounts more below =
    All-weaker (λ (a : Account). Below n a.ledger) (λ (a : Account). Below m a.ledger) (λ a h. All-weaker (λ (u : Unconfirmed). u.number < n) (λ (u : Unconfirmed). u.number < m) (λ u k. omega (arith, k, more)) a.ledger h) accounts below

-- a copy that leaves changes no number
pub below-released : (n copy : ℕ) (accounts : List Account) → AreBelow n accounts → AreBelow n (all_ledgers (released copy) accounts)
below-released n copy accounts below =
    below-all n (released copy) accounts (λ ledger h. All-map (λ (u : Unconfirmed). u.number < n) (without_wait copy) ledger h) below

-- a flush changes no number
pub below-stored : (n : ℕ) (accounts : List Account) → AreBelow n accounts → AreBelow n (all_ledgers all_stored accounts)
below-stored n accounts below =
    below-all n all_stored accounts (λ ledger h. All-map (λ (u : Unconfirmed). u.number < n) (λ (u : Unconfirmed). record u { waits = [] }) ledger h) below

-- copies that leave change no number
pub below-left : (n : ℕ) (copies : List ℕ) (accounts : List Account) → AreBelow n accounts → AreBelow n (all_left copies accounts)
below-left n [] accounts below = below
below-left n (copy ∷ copies) accounts below = below-left n copies (all_ledgers (released copy) accounts) (below-released n copy accounts below)

-- an answer changes no number
pub below-without : (n : ℕ) (link : List ℕ) (session number : ℕ) (accounts : List Account) → AreBelow n accounts → AreBelow n (its_ledger link session (without number) accounts)
below-without n link session number accounts below =
    below-its n link session (without number) accounts (λ ledger h. All-filter _ (λ (u : Unconfirmed). u.number < n) ledger h) below

account-below : (n : ℕ) (link : List ℕ) (session : ℕ) (accounts : List Account) (b : Bool) → AreBelow n accounts → AreBelow n (if b then accounts else accounts ++ empty_account link session ∷ [])
account-below n link session accounts true below = below
account-below n link session accounts false below =
    All-push (λ (a : Account). Below n a.ledger) accounts (empty_account link session) below (All-nil (λ (u : Unconfirmed). u.number < n))

-- the next publication has the next number
pub below-opened : (n : ℕ) (link : List ℕ) (session : ℕ) (waits : List ℕ) (accounts : List Account) → AreBelow n accounts → AreBelow (n + 1) (opened link session n waits accounts)
below-opened n link session waits accounts below =
    let last : Unconfirmed = record { number = n; waits = waits } in
    below-its (n + 1) link session (λ ledger. ledger ++ last ∷ []) (with_account link session accounts) (λ ledger h. All-push (λ (u : Unconfirmed). u.number < n + 1) ledger last h (omega arith))
    (account-below (n + 1) link session accounts (list_any (is_of link session) accounts) (below-more n (n + 1) accounts (omega arith) below))

-- nothing is owed
pub below-none : (n : ℕ) → AreBelow n []
below-none n = All-nil (λ (a : Account). Below n a.ledger)

-- ---- an entry more

later-by : (k m : ℕ) (accounts : List Account) (b : Bool) → m ≡ k + cond b 1 0 → AreBelow (k + 1) accounts → AreBelow (m + 1) accounts
later-by k m accounts true e below = below-more (k + 1) (m + 1) accounts (omega (arith, e)) below
later-by k m accounts false e below = below-more (k + 1) (m + 1) accounts (omega (arith, e)) below

-- what is below the next number still is after an entry
later : (J : List Entry) (e : Entry) (accounts : List Account) → AreBelow (publication_count J + 1) accounts → AreBelow (publication_count (J ++ e ∷ []) + 1) accounts
later J e accounts below = later-by (publication_count J) (publication_count (J ++ e ∷ [])) accounts (is_publication e) (published-count J e) below

next-below : (n : ℕ) (publisher : Publisher) (x : Publication) (v : VhostState) (accounts : List Account) → x.number ≡ n → AreBelow n accounts → AreBelow (n + 1) (with_publication publisher x v accounts)
next-below n (Client client) x v accounts e below = below-more n (n + 1) accounts (omega arith) below
next-below n (Link l s c) x v accounts e below =
    subst (λ m. AreBelow (n + 1) (opened l s m (must_wait x v) accounts)) (sym e) (below-opened n l s (must_wait x v) accounts below)

published-by : (n : ℕ) (x : Publication) (v : VhostState) (accounts : List Account) (b : Bool) → x.number ≡ n → AreBelow n accounts → AreBelow (n + 1) (if b then with_publication x.by x v accounts else accounts)
published-by n x v accounts true e below = next-below n x.by x v accounts e below
published-by n x v accounts false e below = below-more n (n + 1) accounts (omega arith) below

choice-by : (n : ℕ) (changed accounts : List Account) (b : Bool) → AreBelow n changed → AreBelow n accounts → AreBelow n (if b then changed else accounts)
choice-by n changed accounts true changes stays = changes
choice-by n changed accounts false changes stays = stays

-- what isn't published changes no number
kept-below : (n : ℕ) (p : Place) (e : Entry) (v : VhostState) (accounts : List Account) → is_publication e ≡ false → AreBelow n accounts → AreBelow n (told p e v accounts)
kept-below n p (Published x) v accounts none below = absurd (true≢false none)
kept-below n p (Flushed broker) v accounts none below =
    choice-by n (all_ledgers all_stored accounts) accounts (same_text broker p.broker) (below-stored n accounts below) below
kept-below n p (Settled l session copy) v accounts none below = below-released n copy accounts below
kept-below n p (Acked place client copy) v accounts none below = below-released n copy accounts below
kept-below n p (Rejected place client copy) v accounts none below = below-released n copy accounts below
kept-below n p (Delivered place client tag queue copy no_ack) v accounts none below =
    choice-by n (all_ledgers (released copy) accounts) accounts no_ack (below-released n copy accounts below) below
kept-below n p (Purged place queue) v accounts none below =
    choice-by n (all_left (ready_copies queue v) accounts) accounts (same_place place p) (below-left n (ready_copies queue v) accounts below) below
kept-below n p (GoneQueue place queue) v accounts none below =
    choice-by n (all_left (all_copies queue v) accounts) accounts (same_place place p) (below-left n (all_copies queue v) accounts below) below
kept-below n p (Confirmed l session number) v accounts none below = below-without n l session number accounts below
kept-below n p _ v accounts none below = below

-- what a place owes stays below the next number, whatever the entry
pub told-below : (J : List Entry) (p : Place) (e : Entry) (v : VhostState) (accounts : List Account) → Suits J e → AreBelow (publication_count J + 1) accounts → AreBelow (publication_count (J ++ e ∷ []) + 1) (told p e v accounts)
told-below J p (Published x) v accounts suits below =
    subst (λ m. AreBelow (m + 1) (told p (Published x) v accounts)) (sym (published-count J (Published x))) (published-by (publication_count J + 1) x v accounts (same_place x.place p) suits.2 below)
told-below J p e v accounts suits below = later J e (told p e v accounts) (kept-below (publication_count J + 1) p e v accounts refl below)
