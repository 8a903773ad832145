-- What opens a publication, and what copies that leave lead to.
use Rattle.std.proofs.Common.{◌≡◌, ℕ, zero, suc, ◌+◌, ◌<◌, ◌==◌, true, false, cond, not, List, [], ◌∷◌, ◌++◌, length, take, drop, map, refl, ap, ◌∙◌, arith, eq-eqb}
use Rattle.std.specs.Prelude.{All, filter, ◌||◌, ◌&&◌}
use Rattle.std.specs.List.{list_any}
use Rattle.std.proofs.lemmas.Bool.{true≢false}
use Rattle.std.proofs.lemmas.List.{map-append, drop_all, take_all, append-nil}
use Rattle.std.proofs.lemmas.Slice.Eq.{bytes_eq-Decides}
use Rattle.std.proofs.lemmas.Bool.Decides.{nat_tests}
use Rattle.std.proofs.lemmas.List.Elements.{All-head, All-tail, All-weaker}
use Rattle.queue_core.specs.declared.rows.Hold.{Hold}
use Rattle.queue_core.specs.declared.rows.Row.{Row}
use Rattle.queue_core.specs.Rows.{is_ready, is_ready_hold}
use Rattle.confirm_core.specs.Waits.{Unconfirmed, is_open, released, without}
use Rattle.broker_store.specs.declared.account.Account.{Account}
use Rattle.broker_store.specs.Confirms.{is_of, with_ledger, all_ledgers, its_ledger, opened, all_left, AreBelow}
use Rattle.broker_store.proofs.EnterLemmas.{filter_push}

-- a publication that would be the last is not open
pub last_closed : (number : ℕ) (ledger : List Unconfirmed) → All (λ publication. publication.number < number) ledger → is_open number ledger ≡ false
last_closed number [] below = refl
last_closed number (p ∷ ledger) below =
    let first : p.number < number = All-head (λ (publication : Unconfirmed). publication.number < number) p ledger below in
    let rest : is_open number ledger ≡ false = last_closed number ledger (All-tail (λ (publication : Unconfirmed). publication.number < number) p ledger below) in
    grind (arith, nat_tests)

-- the copies of a queue's rows
pub all_copies : (rows : List Row) → map (λ (e : ℕ × Hold). e.0) (map (λ (row : Row). (row.copy, row.hold)) rows) ≡ map (λ (row : Row). row.copy) rows
all_copies [] = refl
all_copies (r ∷ rows) = ap (λ rest. r.copy ∷ rest) (all_copies rows)

-- and those of the ready ones
pub ready_copies : (rows : List Row) → map (λ (e : ℕ × Hold). e.0) (filter (λ (e : ℕ × Hold). is_ready_hold e.1) (map (λ (row : Row). (row.copy, row.hold)) rows)) ≡ map (λ (row : Row). row.copy) (filter is_ready rows)
ready_copies [] = refl
ready_copies (r ∷ rows) =
    elim (is_ready r) as (λ b. map (λ (e : ℕ × Hold). e.0) (cond b ((r.copy, r.hold) ∷ filter (λ (e : ℕ × Hold). is_ready_hold e.1) (map (λ (row : Row). (row.copy, row.hold)) rows)) (filter (λ (e : ℕ × Hold). is_ready_hold e.1) (map (λ (row : Row). (row.copy, row.hold)) rows))) ≡ map (λ (row : Row). row.copy) (cond b (r ∷ filter is_ready rows) (filter is_ready rows))) [
      | true ↦ ap (λ rest. r.copy ∷ rest) (ready_copies rows)
      | false ↦ ready_copies rows
    ]

-- ---- a publication that is opened is taken back

other_number : (a n : ℕ) → a < n → not (a == n) ≡ true
other_number a n less = grind (arith, nat_tests, less)

all_others : (number : ℕ) (ledger : List Unconfirmed) → All (λ publication. publication.number < number) ledger → All (λ publication. not (publication.number == number) ≡ true) ledger
all_others number ledger below =
    All-weaker (λ (publication : Unconfirmed). publication.number < number) (λ publication. not (publication.number == number) ≡ true) (λ publication less. other_number publication.number number less) ledger below

all_stay : (number : ℕ) (ledger : List Unconfirmed) → All (λ publication. publication.number < number) ledger → without number ledger ≡ ledger
all_stay number [] below = refl
all_stay number (p ∷ ledger) below =
    ap (λ b. cond b (p ∷ without number ledger) (without number ledger)) (other_number p.number number (All-head (λ (publication : Unconfirmed). publication.number < number) p ledger below))
    ∙ ap (λ rest. p ∷ rest) (all_stay number ledger (All-tail (λ (publication : Unconfirmed). publication.number < number) p ledger below))

taken_back : (number : ℕ) (waits : List ℕ) (ledger : List Unconfirmed) → All (λ publication. publication.number < number) ledger → without number (ledger ++ record { number = number; waits = waits } ∷ []) ≡ ledger
taken_back number waits ledger below =
    filter_push (λ (publication : Unconfirmed). not (publication.number == number)) ledger (record { number = number; waits = waits }) (all_others number ledger below) (ap not (eq-eqb number number refl))

abbrev pub with_publication : ℕ → List ℕ → List Unconfirmed → List Unconfirmed
with_publication number waits ledger = ledger ++ record { number = number; waits = waits } ∷ []

not_there : (link : List ℕ) (session number : ℕ) (account : Account) → All (λ publication. publication.number < number) account.ledger → cond (is_of link session account) (with_ledger (without number) account) account ≡ account
not_there link session number account below =
    elim (is_of link session account) as (λ b. cond b (with_ledger (without number) account) account ≡ account) [
      | true ↦ ap (λ ledger. record account { ledger = ledger }) (all_stay number account.ledger below)
      | false ↦ refl
    ]

there : (link : List ℕ) (session number : ℕ) (waits : List ℕ) (account : Account) → All (λ publication. publication.number < number) account.ledger → cond (is_of link session (cond (is_of link session account) (with_ledger (with_publication number waits) account) account)) (with_ledger (without number) (cond (is_of link session account) (with_ledger (with_publication number waits) account) account)) (cond (is_of link session account) (with_ledger (with_publication number waits) account) account) ≡ account
there link session number waits account below =
    elim (is_of link session account) as (λ b. is_of link session account ≡ b → cond (is_of link session (cond b (with_ledger (with_publication number waits) account) account)) (with_ledger (without number) (cond b (with_ledger (with_publication number waits) account) account)) (cond b (with_ledger (with_publication number waits) account) account) ≡ account) [
      | true ↦ (λ on. ap (λ b. cond b (with_ledger (without number) (with_ledger (with_publication number waits) account)) (with_ledger (with_publication number waits) account)) on ∙ ap (λ ledger. record account { ledger = ledger }) (taken_back number waits account.ledger below))
      | false ↦ (λ off. ap (λ b. cond b (with_ledger (without number) account) account) off)
    ] refl

-- it was opened in the first so many accounts
pub taken_back_all : (link : List ℕ) (session number : ℕ) (waits : List ℕ) (i : ℕ) (accounts : List Account) → AreBelow number accounts → its_ledger link session (without number) (its_ledger link session (with_publication number waits) (take i accounts) ++ drop i accounts) ≡ accounts
taken_back_all link session number waits zero [] below = refl
taken_back_all link session number waits (suc i) [] below = refl
taken_back_all link session number waits zero (a ∷ accounts) below =
    let head = All-head (λ (account : Account). All (λ (publication : Unconfirmed). publication.number < number) account.ledger) a accounts below in
    let tail = All-tail (λ (account : Account). All (λ (publication : Unconfirmed). publication.number < number) account.ledger) a accounts below in
    ap (λ first. first ∷ its_ledger link session (without number) accounts) (not_there link session number a head) ∙ ap (λ rest. a ∷ rest) (taken_back_all link session number waits zero accounts tail)
taken_back_all link session number waits (suc i) (a ∷ accounts) below =
    let head = All-head (λ (account : Account). All (λ (publication : Unconfirmed). publication.number < number) account.ledger) a accounts below in
    let tail = All-tail (λ (account : Account). All (λ (publication : Unconfirmed). publication.number < number) account.ledger) a accounts below in
    ap (λ first. first ∷ its_ledger link session (without number) (its_ledger link session (with_publication number waits) (take i accounts) ++ drop i accounts)) (there link session number waits a head) ∙ ap (λ rest. a ∷ rest) (taken_back_all link session number waits i accounts tail)

mixed_length : (f : Account → Account) (i : ℕ) (accounts : List Account) → length (map f (take i accounts) ++ drop i accounts) ≡ length accounts
mixed_length f zero [] = refl
mixed_length f (suc i) [] = refl
mixed_length f zero (a ∷ accounts) = refl
mixed_length f (suc i) (a ∷ accounts) = ap (λ n. suc n) (mixed_length f i accounts)

whole : (n : ℕ) (items accounts : List Account) → length items ≡ length accounts → n ≡ length accounts → take n (items ++ drop (length items) accounts) ≡ items
whole n items accounts same is = rw (is, ← same, drop_all (length items) accounts (omega (same, arith)), append-nil, take_all (length items) items (omega arith)) refl

-- after an error in one of the accounts
pub after_error : (link : List ℕ) (session number : ℕ) (waits : List ℕ) (i n : ℕ) (items from accounts : List Account) → items ≡ its_ledger link session (with_publication number waits) (take i from) ++ drop i from → from ≡ accounts → n ≡ length accounts → AreBelow number accounts → its_ledger link session (without number) (take n (items ++ drop (length items) accounts)) ≡ accounts
after_error link session number waits i n items from accounts so was is below =
    let now : items ≡ its_ledger link session (with_publication number waits) (take i accounts) ++ drop i accounts = so ∙ ap (λ list. its_ledger link session (with_publication number waits) (take i list) ++ drop i list) was in
    let same : length items ≡ length accounts = ap length now ∙ mixed_length (λ (account : Account). cond (is_of link session account) (with_ledger (with_publication number waits) account) account) i accounts in
    ap (its_ledger link session (without number)) (whole n items accounts same is ∙ now) ∙ taken_back_all link session number waits i accounts below

-- ---- the account of a session that has none yet

others_same : (link : List ℕ) (session : ℕ) (change : List Unconfirmed → List Unconfirmed) (accounts : List Account) → list_any (is_of link session) accounts ≡ false → its_ledger link session change accounts ≡ accounts
others_same link session change [] none = refl
others_same link session change (a ∷ accounts) none =
    elim (is_of link session a) as (λ b. (b || list_any (is_of link session) accounts) ≡ false → cond b (with_ledger change a) a ∷ its_ledger link session change accounts ≡ a ∷ accounts) [
      | true ↦ (λ no. absurd (true≢false no))
      | false ↦ (λ none. ap (λ rest. a ∷ rest) (others_same link session change accounts none))
    ] none

itself : (link : List ℕ) (session : ℕ) (ledger : List Unconfirmed) → is_of link session (record { link = link; session = session; ledger = ledger }) ≡ true
itself link session ledger = ap (λ b. b && (session == session)) ((bytes_eq-Decides link link).1 refl) ∙ eq-eqb session session refl

pub opened_new : (link : List ℕ) (session number : ℕ) (waits : List ℕ) (accounts : List Account) → list_any (is_of link session) accounts ≡ false → opened link session number waits accounts ≡ accounts ++ record { link = link; session = session; ledger = record { number = number; waits = waits } ∷ [] } ∷ []
opened_new link session number waits accounts none =
    ap (λ b. its_ledger link session (with_publication number waits) (cond b accounts (accounts ++ record { link = link; session = session; ledger = [] } ∷ []))) none
    ∙ map-append (λ (account : Account). cond (is_of link session account) (with_ledger (with_publication number waits) account) account) accounts (record { link = link; session = session; ledger = [] } ∷ [])
    ∙ ap (λ first. first ++ cond (is_of link session (record { link = link; session = session; ledger = [] })) (record { link = link; session = session; ledger = record { number = number; waits = waits } ∷ [] }) (record { link = link; session = session; ledger = [] }) ∷ []) (others_same link session (with_publication number waits) accounts none)
    ∙ ap (λ b. accounts ++ cond b (record { link = link; session = session; ledger = record { number = number; waits = waits } ∷ [] }) (record { link = link; session = session; ledger = [] }) ∷ []) (itself link session [])
