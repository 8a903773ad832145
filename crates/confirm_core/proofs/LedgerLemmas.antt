-- The openings of a ledger against what leads to them: an opening by its number, and openings by a copy that they wait for.
use Rattle.std.proofs.Common.{◌≡◌, ℕ, ◌+◌, ◌<◌, ◌==◌, ◌&&◌, ◌||◌, Bool, true, false, not, cond, List, [], ◌∷◌, length, get_or, take, Option, Some, None, map, refl, ap, sym, ◌∙◌, arith, inl, inr, ◌⊎◌}
use Rattle.std.specs.Prelude.{All, filter, is_some, IfSome, ◌↔◌}
use Rattle.std.proofs.lemmas.Bool.{false≢true}
use Rattle.std.proofs.lemmas.Bool.Decides.{nat_tests}
use Rattle.std.proofs.lemmas.List.Elements.{All-nil, All-cons, All-head, All-tail}
use Rattle.std.proofs.lemmas.List.Folds.{list_any_more}
use Rattle.confirm_core.specs.Waits.{Unconfirmed, is_open, without_wait, released, all_stored, without}
use Rattle.confirm_core.specs.Openings.{has, unconfirmed, released_at, released_among, without_number}

-- ---- a loop that releases one opening after the other
twice_step : (copy w : ℕ) (ws : List ℕ) (b : Bool) → (w == copy) ≡ b → filter (λ wait. not (wait == copy)) (filter (λ wait. not (wait == copy)) ws) ≡ filter (λ wait. not (wait == copy)) ws
    → filter (λ wait. not (wait == copy)) (filter (λ wait. not (wait == copy)) (w ∷ ws)) ≡ filter (λ wait. not (wait == copy)) (w ∷ ws)
twice_step copy w ws true same rest = rw same rest
twice_step copy w ws false same rest = rw (same, same) (ap (λ tail. w ∷ tail) rest)

without_wait_twice : (copy : ℕ) (ws : List ℕ) → filter (λ wait. not (wait == copy)) (filter (λ wait. not (wait == copy)) ws) ≡ filter (λ wait. not (wait == copy)) ws
without_wait_twice copy [] = refl
without_wait_twice copy (w ∷ ws) = twice_step copy w ws (w == copy) refl (without_wait_twice copy ws)

among_step : (opening copy : ℕ) (e : ℕ × Unconfirmed) (b d : Bool) → (opening == e.0) ≡ d
    → released_at opening copy (cond b (e.0, without_wait copy e.1) e) ≡ cond (b || d) (e.0, without_wait copy e.1) e
among_step opening copy e true true same = rw same (ap (λ (ws : List ℕ). (e.0, record e.1 { waits = ws })) (without_wait_twice copy e.1.waits))
among_step opening copy e true false same = rw same refl
among_step opening copy e false true same = rw same refl
among_step opening copy e false false same = rw same refl

among_one : (os : List ℕ) (i copy : ℕ) (e : ℕ × Unconfirmed) → i < length os → released_at (get_or os i 0) copy (released_among (take i os) copy e) ≡ released_among (take (i + 1) os) copy e
among_one os i copy e in_list =
    among_step (get_or os i 0) copy e (has e.0 (take i os)) (get_or os i 0 == e.0) refl ∙ ap (λ b. cond b (e.0, without_wait copy e.1) e) (sym (list_any_more (λ other. other == e.0) os i 0 in_list))

pub released-more : (os : List ℕ) (i copy : ℕ) (es : List (ℕ × Unconfirmed)) → i < length os → map (released_at (get_or os i 0) copy) (map (released_among (take i os) copy) es) ≡ map (released_among (take (i + 1) os) copy) es
released-more os i copy [] in_list = refl
released-more os i copy (e ∷ es) in_list =
    ap (λ first. first ∷ map (released_at (get_or os i 0) copy) (map (released_among (take i os) copy) es)) (among_one os i copy e in_list)
    ∙ ap (λ rest. released_among (take (i + 1) os) copy e ∷ rest) (released-more os i copy es in_list)

pub released-none-yet : (copy : ℕ) (es : List (ℕ × Unconfirmed)) → es ≡ map (released_among [] copy) es
released-none-yet copy [] = refl
released-none-yet copy (e ∷ es) = ap (λ rest. e ∷ rest) (released-none-yet copy es)

-- ---- what stays when openings are released
kept_one : (P : ℕ → ℕ → Type 0) (copy : ℕ) (e : ℕ × Unconfirmed) (b : Bool) → P e.0 e.1.number → P (cond b (e.0, without_wait copy e.1) e).0 (cond b (e.0, without_wait copy e.1) e).1.number
kept_one P copy e true h = h
kept_one P copy e false h = h

pub kept-released : (P : ℕ → ℕ → Type 0) (os : List ℕ) (copy : ℕ) (es : List (ℕ × Unconfirmed)) → All (λ e. P e.0 e.1.number) es → All (λ e. P e.0 e.1.number) (map (released_among os copy) es)
kept-released P os copy [] all = All-nil (λ (e : ℕ × Unconfirmed). P e.0 e.1.number)
kept-released P os copy (e ∷ es) all =
    let Q : ℕ × Unconfirmed → Type 0 = λ e. P e.0 e.1.number in
    All-cons Q (released_among os copy e) (map (released_among os copy) es) (kept_one P copy e (has e.0 os) (All-head Q e es all)) (kept-released P os copy es (All-tail Q e es all))

open_one : (n copy : ℕ) (e : ℕ × Unconfirmed) (b : Bool) → ((cond b (e.0, without_wait copy e.1) e).1.number == n) ≡ (e.1.number == n)
open_one n copy e true = refl
open_one n copy e false = refl

pub is_open-released : (n : ℕ) (os : List ℕ) (copy : ℕ) (es : List (ℕ × Unconfirmed)) → is_open n (unconfirmed (map (released_among os copy) es)) ≡ is_open n (unconfirmed es)
is_open-released n os copy [] = refl
is_open-released n os copy (e ∷ es) =
    ap (λ b. b || is_open n (unconfirmed (map (released_among os copy) es))) (open_one n copy e (has e.0 os)) ∙ ap (λ b. (e.1.number == n) || b) (is_open-released n os copy es)

-- ---- what each opening waits for
-- each copy that the opening waits for leads to it
abbrev pub IsLedTo : (ℕ → List ℕ) → ℕ × Unconfirmed → Type 0
IsLedTo index e = (copy : ℕ) → has copy e.1.waits ≡ true → has e.0 (index copy) ≡ true

dropped_and : (c w copy : ℕ) (b : Bool) → (w == copy) ≡ true → (not (c == copy) && b) ≡ (not (c == copy) && ((w == c) || b))
dropped_and c w copy b same = grind (arith, nat_tests)

kept_and : (c w copy : ℕ) (b : Bool) → (w == copy) ≡ false → ((w == c) || (not (c == copy) && b)) ≡ (not (c == copy) && ((w == c) || b))
kept_and c w copy b same = grind (arith, nat_tests)

none_and : (b : Bool) → false ≡ (b && false)
none_and true = refl
none_and false = refl

has_kept : (c copy w : ℕ) (ws : List ℕ) (b : Bool) → (w == copy) ≡ b → has c (filter (λ wait. not (wait == copy)) ws) ≡ (not (c == copy) && has c ws)
    → has c (filter (λ wait. not (wait == copy)) (w ∷ ws)) ≡ (not (c == copy) && has c (w ∷ ws))
has_kept c copy w ws true same rest = rw same (rest ∙ dropped_and c w copy (has c ws) same)
has_kept c copy w ws false same rest = rw same (ap (λ b. (w == c) || b) rest ∙ kept_and c w copy (has c ws) same)

pub has-without_wait : (c copy : ℕ) (ws : List ℕ) → has c (filter (λ wait. not (wait == copy)) ws) ≡ (not (c == copy) && has c ws)
has-without_wait c copy [] = none_and (not (c == copy))
has-without_wait c copy (w ∷ ws) = has_kept c copy w ws (w == copy) refl (has-without_wait c copy ws)

and_parts : (a b : Bool) → (not a && b) ≡ true → (a ≡ false) × (b ≡ true)
and_parts true b h = absurd (false≢true h)
and_parts false b h = (refl, h)

pub equal : (a b : ℕ) → (a == b) ≡ true → a ≡ b
equal a b h = grind (arith, nat_tests)

other_copy : (index : ℕ → List ℕ) (copy c opening : ℕ) (b : Bool) → (c == copy) ≡ b → has opening (index copy) ≡ false → has opening (index c) ≡ true → (c == copy) ≡ false
other_copy index copy c opening true same none there = absurd (false≢true (sym none ∙ ap (λ k. has opening (index k)) (sym (equal c copy same)) ∙ there))
other_copy index copy c opening false same none there = same

led_one : (index after : ℕ → List ℕ) (copy : ℕ) (e : ℕ × Unconfirmed) (b : Bool) → has e.0 (index copy) ≡ b → ((c : ℕ) → (c == copy) ≡ false → after c ≡ index c) → IsLedTo index e → IsLedTo after (cond b (e.0, without_wait copy e.1) e)
led_one index after copy e true there same led = λ c waits.
    let parts = and_parts (c == copy) (has c e.1.waits) (sym (has-without_wait c copy e.1.waits) ∙ waits) in
    rw (same c parts.0) (led c parts.1)
led_one index after copy e false there same led = λ c waits.
    rw (same c (other_copy index copy c e.0 (c == copy) refl there (led c waits))) (led c waits)

pub led-released : (index after : ℕ → List ℕ) (copy : ℕ) (es : List (ℕ × Unconfirmed)) → ((c : ℕ) → (c == copy) ≡ false → after c ≡ index c) → All (IsLedTo index) es → All (IsLedTo after) (map (released_among (index copy) copy) es)
led-released index after copy [] same all = All-nil (IsLedTo after)
led-released index after copy (e ∷ es) same all =
    All-cons (IsLedTo after) (released_among (index copy) copy e) (map (released_among (index copy) copy) es) (led_one index after copy e (has e.0 (index copy)) refl same (All-head (IsLedTo index) e es all)) (led-released index after copy es same (All-tail (IsLedTo index) e es all))

-- a copy that isn't waited for is none of the waits
no_wait_step : (copy w : ℕ) (ws : List ℕ) → (w == copy) ≡ false → filter (λ wait. not (wait == copy)) ws ≡ ws → filter (λ wait. not (wait == copy)) (w ∷ ws) ≡ w ∷ ws
no_wait_step copy w ws same rest = rw same (ap (λ tail. w ∷ tail) rest)

or_false : (a b : Bool) → (a || b) ≡ false → (a ≡ false) × (b ≡ false)
or_false true b h = absurd (false≢true (sym h))
or_false false b h = (refl, h)

no_wait : (copy : ℕ) (ws : List ℕ) → has copy ws ≡ false → filter (λ wait. not (wait == copy)) ws ≡ ws
no_wait copy [] none = refl
no_wait copy (w ∷ ws) none =
    let parts = or_false (w == copy) (has copy ws) none in
    no_wait_step copy w ws parts.0 (no_wait copy ws parts.1)

not_led : (b d : Bool) → (b ≡ true → d ≡ true) → d ≡ false → b ≡ false
not_led true d led none = sym (led refl) ∙ none
not_led false d led none = refl

view_one : (index : ℕ → List ℕ) (copy : ℕ) (e : ℕ × Unconfirmed) (b : Bool) → has e.0 (index copy) ≡ b → IsLedTo index e → (cond b (e.0, without_wait copy e.1) e).1 ≡ without_wait copy e.1
view_one index copy e true there led = refl
view_one index copy e false there led =
    ap (λ (ws : List ℕ). record e.1 { waits = ws }) (sym (no_wait copy e.1.waits (not_led (has copy e.1.waits) (has e.0 (index copy)) (led copy) there)))

pub unconfirmed-released : (index : ℕ → List ℕ) (copy : ℕ) (es : List (ℕ × Unconfirmed)) → All (IsLedTo index) es → unconfirmed (map (released_among (index copy) copy) es) ≡ released copy (unconfirmed es)
unconfirmed-released index copy [] all = refl
unconfirmed-released index copy (e ∷ es) all =
    ap (λ first. first ∷ unconfirmed (map (released_among (index copy) copy) es)) (view_one index copy e (has e.0 (index copy)) refl (All-head (IsLedTo index) e es all))
    ∙ ap (λ rest. without_wait copy e.1 ∷ rest) (unconfirmed-released index copy es (All-tail (IsLedTo index) e es all))

-- ---- a flush
stored_one : (copy : ℕ) (e : ℕ × Unconfirmed) (b : Bool) → (let p : Unconfirmed = (cond b (e.0, without_wait copy e.1) e).1 in record p { waits = [] }) ≡ record e.1 { waits = [] }
stored_one copy e true = refl
stored_one copy e false = refl

pub all_stored-released : (os : List ℕ) (copy : ℕ) (es : List (ℕ × Unconfirmed)) → all_stored (unconfirmed (map (released_among os copy) es)) ≡ all_stored (unconfirmed es)
all_stored-released os copy [] = refl
all_stored-released os copy (e ∷ es) =
    ap (λ first. first ∷ all_stored (unconfirmed (map (released_among os copy) es))) (stored_one copy e (has e.0 os))
    ∙ ap (λ (rest : List Unconfirmed). (record e.1 { waits = [] }) ∷ rest) (all_stored-released os copy es)

own : (w : ℕ) (b : Bool) → ((w == w) || b) ≡ true
own w b = grind (arith, nat_tests)

no_waits : (ws : List ℕ) → ((c : ℕ) → has c ws ≡ true → ⊥) → ws ≡ []
no_waits [] none = refl
no_waits (w ∷ ws) none = absurd (none w (own w (has w ws)))

pub all_stored-none : (index : ℕ → List ℕ) (es : List (ℕ × Unconfirmed)) → ((c : ℕ) → index c ≡ []) → All (IsLedTo index) es → unconfirmed es ≡ all_stored (unconfirmed es)
all_stored-none index [] none all = refl
all_stored-none index (e ∷ es) none all =
    let led = All-head (IsLedTo index) e es all in
    let waits : e.1.waits ≡ [] = no_waits e.1.waits (λ c waits. false≢true (ap (has e.0) (sym (none c)) ∙ led c waits)) in
    ap (λ (ws : List ℕ). (record e.1 { waits = ws }) ∷ unconfirmed es) waits
    ∙ ap (λ (rest : List Unconfirmed). (record e.1 { waits = [] }) ∷ rest) (all_stored-none index es none (All-tail (IsLedTo index) e es all))

-- ---- an answer
without_one : (number : ℕ) (e : ℕ × Unconfirmed) (es : List (ℕ × Unconfirmed)) (b : Bool) → (e.1.number == number) ≡ b → unconfirmed (without_number number es) ≡ without number (unconfirmed es) → unconfirmed (without_number number (e ∷ es)) ≡ without number (unconfirmed (e ∷ es))
without_one number e es true same rest = rw same rest
without_one number e es false same rest = rw same (ap (λ tail. e.1 ∷ tail) rest)

pub unconfirmed-without : (number : ℕ) (es : List (ℕ × Unconfirmed)) → unconfirmed (without_number number es) ≡ without number (unconfirmed es)
unconfirmed-without number [] = refl
unconfirmed-without number (e ∷ es) = without_one number e es (e.1.number == number) refl (unconfirmed-without number es)

pub without-not_open : (number : ℕ) (ledger : List Unconfirmed) → is_open number ledger ≡ false → without number ledger ≡ ledger
without-not_open number [] none = refl
without-not_open number (p ∷ ledger) none =
    let parts = or_false (p.number == number) (is_open number ledger) none in
    rw parts.0 (ap (λ tail. p ∷ tail) (without-not_open number ledger parts.1))

gone_and : (n number its : ℕ) (b : Bool) → (its == number) ≡ true → (not (number == n) && b) ≡ (not (number == n) && ((its == n) || b))
gone_and n number its b same = grind (arith, nat_tests)

stays_and : (n number its : ℕ) (b : Bool) → (its == number) ≡ false → ((its == n) || (not (number == n) && b)) ≡ (not (number == n) && ((its == n) || b))
stays_and n number its b same = grind (arith, nat_tests)

open_without_step : (n number : ℕ) (p : Unconfirmed) (ledger : List Unconfirmed) (b : Bool) → (p.number == number) ≡ b → is_open n (without number ledger) ≡ (not (number == n) && is_open n ledger) → is_open n (without number (p ∷ ledger)) ≡ (not (number == n) && is_open n (p ∷ ledger))
open_without_step n number p ledger true same rest = rw same (rest ∙ gone_and n number p.number (is_open n ledger) same)
open_without_step n number p ledger false same rest = rw same (ap (λ b. (p.number == n) || b) rest ∙ stays_and n number p.number (is_open n ledger) same)

pub is_open-without : (n number : ℕ) (ledger : List Unconfirmed) → is_open n (without number ledger) ≡ (not (number == n) && is_open n ledger)
is_open-without n number [] = none_and (not (number == n))
is_open-without n number (p ∷ ledger) = open_without_step n number p ledger (p.number == number) refl (is_open-without n number ledger)

-- the number leads to the opening and no other number does
abbrev pub IsFound : (ℕ → Option ℕ) → ℕ × Unconfirmed → Type 0
IsFound find e = (n : ℕ) → (find n ≡ Some e.0) ↔ (n ≡ e.1.number)

not_some : (found : Option ℕ) (opening : ℕ) → found ≡ None → found ≡ Some opening → ⊥
not_some found opening none some = cc

not_same : (number n its : ℕ) → (number == n) ≡ true → n ≡ its → (its == number) ≡ false → ⊥
not_same number n its same e apart = grind (arith, nat_tests)

found_at : (was now : Option ℕ) (number n opening its : ℕ) (b : Bool) → (number == n) ≡ b → now ≡ cond (number == n) None was → (was ≡ Some opening) ↔ (n ≡ its) → (its == number) ≡ false → (now ≡ Some opening) ↔ (n ≡ its)
found_at was now number n opening its true same is found apart =
    let none : now ≡ None = rw same at is in
    (λ some. absurd (not_some now opening none some), λ e. absurd (not_same number n its same e apart))
found_at was now number n opening its false same is found apart =
    let before : now ≡ was = rw same at is in
    (λ some. found.0 (sym before ∙ some), λ e. before ∙ found.1 e)

found_one : (find after : ℕ → Option ℕ) (number : ℕ) (e : ℕ × Unconfirmed) → ((n : ℕ) → after n ≡ cond (number == n) None (find n)) → IsFound find e → (e.1.number == number) ≡ false → IsFound after e
found_one find after number e is found apart = λ n. found_at (find n) (after n) number n e.0 e.1.number (number == n) refl (is n) (found n) apart

found_step : (find after : ℕ → Option ℕ) (number : ℕ) (e : ℕ × Unconfirmed) (es : List (ℕ × Unconfirmed)) (b : Bool) → (e.1.number == number) ≡ b → ((n : ℕ) → after n ≡ cond (number == n) None (find n)) → IsFound find e → All (IsFound after) (without_number number es) → All (IsFound after) (without_number number (e ∷ es))
found_step find after number e es true same is found rest = rw same rest
found_step find after number e es false same is found rest = rw same (All-cons (IsFound after) e (without_number number es) (found_one find after number e is found same) rest)

pub found-without : (find after : ℕ → Option ℕ) (number : ℕ) (es : List (ℕ × Unconfirmed)) → ((n : ℕ) → after n ≡ cond (number == n) None (find n)) → All (IsFound find) es → All (IsFound after) (without_number number es)
found-without find after number [] is all = All-nil (IsFound after)
found-without find after number (e ∷ es) is all =
    found_step find after number e es (e.1.number == number) refl is (All-head (IsFound find) e es all) (found-without find after number es is (All-tail (IsFound find) e es all))

is_some_cond : (was : Option ℕ) (b : Bool) → is_some (cond b None was) ≡ (not b && is_some was)
is_some_cond was true = refl
is_some_cond was false = refl

pub is_some-after : (was now : Option ℕ) (number n : ℕ) → now ≡ cond (number == n) None was → is_some now ≡ (not (number == n) && is_some was)
is_some-after was now number n is = ap is_some is ∙ is_some_cond was (number == n)

pub below-after : (P : ℕ → Type 0) (was now : Option ℕ) (b : Bool) → now ≡ cond b None was → IfSome was P → IfSome now P
below-after P was now true is below = rw is tt
below-after P was now false is below = rw is below

-- ---- one copy more is waited for
pub or_split : (a b : Bool) → (a || b) ≡ true → (a ≡ true) ⊎ (b ≡ true)
or_split true b h = inl refl
or_split false b h = inr h

-- ---- no copy is waited for
pub none-left : {X : Type 0} (xs : List X) → (0 < length xs → ⊥) → xs ≡ []
none-left [] none = refl
none-left (x ∷ xs) none = absurd (none (omega arith))
