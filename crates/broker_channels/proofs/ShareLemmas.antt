-- The counts of consumers against the unacknowledged deliveries.
use Rattle.std.proofs.Common.{◌≡◌, ◌==◌, ℕ, ◌+◌, ◌-◌, ◌<◌, ◌≤◌, ◌||◌, Bool, true, false, cond, List, [], ◌∷◌, ◌++◌, length, get_or, map, Option, Some, None, refl, ap, sym, ◌∙◌, add-zero, if◌then◌else◌, arith}
use Rattle.std.specs.Prelude.{All, IfSome, count_by, filter, nat_eq}
use Rattle.std.specs.List.{IsDistinct, AllByRecursion, list_any, remove}
use Rattle.std.specs.Option.{option_map_or}
use Rattle.std.specs.Map.{lookup, set_value, keys_of}
use Rattle.std.proofs.lemmas.Bool.{false≢true}
use Rattle.std.proofs.lemmas.Bool.Decides.{nat_tests}
use Rattle.std.proofs.lemmas.Map.Keys.{IsDistinct-head, IsDistinct-tail}
use Rattle.std.proofs.lemmas.List.Elements.{All-nil, All-cons, All-head, All-tail, All-weaker}
use Rattle.std.proofs.lemmas.List.Folds.{list_any-append}
use Rattle.std.proofs.lemmas.List.Sums.{sum_by_push, sum_by-cons, sum_by-remove, count_by-le-length}
use Rattle.broker_channels.specs.declared.delivery.Consumer.{Consumer}
use Rattle.broker_channels.specs.declared.delivery.Delivery.{Delivery}
use Rattle.broker_channels.specs.declared.shares.Share.{Share}
use Rattle.broker_channels.specs.Tags.{is_to, is_of, is_full, window_of}
use Rattle.broker_channels.specs.Held.{consumers_of, IsCounted, HasKnown, with_more, with_fewer}

-- ---- one share is written
-- one share is changed
abbrev pub at_number : ℕ → (Share → Share) → ℕ × Share → ℕ × Share
at_number number change entry = if number == entry.0 then (entry.0, change entry.1) else entry

other : (number key later : ℕ) → (number == key) ≡ true → nat_eq key later ≡ false → (number == later) ≡ false
other number key later same apart = grind (arith, nat_tests)

away : (number key : ℕ) (change : Share → Share) (es : List (ℕ × Share)) → (number == key) ≡ true → AllByRecursion (λ later. nat_eq key later ≡ false) (keys_of es) → map (at_number number change) es ≡ es
away number key change [] same apart = refl
away number key change (e ∷ es) same apart = rw (other number key e.0 same apart.0) (ap (λ rest. e ∷ rest) (away number key change es same apart.1))

set_step : (number : ℕ) (change : Share → Share) (e : ℕ × Share) (es : List (ℕ × Share)) (share : Share) (b : Bool) → (number == e.0) ≡ b
    → (b ≡ true → map (at_number number change) es ≡ es)
    → (lookup (nat_eq number) es ≡ Some share → set_value (nat_eq number) es (change share) ≡ map (at_number number change) es)
    → lookup (nat_eq number) (e ∷ es) ≡ Some share
    → set_value (nat_eq number) (e ∷ es) (change share) ≡ map (at_number number change) (e ∷ es)
set_step number change e es share true same away rest found =
    let value : Some e.1 ≡ Some share = rw same at found in
    let is : e.1 ≡ share = cc in
    let later = away refl in
    rw (same, is, later) refl
set_step number change e es share false same away rest found =
    let later = rest (rw same at found) in
    rw same (ap (λ tail. e ∷ tail) later)

pub set-is : (number : ℕ) (change : Share → Share) (es : List (ℕ × Share)) (share : Share) → IsDistinct nat_eq (keys_of es) → lookup (nat_eq number) es ≡ Some share → set_value (nat_eq number) es (change share) ≡ map (at_number number change) es
set-is number change [] share distinct found = refl
set-is number change (e ∷ es) share distinct found =
    set_step number change e es share (number == e.0) refl (λ same. away number e.0 change es same (IsDistinct-head nat_eq e.0 (keys_of es) distinct)) (set-is number change es share (IsDistinct-tail nat_eq e.0 (keys_of es) distinct)) found

none_step : (number : ℕ) (change : Share → Share) (e : ℕ × Share) (es : List (ℕ × Share)) (b : Bool) → (number == e.0) ≡ b → (lookup (nat_eq number) es ≡ None → map (at_number number change) es ≡ es) → lookup (nat_eq number) (e ∷ es) ≡ None → map (at_number number change) (e ∷ es) ≡ e ∷ es
none_step number change e es true same rest missed = let found : Some e.1 ≡ None = rw same at missed in cc
none_step number change e es false same rest missed = let later = rest (rw same at missed) in rw same (ap (λ tail. e ∷ tail) later)

pub none-is : (number : ℕ) (change : Share → Share) (es : List (ℕ × Share)) → lookup (nat_eq number) es ≡ None → map (at_number number change) es ≡ es
none-is number change [] missed = refl
none-is number change (e ∷ es) missed = none_step number change e es (number == e.0) refl (none-is number change es) missed

pub for-none : (es : List (ℕ × Share)) → es ≡ map (λ (e : ℕ × Share). e) es
for-none [] = refl
for-none (e ∷ es) = ap (λ rest. e ∷ rest) (for-none es)

-- ---- the windows stay
more_keeps_at : (e : ℕ × Share) (b : Bool) → consumers_of (cond b (e.0, record e.1 { held = e.1.held + 1 }) e ∷ []) ≡ consumers_of (e ∷ [])
more_keeps_at e true = refl
more_keeps_at e false = refl

fewer_keeps_at : (e : ℕ × Share) (b : Bool) → consumers_of (cond b (e.0, record e.1 { held = e.1.held - 1 }) e ∷ []) ≡ consumers_of (e ∷ [])
fewer_keeps_at e true = refl
fewer_keeps_at e false = refl

more_keeps : (consumer : Option ℕ) (e : ℕ × Share) → consumers_of (with_more consumer e ∷ []) ≡ consumers_of (e ∷ [])
more_keeps None e = refl
more_keeps (Some number) e = more_keeps_at e (number == e.0)

fewer_keeps : (consumer : Option ℕ) (e : ℕ × Share) → consumers_of (with_fewer consumer e ∷ []) ≡ consumers_of (e ∷ [])
fewer_keeps None e = refl
fewer_keeps (Some number) e = fewer_keeps_at e (number == e.0)

pub consumers-more : (consumer : Option ℕ) (es : List (ℕ × Share)) → consumers_of (map (with_more consumer) es) ≡ consumers_of es
consumers-more consumer [] = refl
consumers-more consumer (e ∷ es) = ap (λ first. first ++ consumers_of (map (with_more consumer) es)) (more_keeps consumer e) ∙ ap (λ rest. consumers_of (e ∷ []) ++ rest) (consumers-more consumer es)

pub consumers-fewer : (consumer : Option ℕ) (es : List (ℕ × Share)) → consumers_of (map (with_fewer consumer) es) ≡ consumers_of es
consumers-fewer consumer [] = refl
consumers-fewer consumer (e ∷ es) = ap (λ first. first ++ consumers_of (map (with_fewer consumer) es)) (fewer_keeps consumer e) ∙ ap (λ rest. consumers_of (e ∷ []) ++ rest) (consumers-fewer consumer es)

-- ---- the counts follow the deliveries
more_held : (number : ℕ) (e : ℕ × Share) (b : Bool) → (cond b (e.0, record e.1 { held = e.1.held + 1 }) e).1.held ≡ e.1.held + cond b 1 0
more_held number e true = refl
more_held number e false = sym (add-zero e.1.held)

more_key : (e : ℕ × Share) (b : Bool) → (cond b (e.0, record e.1 { held = e.1.held + 1 }) e).0 ≡ e.0
more_key e true = refl
more_key e false = refl

less-none : (n : ℕ) → n ≡ n - 0
less-none n = omega arith

fewer_held : (number : ℕ) (e : ℕ × Share) (b : Bool) → (cond b (e.0, record e.1 { held = e.1.held - 1 }) e).1.held ≡ e.1.held - cond b 1 0
fewer_held number e true = refl
fewer_held number e false = less-none e.1.held

fewer_key : (e : ℕ × Share) (b : Bool) → (cond b (e.0, record e.1 { held = e.1.held - 1 }) e).0 ≡ e.0
fewer_key e true = refl
fewer_key e false = refl

more_one : (ds : List Delivery) (d : Delivery) (consumer : Option ℕ) (e : ℕ × Share) → d.consumer ≡ consumer → IsCounted ds e → IsCounted (ds ++ d ∷ []) (with_more consumer e)
more_one ds d None e is counted =
    counted ∙ sym (sum_by_push (λ x. cond (is_to e.0 x) 1 0) ds d ∙ ap {B = ℕ} (λ c. count_by (is_to e.0) ds + cond (is_of e.0 c) 1 0) is ∙ add-zero (count_by (is_to e.0) ds))
more_one ds d (Some number) e is counted =
    more_held number e (number == e.0)
    ∙ ap (λ held. held + cond (number == e.0) 1 0) counted
    ∙ sym (ap (λ key. count_by (is_to key) (ds ++ d ∷ [])) (more_key e (number == e.0)) ∙ sum_by_push (λ x. cond (is_to e.0 x) 1 0) ds d ∙ ap {B = ℕ} (λ c. count_by (is_to e.0) ds + cond (is_of e.0 c) 1 0) is)

pub counted-more : (ds : List Delivery) (d : Delivery) (es : List (ℕ × Share)) → All (IsCounted ds) es → All (IsCounted (ds ++ d ∷ [])) (map (with_more d.consumer) es)
counted-more ds d [] all = All-nil (IsCounted (ds ++ d ∷ []))
counted-more ds d (e ∷ es) all =
    All-cons (IsCounted (ds ++ d ∷ [])) (with_more d.consumer e) (map (with_more d.consumer) es) (more_one ds d d.consumer e refl (All-head (IsCounted ds) e es all)) (counted-more ds d es (All-tail (IsCounted ds) e es all))

less-by : (left one all held : ℕ) → left + one ≡ all → held ≡ all → held - one ≡ left
less-by left one all held sum is = omega arith

fewer_one : (ds : List Delivery) (i : ℕ) (d : Delivery) (consumer : Option ℕ) (e : ℕ × Share) → i < length ds → (get_or ds i d).consumer ≡ consumer → IsCounted ds e → IsCounted (remove ds i) (with_fewer consumer e)
fewer_one ds i d None e in_list is counted =
    counted ∙ sym (sym (add-zero (count_by (is_to e.0) (remove ds i))) ∙ ap {B = ℕ} (λ c. count_by (is_to e.0) (remove ds i) + cond (is_of e.0 c) 1 0) (sym is) ∙ sum_by-remove (λ x. cond (is_to e.0 x) 1 0) ds i d in_list)
fewer_one ds i d (Some number) e in_list is counted =
    fewer_held number e (number == e.0)
    ∙ less-by (count_by (is_to e.0) (remove ds i)) (cond (number == e.0) 1 0) (count_by (is_to e.0) ds) e.1.held (ap {B = ℕ} (λ c. count_by (is_to e.0) (remove ds i) + cond (is_of e.0 c) 1 0) (sym is) ∙ sum_by-remove (λ x. cond (is_to e.0 x) 1 0) ds i d in_list) counted
    ∙ sym (ap (λ key. count_by (is_to key) (remove ds i)) (fewer_key e (number == e.0)))

pub counted-fewer : (ds : List Delivery) (i : ℕ) (d : Delivery) (es : List (ℕ × Share)) → i < length ds → All (IsCounted ds) es → All (IsCounted (remove ds i)) (map (with_fewer (get_or ds i d).consumer) es)
counted-fewer ds i d [] in_list all = All-nil (IsCounted (remove ds i))
counted-fewer ds i d (e ∷ es) in_list all =
    let consumer = (get_or ds i d).consumer in
    All-cons (IsCounted (remove ds i)) (with_fewer consumer e) (map (with_fewer consumer) es) (fewer_one ds i d consumer e in_list refl (All-head (IsCounted ds) e es all)) (counted-fewer ds i d es in_list (All-tail (IsCounted ds) e es all))

-- no count is more than there are deliveries
pub counted-fits : (ds : List Delivery) (most : ℕ) (es : List (ℕ × Share)) → length ds + 1 < most → All (IsCounted ds) es → All (λ entry. entry.1.held + 1 < most) es
counted-fits ds most es fits all =
    All-weaker (IsCounted ds) (λ entry. entry.1.held + 1 < most) (λ e counted. omega (arith, counted, count_by-le-length (is_to e.0) ds)) es all

-- ---- the share of a consumer
equal : (a b : ℕ) → (a == b) ≡ true → a ≡ b
equal a b h = grind (arith, nat_tests)

flip : (a b : ℕ) → (a == b) ≡ (b == a)
flip a b = grind (arith, nat_tests)

full_step : (number all : ℕ) (ds : List Delivery) (e : ℕ × Share) (es : List (ℕ × Share)) (b : Bool) → (number == e.0) ≡ b → (e.0 == number) ≡ b → IsCounted ds e
    → option_map_or (λ share. is_full share.window share.held) (lookup (nat_eq number) es) false ≡ is_full (window_of number (consumers_of es)) (count_by (is_to number) ds)
    → option_map_or (λ share. is_full share.window share.held) (lookup (nat_eq number) (e ∷ es)) false ≡ is_full (window_of number (consumers_of (e ∷ es))) (count_by (is_to number) ds)
full_step number all ds e es true same flipped counted rest =
    let is : e.0 ≡ number = equal e.0 number flipped in
    rw (same, flipped) (ap (is_full e.1.window) (counted ∙ ap (λ key. count_by (is_to key) ds) is))
full_step number all ds e es false same flipped counted rest = rw (same, flipped) rest

pub full-is : (number : ℕ) (ds : List Delivery) (es : List (ℕ × Share)) → All (IsCounted ds) es → option_map_or (λ share. is_full share.window share.held) (lookup (nat_eq number) es) false ≡ is_full (window_of number (consumers_of es)) (count_by (is_to number) ds)
full-is number ds [] all = refl
full-is number ds (e ∷ es) all =
    full_step number 0 ds e es (number == e.0) refl (flip e.0 number) (All-head (IsCounted ds) e es all) (full-is number ds es (All-tail (IsCounted ds) e es all))

known_step : (number : ℕ) (e : ℕ × Share) (es : List (ℕ × Share)) (b : Bool) → (number == e.0) ≡ b → (e.0 == number) ≡ b → (list_any (λ (consumer : Consumer). consumer.number == number) (consumers_of es) ≡ false → lookup (nat_eq number) es ≡ None) → list_any (λ (consumer : Consumer). consumer.number == number) (consumers_of (e ∷ es)) ≡ false → lookup (nat_eq number) (e ∷ es) ≡ None
known_step number e es true same flipped rest unknown = let no : true ≡ false = rw flipped at unknown in absurd (false≢true (sym no))
known_step number e es false same flipped rest unknown = rw same (rest (rw flipped at unknown))

-- a consumer that isn't known has no share
pub unknown-is : (number : ℕ) (es : List (ℕ × Share)) → list_any (λ (consumer : Consumer). consumer.number == number) (consumers_of es) ≡ false → lookup (nat_eq number) es ≡ None
unknown-is number [] unknown = refl
unknown-is number (e ∷ es) unknown = known_step number e es (number == e.0) refl (flip e.0 number) (unknown-is number es) unknown

-- ---- a consumer joins
pub consumers-push : (number window : ℕ) (es : List (ℕ × Share)) → consumers_of (es ++ (number, record { window = window; held = 0 }) ∷ []) ≡ consumers_of es ++ (record { number = number; window = window }) ∷ []
consumers-push number window [] = refl
consumers-push number window (e ∷ es) = ap (λ rest. consumers_of (e ∷ []) ++ rest) (consumers-push number window es)

-- ---- who isn't a consumer has nothing
or_false : (a b : Bool) → (a || b) ≡ false → (a ≡ false) × (b ≡ false)
or_false true b h = absurd (false≢true (sym h))
or_false false b h = (refl, h)

unknown_before : (number window n : ℕ) (es : List (ℕ × Share)) → list_any (λ (consumer : Consumer). consumer.number == n) (consumers_of es ++ (record { number = number; window = window }) ∷ []) ≡ false → list_any (λ (consumer : Consumer). consumer.number == n) (consumers_of es) ≡ false
unknown_before number window n es unknown =
    (or_false (list_any (λ (consumer : Consumer). consumer.number == n) (consumers_of es)) ((number == n) || false) (sym (list_any-append (λ (consumer : Consumer). consumer.number == n) (consumers_of es) ((record { number = number; window = window }) ∷ [])) ∙ unknown)).0

pub known-begun : (number window : ℕ) (ds : List Delivery) (es : List (ℕ × Share)) → HasKnown (consumers_of es) ds → HasKnown (consumers_of (es ++ (number, record { window = window; held = 0 }) ∷ [])) ds
known-begun number window ds es known = λ n unknown. known n (unknown_before number window n es (sym (ap (list_any (λ (consumer : Consumer). consumer.number == n)) (consumers-push number window es)) ∙ unknown))

apart : (number n : ℕ) (consumers : List Consumer) (b : Bool) → (number == n) ≡ b → list_any (λ (c : Consumer). c.number == number) consumers ≡ true → list_any (λ (c : Consumer). c.number == n) consumers ≡ false → (number == n) ≡ false
apart number n consumers true same known unknown = absurd (false≢true (sym unknown ∙ ap (λ k. list_any (λ (c : Consumer). c.number == k) consumers) (sym (equal number n same)) ∙ known))
apart number n consumers false same known unknown = same

given_one : (n : ℕ) (consumers : List Consumer) (consumer : Option ℕ) → IfSome consumer (λ number. list_any (λ (c : Consumer). c.number == number) consumers ≡ true) → list_any (λ (c : Consumer). c.number == n) consumers ≡ false → is_of n consumer ≡ false
given_one n consumers None known unknown = refl
given_one n consumers (Some number) known unknown = apart number n consumers (number == n) refl known unknown

pub known-given : (ds : List Delivery) (d : Delivery) (consumers : List Consumer) → IfSome d.consumer (λ number. list_any (λ (c : Consumer). c.number == number) consumers ≡ true) → HasKnown consumers ds → HasKnown consumers (ds ++ d ∷ [])
known-given ds d consumers is known = λ n unknown.
    sum_by_push (λ x. cond (is_to n x) 1 0) ds d ∙ ap {B = ℕ} (λ b. count_by (is_to n) ds + cond b 1 0) (given_one n consumers d.consumer is unknown) ∙ add-zero (count_by (is_to n) ds) ∙ known n unknown

kept_step : (p q : Delivery → Bool) (d : Delivery) (ds : List Delivery) (b : Bool) → q d ≡ b → count_by p (filter q ds) ≤ count_by p ds → count_by p (filter q (d ∷ ds)) ≤ count_by p (d ∷ ds)
kept_step p q d ds true same rest =
    rw same (omega (arith, rest, sum_by-cons (λ x. cond (p x) 1 0) d (filter q ds), sum_by-cons (λ x. cond (p x) 1 0) d ds))
kept_step p q d ds false same rest =
    rw same (omega (arith, rest, sum_by-cons (λ x. cond (p x) 1 0) d ds))

count_kept : (p q : Delivery → Bool) (ds : List Delivery) → count_by p (filter q ds) ≤ count_by p ds
count_kept p q [] = omega arith
count_kept p q (d ∷ ds) = kept_step p q d ds (q d) refl (count_kept p q ds)

pub known-kept : (q : Delivery → Bool) (ds : List Delivery) (consumers : List Consumer) → HasKnown consumers ds → HasKnown consumers (filter q ds)
known-kept q ds consumers known = λ n unknown. omega (arith, count_kept (is_to n) q ds, known n unknown)
