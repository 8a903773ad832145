-- The deliveries that an acknowledgement settles stand next to each other.
use Rattle.std.proofs.Common.{◌≡◌, ◌==◌, ℕ, zero, suc, ◌+◌, ◌<◌, ◌≤◌, ◌||◌, ◌&&◌, Bool, true, false, not, List, [], ◌∷◌, ◌++◌, length, get_or, take, drop, map, refl, ap, sym, ◌∙◌, arith, add-one}
use Rattle.std.specs.Prelude.{All, filter, slice_get, nat_le}
use Rattle.std.specs.List.{AllWithin, list_any, remove}
use Rattle.std.specs.List.Sorted.{IsNonDecreasingBy}
use Rattle.std.specs.Option.{option_map_or}
use Rattle.std.proofs.lemmas.Bool.{false≢true}
use Rattle.std.proofs.lemmas.Bool.Decides.{nat_tests}
use Rattle.std.proofs.lemmas.List.Elements.{All-head, All-tail, All-weaker, All-get_or}
use Rattle.std.proofs.lemmas.List.Folds.{list_any_none}
use Rattle.broker_channels.specs.declared.delivery.Delivery.{Delivery}
use Rattle.broker_channels.specs.Tags.{Rises, is_settled, unsettled, is_outstanding}
use Rattle.broker_channels.specs.Held.{IsSpan}

-- the delivery at the place has the tag
abbrev pub is_at : ℕ → List Delivery → ℕ → Bool
is_at tag deliveries place = option_map_or (λ (delivery : Delivery). delivery.tag == tag) (slice_get deliveries place) false

-- ---- tags that rise don't fall
pub rises-le : (ds : List Delivery) → Rises ds → IsNonDecreasingBy (λ (d : Delivery). d.tag) ds
rises-le [] rises i j x le l = absurd (omega arith)
rises-le (d ∷ ds) rises zero zero x le l = omega arith
rises-le (d ∷ ds) rises zero (suc j) x le l = omega (arith, All-get_or (λ (later : Delivery). d.tag < later.tag) ds j x (omega arith) rises.0)
rises-le (d ∷ ds) rises (suc i) zero x le l = absurd (omega arith)
rises-le (d ∷ ds) rises (suc i) (suc j) x le l = rises-le ds rises.1 i j x (omega arith) (omega arith)

equal : (a b : ℕ) → (a == b) ≡ true → a ≡ b
equal a b h = grind (arith, nat_tests)

above-not : (tag other : ℕ) → tag < other → (other == tag) ≡ false
above-not tag other lt = grind (arith, nat_tests)

below-not : (tag other : ℕ) → other < tag → (other == tag) ≡ false
below-not tag other lt = grind (arith, nat_tests)

not-le : (tag other : ℕ) → tag < other → (tag == 0) ≡ false → ((tag == 0) || nat_le other tag) ≡ false
not-le tag other lt some = grind (arith, nat_tests)

is-le : (tag other : ℕ) → other ≤ tag → ((tag == 0) || nat_le other tag) ≡ true
is-le tag other le = grind (arith, nat_tests)

-- ---- none of the later ones
none-settled : (test : Delivery → Bool) (ds : List Delivery) → All (λ d. test d ≡ false) ds → filter test ds ≡ []
none-settled test [] all = refl
none-settled test (d ∷ ds) all =
    rw (All-head (λ (d : Delivery). test d ≡ false) d ds all) (none-settled test ds (All-tail (λ (d : Delivery). test d ≡ false) d ds all))

all-stay : (test : Delivery → Bool) (ds : List Delivery) → All (λ d. test d ≡ false) ds → filter (λ d. not (test d)) ds ≡ ds
all-stay test [] all = refl
all-stay test (d ∷ ds) all =
    rw (All-head (λ (d : Delivery). test d ≡ false) d ds all) (ap (λ rest. d ∷ rest) (all-stay test ds (All-tail (λ (d : Delivery). test d ≡ false) d ds all)))

-- a place with the tag is within
at-within : (tag : ℕ) (ds : List Delivery) (i : ℕ) → is_at tag ds i ≡ true → i < length ds
at-within tag [] i there = absurd (false≢true there)
at-within tag (d ∷ ds) zero there = omega arith
at-within tag (d ∷ ds) (suc i) there = omega (arith, at-within tag ds i there)

-- an earlier delivery has a lesser tag
earlier : (tag : ℕ) (d : Delivery) (ds : List Delivery) (i : ℕ) → All (λ later. d.tag < later.tag) ds → is_at tag ds i ≡ true → d.tag < tag
earlier tag d [] i all there = absurd (false≢true there)
earlier tag d (x ∷ ds) zero all there = omega (arith, equal x.tag tag there, All-head (λ (later : Delivery). d.tag < later.tag) x ds all)
earlier tag d (x ∷ ds) (suc i) all there = earlier tag d ds i (All-tail (λ (later : Delivery). d.tag < later.tag) x ds all) there

-- ---- the one of the tag
pub one-settled : (tag : ℕ) (ds : List Delivery) (i : ℕ) → Rises ds → is_at tag ds i ≡ true → filter (is_settled tag false) ds ≡ take 1 (drop i ds)
one-settled tag [] i rises there = absurd (false≢true there)
one-settled tag (d ∷ ds) zero rises there =
    let is = equal d.tag tag there in
    rw there (ap (λ rest. d ∷ rest) (none-settled (is_settled tag false) ds (All-weaker (λ (later : Delivery). d.tag < later.tag) (λ later. (later.tag == tag) ≡ false) (λ later lt. above-not tag later.tag (omega arith)) ds rises.0)))
one-settled tag (d ∷ ds) (suc i) rises there =
    rw (below-not tag d.tag (earlier tag d ds i rises.0 there)) (one-settled tag ds i rises.1 there)

pub one-stays : (tag : ℕ) (ds : List Delivery) (i : ℕ) → Rises ds → is_at tag ds i ≡ true → unsettled tag false ds ≡ take i ds ++ drop 1 (drop i ds)
one-stays tag [] i rises there = absurd (false≢true there)
one-stays tag (d ∷ ds) zero rises there =
    let is = equal d.tag tag there in
    rw there (all-stay (is_settled tag false) ds (All-weaker (λ (later : Delivery). d.tag < later.tag) (λ later. (later.tag == tag) ≡ false) (λ later lt. above-not tag later.tag (omega arith)) ds rises.0))
one-stays tag (d ∷ ds) (suc i) rises there =
    rw (below-not tag d.tag (earlier tag d ds i rises.0 there)) (ap (λ rest. d ∷ rest) (one-stays tag ds i rises.1 there))

-- ---- all up to the tag
pub up_to-settled : (tag : ℕ) (ds : List Delivery) (i : ℕ) → Rises ds → (tag == 0) ≡ false → is_at tag ds i ≡ true → filter (is_settled tag true) ds ≡ take (suc i) ds
up_to-settled tag [] i rises some there = absurd (false≢true there)
up_to-settled tag (d ∷ ds) zero rises some there =
    let is = equal d.tag tag there in
    rw (is-le tag d.tag (omega arith)) (ap (λ rest. d ∷ rest) (none-settled (is_settled tag true) ds (All-weaker (λ (later : Delivery). d.tag < later.tag) (λ later. ((tag == 0) || nat_le later.tag tag) ≡ false) (λ later lt. not-le tag later.tag (omega arith) some) ds rises.0)))
up_to-settled tag (d ∷ ds) (suc i) rises some there =
    let lt = earlier tag d ds i rises.0 there in
    rw (is-le tag d.tag (omega arith)) (ap (λ rest. d ∷ rest) (up_to-settled tag ds i rises.1 some there))

pub up_to-stays : (tag : ℕ) (ds : List Delivery) (i : ℕ) → Rises ds → (tag == 0) ≡ false → is_at tag ds i ≡ true → unsettled tag true ds ≡ drop (suc i) ds
up_to-stays tag [] i rises some there = absurd (false≢true there)
up_to-stays tag (d ∷ ds) zero rises some there =
    let is = equal d.tag tag there in
    rw (is-le tag d.tag (omega arith)) (all-stay (is_settled tag true) ds (All-weaker (λ (later : Delivery). d.tag < later.tag) (λ later. ((tag == 0) || nat_le later.tag tag) ≡ false) (λ later lt. not-le tag later.tag (omega arith) some) ds rises.0))
up_to-stays tag (d ∷ ds) (suc i) rises some there =
    let lt = earlier tag d ds i rises.0 there in
    rw (is-le tag d.tag (omega arith)) (up_to-stays tag ds i rises.1 some there)

-- ---- all
pub all-settled : (ds : List Delivery) → filter (is_settled 0 true) ds ≡ take (length ds) ds
all-settled [] = refl
all-settled (d ∷ ds) = ap (λ rest. d ∷ rest) (all-settled ds)

pub none-stays : (ds : List Delivery) → unsettled 0 true ds ≡ drop (length ds) ds
none-stays [] = refl
none-stays (d ∷ ds) = none-stays ds

-- ---- whether the tag is there
or_true : (b : Bool) → (b || true) ≡ true
or_true true = refl
or_true false = refl

strictly : (tag other : ℕ) → tag ≤ other → (other == tag) ≡ false → tag < other
strictly tag other le apart = grind (arith, nat_tests)

pub there-given : (tag : ℕ) (ds : List Delivery) (i : ℕ) → is_at tag ds i ≡ true → list_any (λ (d : Delivery). d.tag == tag) ds ≡ true
there-given tag [] i there = there
there-given tag (d ∷ ds) zero there = rw there refl
there-given tag (d ∷ ds) (suc i) there = rw (there-given tag ds i there) (or_true (d.tag == tag))

pub none-given : (tag : ℕ) (ds : List Delivery) (i : ℕ) → Rises ds → AllWithin (λ d. d.tag < tag) ds 0 i → AllWithin (λ d. tag ≤ d.tag) ds i (length ds) → i ≤ length ds → is_at tag ds i ≡ false → list_any (λ (d : Delivery). d.tag == tag) ds ≡ false
none-given tag [] i rises below from le away = refl
none-given tag (d ∷ ds) zero rises below from le away =
    let lt : tag < d.tag = strictly tag d.tag (from 0 d (omega arith) (omega arith)) away in
    rw away (list_any_none (λ (d : Delivery). d.tag == tag) ds (All-weaker (λ (later : Delivery). d.tag < later.tag) (λ later. (later.tag == tag) ≡ false) (λ later above. above-not tag later.tag (omega arith)) ds rises.0))
none-given tag (d ∷ ds) (suc i) rises below from le away =
    rw (below-not tag d.tag (below 0 d (omega arith) (omega arith))) (none-given tag ds i rises.1 (λ k x l h. below (suc k) x (omega arith) (omega arith)) (λ k x l h. from (suc k) x (omega arith) (omega arith)) (omega arith) away)

-- ---- one after the other is taken out
drop-next : (k : ℕ) (ds : List Delivery) → drop 1 (drop k ds) ≡ drop (suc k) ds
drop-next zero ds = refl
drop-next (suc k) [] = refl
drop-next (suc k) (d ∷ ds) = drop-next k ds

get-drop : (k : ℕ) (ds : List Delivery) (x : Delivery) → get_or (drop k ds) 0 x ≡ get_or ds k x
get-drop zero ds x = refl
get-drop (suc k) [] x = refl
get-drop (suc k) (d ∷ ds) x = get-drop k ds x

pub remove-front : (start : ℕ) (ds : List Delivery) (k : ℕ) → start ≤ length ds → remove (take start ds ++ drop k (drop start ds)) start ≡ take start ds ++ drop (suc k) (drop start ds)
remove-front zero ds k le = drop-next k ds
remove-front (suc start) [] k le = absurd (omega arith)
remove-front (suc start) (d ∷ ds) k le = ap (λ rest. d ∷ rest) (remove-front start ds k (omega arith))

pub get-front : (start : ℕ) (ds : List Delivery) (k : ℕ) (x : Delivery) → start ≤ length ds → get_or (take start ds ++ drop k (drop start ds)) start x ≡ get_or (drop start ds) k x
get-front zero ds k x le = get-drop k ds x
get-front (suc start) [] k x le = absurd (omega arith)
get-front (suc start) (d ∷ ds) k x le = get-front start ds k x (omega arith)

-- ---- what an acknowledgement settles
pub outstanding-given : (tag : ℕ) (multiple : Bool) (ds : List Delivery) → list_any (λ (d : Delivery). d.tag == tag) ds ≡ true → is_outstanding tag multiple ds ≡ true
outstanding-given tag multiple ds there = ap (λ b. ((tag == 0) && multiple) || b) there ∙ or_true ((tag == 0) && multiple)

pub outstanding-none : (tag : ℕ) (multiple : Bool) (ds : List Delivery) → ((tag == 0) && multiple) ≡ false → list_any (λ (d : Delivery). d.tag == tag) ds ≡ false → is_outstanding tag multiple ds ≡ false
outstanding-none tag multiple ds given none = ap (λ b. b || list_any (λ (d : Delivery). d.tag == tag) ds) given ∙ none

not_zero : (a b : Bool) → b ≡ true → (a && b) ≡ false → a ≡ false
not_zero true b is both = sym is ∙ both
not_zero false b is both = refl

pub up_to-span : (tag : ℕ) (multiple : Bool) (ds : List Delivery) (i : ℕ) → Rises ds → multiple ≡ true → ((tag == 0) && multiple) ≡ false → is_at tag ds i ≡ true → IsSpan tag multiple ds 0 (i + 1)
up_to-span tag multiple ds i rises is given there =
    let some = not_zero (tag == 0) multiple is given in
    rw (is, add-one) (record { within = omega (arith, at-within tag ds i there); settled = up_to-settled tag ds i rises some there; stays = up_to-stays tag ds i rises some there })

pub one-span : (tag : ℕ) (multiple : Bool) (ds : List Delivery) (i : ℕ) → Rises ds → multiple ≡ false → is_at tag ds i ≡ true → IsSpan tag multiple ds i 1
one-span tag multiple ds i rises is there =
    rw is (record { within = omega (arith, at-within tag ds i there); settled = one-settled tag ds i rises there; stays = one-stays tag ds i rises there })

pub all-span : (tag : ℕ) (multiple : Bool) (ds : List Delivery) (count : ℕ) → tag ≡ 0 → multiple ≡ true → count ≡ length ds → IsSpan tag multiple ds 0 count
all-span tag multiple ds count none is all = rw (none, is, all) (record { within = omega arith; settled = all-settled ds; stays = none-stays ds })

copies_more : (ds : List Delivery) (k : ℕ) (x : Delivery) → k < length ds → map (λ (d : Delivery). d.copy) (take (suc k) ds) ≡ map (λ (d : Delivery). d.copy) (take k ds) ++ (get_or ds k x).copy ∷ []
copies_more [] k x in_list = absurd (omega arith)
copies_more (d ∷ ds) zero x in_list = refl
copies_more (d ∷ ds) (suc k) x in_list = ap (λ rest. d.copy ∷ rest) (copies_more ds k x (omega arith))

pub copies-more : (ds : List Delivery) (k : ℕ) (x : Delivery) → k < length ds → map (λ (d : Delivery). d.copy) (take (k + 1) ds) ≡ map (λ (d : Delivery). d.copy) (take k ds) ++ (get_or ds k x).copy ∷ []
copies-more ds k x in_list = rw add-one (copies_more ds k x in_list)
