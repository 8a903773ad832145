-- What a session published at a place and isn't answered for.
use Rattle.std.proofs.Common.{◌≡◌, ℕ, ◌+◌, ◌<◌, ◌==◌, ◌&&◌, ◌||◌, not, min, List, [], ◌∷◌, ◌++◌, length, map, Bool, true, false, cond, if◌then◌else◌, is_some, Option, Some, None, All, filter, find, filter_map, arith, refl, sym, ap, ◌∙◌}
use Rattle.std.specs.List.{list_all, cons_option}
use Rattle.std.specs.Option.{option_map_or}
use Rattle.std.proofs.lemmas.Bool.{false≢true, false_from_ne_true, and_parts, eqb-true}
use Rattle.std.proofs.lemmas.List.Elements.{All-head, All-tail, All-filter, All-map, All-weaker, filter-append}
use Rattle.std.proofs.lemmas.List.Folds.{list_any-append}
use Rattle.confirm_core.specs.Waits.{Unconfirmed, waits_for_nothing, ready_numbers, least}
use Rattle.fed_journal.specs.declared.place.Place.{Place}
use Rattle.fed_journal.specs.declared.entry.Publication.{Publication}
use Rattle.fed_journal.specs.declared.entry.Entry.{Entry}
use Rattle.fed_journal.specs.declared.entry.Entry.TheVariants.{Published, Confirmed}
use Rattle.fed_journal.specs.Names.{same_text, same_place}
use Rattle.fed_journal.specs.Copies.{publication_in, publication_count, is_copy_secured, is_secured, is_secured_at, numbers_from}
use Rattle.fed_journal.specs.Flight.{has, is_number, confirmed_to, copy_published_by, published_by, number_if, flight_published}
use Rattle.broker_view.specs.Confirms.{publications, is_by, is_unanswered, is_open_at, open_at, awaited, IsKnown, Rising, HasPublications, ArePublishedAt}
use Rattle.broker_view.proofs.Finds.{found}
use Rattle.broker_view.proofs.Names.{number-sym}
use Rattle.broker_view.proofs.Published.{publications-push, publications-same}
use Rattle.broker_view.proofs.Sites.{filter-with}

-- ---- lists

filter-alike : {X : Type 0} (t u : X → Bool) (xs : List X) → All (λ x. t x ≡ u x) xs → filter t xs ≡ filter u xs
filter-alike t u [] h = refl
filter-alike t u (x ∷ xs) h =
    ap (λ b. cond b (x ∷ filter t xs) (filter t xs)) (All-head (λ y. t y ≡ u y) x xs h) ∙ ap (λ ys. cond (u x) (x ∷ ys) ys) (filter-alike t u xs (All-tail (λ y. t y ≡ u y) x xs h))

-- the tests agree everywhere
filter-same : {X : Type 0} (t u : X → Bool) (xs : List X) → ((x : X) → t x ≡ u x) → filter t xs ≡ filter u xs
filter-same t u xs h = ap (λ test. filter test xs) (λ i x. h x i)

filter-both : {X : Type 0} (t u : X → Bool) (xs : List X) → filter t (filter u xs) ≡ filter (λ x. u x && t x) xs
filter-both t u [] = refl
filter-both t u (x ∷ xs) =
    elim (u x) as (λ b. filter t (cond b (x ∷ filter u xs) (filter u xs)) ≡ cond (b && t x) (x ∷ filter (λ y. u y && t y) xs) (filter (λ y. u y && t y) xs)) [
      | true ↦ ap (λ ys. cond (t x) (x ∷ ys) ys) (filter-both t u xs)
      | false ↦ filter-both t u xs
    ]

filter-map : {X Y : Type 0} (f : X → Y) (t : Y → Bool) (xs : List X) → filter t (map f xs) ≡ map f (filter (λ x. t (f x)) xs)
filter-map f t [] = refl
filter-map f t (x ∷ xs) =
    elim (t (f x)) as (λ b. cond b (f x ∷ filter t (map f xs)) (filter t (map f xs)) ≡ map f (cond b (x ∷ filter (λ y. t (f y)) xs) (filter (λ y. t (f y)) xs))) [
      | true ↦ ap (λ ys. f x ∷ ys) (filter-map f t xs)
      | false ↦ filter-map f t xs
    ]

-- none fails the test exactly where all pass it
none-left : {X : Type 0} (t : X → Bool) (xs : List X) → (length (filter (λ x. not (t x)) xs) == 0) ≡ list_all t xs
none-left t [] = refl
none-left t (x ∷ xs) =
    elim (t x) as (λ b. (length (cond (not b) (x ∷ filter (λ y. not (t y)) xs) (filter (λ y. not (t y)) xs)) == 0) ≡ (b && list_all t xs)) [
      | true ↦ none-left t xs
      | false ↦ false_from_ne_true (length (x ∷ filter (λ y. not (t y)) xs) == 0) (λ e. omega (arith, eqb-true (length (x ∷ filter (λ y. not (t y)) xs)) 0 e))
    ]

-- ---- what is open, after one entry more

or-false : (b : Bool) → (b || false) ≡ b
or-false true = refl
or-false false = refl

and-true : (b : Bool) → (b && true) ≡ b
and-true true = refl
and-true false = refl

-- it is open at the place, unless this publication is the one
abbrev is_open_but : List Entry → Place → List ℕ → ℕ → Option ℕ → Publication → Bool
is_open_but J p l s o x = same_place x.place p && (is_by l s x && not (has (confirmed_to l s) x.number J || (is_number x.number o || false)))

open-push : (J : List Entry) (p : Place) (l : List ℕ) (s : ℕ) (e : Entry) (x : Publication) → is_open_at (J ++ e ∷ []) p l s x ≡ is_open_but J p l s (confirmed_to l s e) x
open-push J p l s e x = ap (λ b. same_place x.place p && (is_by l s x && not b)) (list_any-append (λ e. is_number x.number (confirmed_to l s e)) J (e ∷ []))

open-but_none : (J : List Entry) (p : Place) (l : List ℕ) (s : ℕ) (x : Publication) → is_open_but J p l s None x ≡ is_open_at J p l s x
open-but_none J p l s x = ap (λ b. same_place x.place p && (is_by l s x && not b)) (or-false (has (confirmed_to l s) x.number J))

open-still : (J : List Entry) (p : Place) (l : List ℕ) (s : ℕ) (e : Entry) (x : Publication) → confirmed_to l s e ≡ None → is_open_at (J ++ e ∷ []) p l s x ≡ is_open_at J p l s x
open-still J p l s e x none = open-push J p l s e x ∙ ap (λ o. is_open_but J p l s o x) none ∙ open-but_none J p l s x

but-by : (a b c d : Bool) → (a && (b && not (c || (d || false)))) ≡ ((a && (b && not c)) && not d)
but-by false b c d = refl
but-by true false c d = refl
but-by true true true d = refl
but-by true true false true = refl
but-by true true false false = refl

open-but_some : (J : List Entry) (p : Place) (l : List ℕ) (s n : ℕ) (x : Publication) → is_open_but J p l s (Some n) x ≡ (is_open_at J p l s x && not (x.number == n))
open-but_some J p l s n x =
    but-by (same_place x.place p) (is_by l s x) (has (confirmed_to l s) x.number J) (n == x.number) ∙ ap (λ b. is_open_at J p l s x && not b) (number-sym n x.number)

-- an entry that neither publishes nor confirms
pub open-same : (J : List Entry) (p : Place) (l : List ℕ) (s : ℕ) (e : Entry) → publication_in (Some e) ≡ None → ((l : List ℕ) (s : ℕ) → confirmed_to l s e ≡ None) → open_at (J ++ e ∷ []) p l s ≡ open_at J p l s
open-same J p l s e none unconfirmed =
    ap (filter (is_open_at (J ++ e ∷ []) p l s)) (publications-same J e none)
    ∙ filter-same (is_open_at (J ++ e ∷ []) p l s) (is_open_at J p l s) (publications J) (λ x. open-still J p l s e x (unconfirmed l s))

-- a publication is open for the session that made it
pub open-published : (J : List Entry) (p : Place) (l : List ℕ) (s : ℕ) (x : Publication) → HasPublications J → x.number ≡ publication_count J + 1 → open_at (J ++ Published x ∷ []) p l s ≡ open_at J p l s ++ (if same_place x.place p && is_by l s x then x ∷ [] else [])
open-published J p l s x says next =
    ap (filter (is_open_at (J ++ Published x ∷ []) p l s)) (publications-push J (Published x))
    ∙ filter-same (is_open_at (J ++ Published x ∷ []) p l s) (is_open_at J p l s) (publications J ++ x ∷ []) (λ y. open-still J p l s (Published x) y refl)
    ∙ filter-append (is_open_at J p l s) (publications J) (x ∷ [])
    ∙ ap (λ b. open_at J p l s ++ cond (same_place x.place p && (is_by l s x && not b)) (x ∷ []) []) (says.unanswered l s x.number (omega (arith, next)))
    ∙ ap (λ b. open_at J p l s ++ cond (same_place x.place p && b) (x ∷ []) []) (and-true (is_by l s x))

confirmed-by : (J : List Entry) (p : Place) (l : List ℕ) (s n : ℕ) (b : Bool) → filter (is_open_but J p l s (cond b (Some n) None)) (publications J) ≡ cond b (filter (λ x. not (x.number == n)) (open_at J p l s)) (open_at J p l s)
confirmed-by J p l s n true =
    filter-same (is_open_but J p l s (Some n)) (λ x. is_open_at J p l s x && not (x.number == n)) (publications J) (open-but_some J p l s n) ∙ sym (filter-both (λ x. not (x.number == n)) (is_open_at J p l s) (publications J))
confirmed-by J p l s n false = filter-same (is_open_but J p l s None) (is_open_at J p l s) (publications J) (open-but_none J p l s)

-- a publication that is confirmed to its session is open no more (RabbitMQ, Publisher Confirms)
pub open-confirmed : (J : List Entry) (p : Place) (l : List ℕ) (s : ℕ) (link : List ℕ) (session n : ℕ) → open_at (J ++ Confirmed link session n ∷ []) p l s ≡ (if same_text link l && (session == s) then filter (λ x. not (x.number == n)) (open_at J p l s) else open_at J p l s)
open-confirmed J p l s link session n =
    ap (filter (is_open_at (J ++ Confirmed link session n ∷ []) p l s)) (publications-same J (Confirmed link session n) refl)
    ∙ filter-same (is_open_at (J ++ Confirmed link session n ∷ []) p l s) (is_open_but J p l s (confirmed_to l s (Confirmed link session n))) (publications J) (open-push J p l s (Confirmed link session n))
    ∙ confirmed-by J p l s n (same_text link l && (session == s))

-- ---- what is open, and what is in flight

numbers-published : (J : List Entry) (l : List ℕ) (s : ℕ) → filter_map (published_by l s) J ≡ map (λ (x : Publication). x.number) (filter (is_by l s) (publications J))
numbers-published [] l s = refl
numbers-published (Published x ∷ J) l s =
    elim (copy_published_by l s x.by) as (λ o. cons_option (number_if x.number o) (filter_map (published_by l s) J) ≡ map (λ (y : Publication). y.number) (cond (is_some o) (x ∷ filter (is_by l s) (publications J)) (filter (is_by l s) (publications J)))) [
      | None ↦ numbers-published J l s
      | Some c ↦ ap (λ ns. x.number ∷ ns) (numbers-published J l s)
    ]
numbers-published (e ∷ J) l s = numbers-published J l s

here-by : (a b c : Bool) → (b ≡ true → a ≡ true) → (b && c) ≡ (a && (b && c))
here-by true b c h = refl
here-by false true c h = absurd (false≢true (h refl))
here-by false false c h = refl

-- what a session that publishes at one place has in flight there is what is open there
pub flight-open : (J : List Entry) (p : Place) (l : List ℕ) (s : ℕ) → ArePublishedAt J p l s → flight_published J l s ≡ map (λ (x : Publication). x.number) (open_at J p l s)
unfolding flight_published
flight-open J p l s here =
    ap (filter (λ n. not (has (confirmed_to l s) n J))) (numbers-published J l s)
    ∙ filter-map (λ (x : Publication). x.number) (λ n. not (has (confirmed_to l s) n J)) (filter (is_by l s) (publications J))
    ∙ ap (map (λ (x : Publication). x.number))
    (filter-both (is_unanswered J l s) (is_by l s) (publications J)
    ∙ filter-alike (λ x. is_by l s x && is_unanswered J l s x) (is_open_at J p l s) (publications J)
    (All-weaker (λ x. is_by l s x ≡ true → same_place x.place p ≡ true) (λ x. (is_by l s x && is_unanswered J l s x) ≡ is_open_at J p l s x) (λ x h. here-by (same_place x.place p) (is_by l s x) (is_unanswered J l s x) h) (publications J) here))

-- ---- what is known of it

-- what is open was published
pub open-known : (J : List Entry) (p : Place) (l : List ℕ) (s : ℕ) → HasPublications J → All (IsKnown J) (open_at J p l s)
open-known J p l s says = All-filter (is_open_at J p l s) (IsKnown J) (publications J) says.known

-- and at the place
pub open-here : (J : List Entry) (p : Place) (l : List ℕ) (s : ℕ) → All (λ x. same_place x.place p ≡ true) (open_at J p l s)
open-here J p l s =
    filter-with (λ x. Unit {0}) (λ x. same_place x.place p ≡ true) (is_open_at J p l s) (λ x _ on. (and_parts (same_place x.place p) (is_by l s x && is_unanswered J l s x) on).0) (publications J) (λ k d within. tt)

rising-filter : (t : Publication → Bool) (xs : List Publication) → Rising xs → Rising (filter t xs)
rising-filter t [] rises = tt
rising-filter t (x ∷ xs) rises =
    elim (t x) as (λ b. Rising (cond b (x ∷ filter t xs) (filter t xs))) [
      | true ↦ (All-filter t (λ (later : Publication). x.number < later.number) xs rises.0, rising-filter t xs rises.1)
      | false ↦ rising-filter t xs rises.1
    ]

-- ---- which may be confirmed next

-- a publication waits for nothing exactly where it is secured (RabbitMQ, Publisher Confirms: when messages are confirmed)
awaits-nothing : (J : List Entry) (x : Publication) → IsKnown J x → waits_for_nothing (awaited J x) ≡ is_secured J x.number
unfolding is_secured
awaits-nothing J x known = none-left (is_copy_secured J) (numbers_from x.first x.queues) ∙ ap (is_secured_at J) (sym known.found)

least-by : (n : ℕ) (o : Option ℕ) → ((m : ℕ) → o ≡ Some m → n < m) → option_map_or (min n) o n ≡ n
least-by n None later = refl
least-by n (Some m) later = omega (arith, later m refl)

found-later : (n m : ℕ) (t : ℕ → Bool) (xs : List Publication) → All (λ later. n < later.number) xs → find t (map (λ (x : Publication). x.number) xs) ≡ Some m → n < m
found-later n m t xs above h = (found (λ k. n < k) t (map (λ (x : Publication). x.number) xs) m (All-map (λ k. n < k) (λ (x : Publication). x.number) xs above) h).1

least-known : (J : List Entry) (xs : List Publication) → All (IsKnown J) xs → Rising xs → least (ready_numbers (map (awaited J) xs)) ≡ find (is_secured J) (map (λ (x : Publication). x.number) xs)
least-known J [] known rises = refl
least-known J (x ∷ xs) known rises =
    let rest : least (ready_numbers (map (awaited J) xs)) ≡ find (is_secured J) (map (λ (y : Publication). y.number) xs) = least-known J xs (All-tail (IsKnown J) x xs known) rises.1 in
    let ready : List Unconfirmed = filter waits_for_nothing (map (awaited J) xs) in
    ap (λ b. least (map (λ (u : Unconfirmed). u.number) (cond b (awaited J x ∷ ready) ready))) (awaits-nothing J x (All-head (IsKnown J) x xs known))
    ∙ elim (is_secured J x.number) as (λ b. least (map (λ (u : Unconfirmed). u.number) (cond b (awaited J x ∷ ready) ready)) ≡ cond b (Some x.number) (find (is_secured J) (map (λ (y : Publication). y.number) xs))) [
      | true ↦ ap (λ o. Some (option_map_or (min x.number) o x.number)) rest ∙ ap Some (least-by x.number (find (is_secured J) (map (λ (y : Publication). y.number) xs)) (λ m h. found-later x.number m (is_secured J) xs rises.0 h))
      | false ↦ rest
    ]

-- confirms are sent in the order of publishing (RabbitMQ, Publisher Confirms: ordering)
pub least-secured : (J : List Entry) (p : Place) (l : List ℕ) (s : ℕ) → HasPublications J → least (ready_numbers (map (awaited J) (open_at J p l s))) ≡ find (is_secured J) (map (λ (x : Publication). x.number) (open_at J p l s))
least-secured J p l s says = least-known J (open_at J p l s) (open-known J p l s says) (rising-filter (is_open_at J p l s) (publications J) says.rising)
