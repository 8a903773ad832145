-- What is left of a list from an index on, and the places in a filtered list.
use Rattle.std.proofs.Common.{◌≡◌, ℕ, zero, suc, ◌+◌, ◌<◌, ◌≤◌, Bool, true, false, cond, List, [], ◌∷◌, Some, None, Option, ◌++◌, length, take, drop, get_or, refl, ap, sym, ◌∙◌, subst, arith}
use Rattle.std.proofs.lemmas.Bool.{true≢false, false≢true}
use Rattle.std.specs.Prelude.{filter, slice_get, All}
use Rattle.std.specs.List.{filter_map, cons_option, Contains, AllPairs}
use Rattle.std.proofs.lemmas.List.Elements.{All-nil, All-cons, All-head, All-tail, All-weaker}
use Rattle.std.proofs.lemmas.List.Kept.{AllPairs-cons}
use Rattle.std.proofs.lemmas.List.{drop_more, drop_all, take_more}

pub from_item : {X : Type 0} (xs : List X) (i : ℕ) (x : X) → i < length xs → x ≡ get_or xs i x → drop i xs ≡ x ∷ drop (i + 1) xs
from_item {X} xs i x lt e = drop_more xs i x lt ∙ ap (λ (y : X). y ∷ drop (i + 1) xs) (sym e)

-- the item doesn't pass
pub at_skip : {X : Type 0} (p : X → Bool) (x : X) (ds rest : List X) (n : ℕ) → ds ≡ x ∷ rest → p x ≡ false → slice_get (filter p ds) n ≡ slice_get (filter p rest) n
at_skip {X} p x ds rest n e h =
    ap (λ (ys : List X). slice_get (filter p ys) n) e ∙ ap (λ b. slice_get (cond b (x ∷ filter p rest) (filter p rest)) n) h

-- the item passes, and is the one
pub at_here : {X : Type 0} (p : X → Bool) (x : X) (ds rest : List X) → ds ≡ x ∷ rest → p x ≡ true → slice_get (filter p ds) 0 ≡ Some x
at_here {X} p x ds rest e h =
    ap (λ (ys : List X). slice_get (filter p ys) 0) e ∙ ap (λ b. slice_get (cond b (x ∷ filter p rest) (filter p rest)) 0) h

-- the item passes, and is not the one
pub at_more : {X : Type 0} (p : X → Bool) (x : X) (ds rest : List X) (n m : ℕ) → ds ≡ x ∷ rest → p x ≡ true → m ≡ suc n → slice_get (filter p rest) n ≡ slice_get (filter p ds) m
at_more {X} p x ds rest n m e h is =
    sym (ap (λ k. slice_get (filter p ds) k) is ∙ ap (λ (ys : List X). slice_get (filter p ys) (suc n)) e ∙ ap (λ b. slice_get (cond b (x ∷ filter p rest) (filter p rest)) (suc n)) h)

-- no item is left
pub at_end : {X : Type 0} (p : X → Bool) (i : ℕ) (xs : List X) (n : ℕ) → length xs ≤ i → None ≡ slice_get (filter p (drop i xs)) n
at_end {X} p i xs n h = sym (ap (λ (ys : List X). slice_get (filter p ys) n) (drop_all i xs h))

-- ---- filters that keep less

step_le : {X : Type 0} (a b : Bool) (x : X) (ps qs : List X) → (a ≡ true → b ≡ true) → length ps ≤ length qs → length (cond a (x ∷ ps) ps) ≤ length (cond b (x ∷ qs) qs)
step_le true true x ps qs f h = omega arith
step_le true false x ps qs f h = absurd (false≢true (f refl))
step_le false true x ps qs f h = omega arith
step_le false false x ps qs f h = h

pub filter_le : {X : Type 0} (p q : X → Bool) → ((x : X) → p x ≡ true → q x ≡ true) → (xs : List X) → length (filter p xs) ≤ length (filter q xs)
filter_le p q f [] = omega arith
filter_le p q f (x ∷ xs) = step_le (p x) (q x) x (filter p xs) (filter q xs) (f x) (filter_le p q f xs)

step_less : {X : Type 0} (a b : Bool) (x : X) (ps qs : List X) → (a ≡ true → b ≡ true) → length ps + 1 ≤ length qs → length (cond a (x ∷ ps) ps) + 1 ≤ length (cond b (x ∷ qs) qs)
step_less true true x ps qs f h = omega arith
step_less true false x ps qs f h = absurd (false≢true (f refl))
step_less false true x ps qs f h = omega arith
step_less false false x ps qs f h = h

here_less : {X : Type 0} (a b : Bool) (x : X) (ps qs : List X) → a ≡ false → b ≡ true → length ps ≤ length qs → length (cond a (x ∷ ps) ps) + 1 ≤ length (cond b (x ∷ qs) qs)
here_less true b x ps qs e f h = absurd (true≢false e)
here_less false true x ps qs e f h = omega arith
here_less false false x ps qs e f h = absurd (false≢true f)

pub filter_less_at : {X : Type 0} (p q : X → Bool) → ((x : X) → p x ≡ true → q x ≡ true) → (xs : List X) (k : ℕ) (x : X) → k < length xs → get_or xs k x ≡ x → p x ≡ false → q x ≡ true → length (filter p xs) + 1 ≤ length (filter q xs)
filter_less_at p q f [] k x lt e off on = absurd (omega arith)
filter_less_at p q f (y ∷ ys) zero x lt e off on =
    here_less (p y) (q y) y (filter p ys) (filter q ys) (ap p e ∙ off) (ap q e ∙ on) (filter_le p q f ys)
filter_less_at p q f (y ∷ ys) (suc k) x lt e off on =
    step_less (p y) (q y) y (filter p ys) (filter q ys) (f y) (filter_less_at p q f ys k x (omega arith) e off on)

pub filter_less : {X : Type 0} (p q : X → Bool) → ((x : X) → p x ≡ true → q x ≡ true) → (xs : List X) (x : X) → Contains xs x → p x ≡ false → q x ≡ true → length (filter p xs) + 1 ≤ length (filter q xs)
filter_less p q f xs x c off on = filter_less_at p q f xs c.0 x c.1 c.2 off on

-- ---- an item that passes is kept

kept_here : {X : Type 0} (x : X) (ys : List X) (t : Bool) → t ≡ true → Contains (cond t (x ∷ ys) ys) x
kept_here x ys true h = (0, omega arith, refl)
kept_here x ys false h = absurd (false≢true h)

kept_there : {X : Type 0} (z : X) (ys : List X) (t : Bool) (x : X) → Contains ys x → Contains (cond t (z ∷ ys) ys) x
kept_there z ys true x c = (suc c.0, omega (arith, c.1), c.2)
kept_there z ys false x c = c

kept_at : {X : Type 0} (test : X → Bool) (xs : List X) (k : ℕ) (x : X) → k < length xs → get_or xs k x ≡ x → test x ≡ true → Contains (filter test xs) x
kept_at test [] k x lt e on = absurd (omega arith)
kept_at {X} test (z ∷ xs) zero x lt e on =
    subst (λ (y : X). Contains (filter test (z ∷ xs)) y) e (kept_here z (filter test xs) (test z) (ap test e ∙ on))
kept_at test (z ∷ xs) (suc k) x lt e on = kept_there z (filter test xs) (test z) x (kept_at test xs k x (omega arith) e on)

pub Contains-filter : {X : Type 0} (test : X → Bool) (xs : List X) (x : X) → Contains xs x → test x ≡ true → Contains (filter test xs) x
Contains-filter test xs x c on = kept_at test xs c.0 x c.1 c.2 on

-- ---- what `filter_map` gives

pub All-filter_map : {X Y : Type 0} (Q : Y → Type 0) (f : X → Option Y) (xs : List X) → All (λ x. (y : Y) → f x ≡ Some y → Q y) xs → All Q (filter_map f xs)
All-filter_map Q f [] h = All-nil Q
All-filter_map {X} {Y} Q f (x ∷ xs) h =
    let rest : All Q (filter_map f xs) = All-filter_map Q f xs (All-tail (λ (z : X). (y : Y) → f z ≡ Some y → Q y) x xs h) in
    let first : (y : Y) → f x ≡ Some y → Q y = All-head (λ (z : X). (y : Y) → f z ≡ Some y → Q y) x xs h in
    elim (f x) as (λ o. ((y : Y) → o ≡ Some y → Q y) → All Q (cons_option o (filter_map f xs))) [
      | None ↦ (λ _. rest)
      | Some y ↦ (λ g. All-cons Q y (filter_map f xs) (g y refl) rest)
    ] first

there : {Y : Type 0} (o : Option Y) (ys : List Y) (y : Y) → Contains ys y → Contains (cons_option o ys) y
there None ys y c = c
there (Some z) ys y c = (suc c.0, omega (arith, c.1), c.2)

here : {Y : Type 0} (o : Option Y) (ys : List Y) (y : Y) → o ≡ Some y → Contains (cons_option o ys) y
here None ys y e = cc
here (Some z) ys y e = (0, omega arith, cc)

filter_map_at : {X Y : Type 0} (f : X → Option Y) (xs : List X) (k : ℕ) (x : X) (y : Y) → k < length xs → get_or xs k x ≡ x → f x ≡ Some y → Contains (filter_map f xs) y
filter_map_at f [] k x y lt e is = absurd (omega arith)
filter_map_at f (z ∷ zs) zero x y lt e is = here (f z) (filter_map f zs) y (ap f e ∙ is)
filter_map_at f (z ∷ zs) (suc k) x y lt e is = there (f z) (filter_map f zs) y (filter_map_at f zs k x y (omega arith) e is)

pub Contains-filter_map : {X Y : Type 0} (f : X → Option Y) (xs : List X) (x : X) (y : Y) → Contains xs x → f x ≡ Some y → Contains (filter_map f xs) y
Contains-filter_map f xs x y c is = filter_map_at f xs c.0 x y c.1 c.2 is

pairs_head : {X : Type 0} (R : X → X → Type 0) (x : X) (xs : List X) → AllPairs R (x ∷ xs) → All (R x) xs
pairs_head R x xs h = λ k d lt. h 0 (suc k) d (omega arith) (omega arith)

pairs_tail : {X : Type 0} (R : X → X → Type 0) (x : X) (xs : List X) → AllPairs R (x ∷ xs) → AllPairs R xs
pairs_tail R x xs h = λ i j d lt within. h (suc i) (suc j) d (omega arith) (omega arith)

pub rising-filter_map : {X : Type 0} (R : X → X → Type 0) (f : X → Option ℕ) → ((x y : X) (m n : ℕ) → R x y → f x ≡ Some m → f y ≡ Some n → m < n) → (xs : List X) → AllPairs R xs → AllPairs (λ m n. m < n) (filter_map f xs)
rising-filter_map R f up [] h = λ i j d lt within. absurd (omega arith)
rising-filter_map {X} R f up (x ∷ xs) h =
    let rest : AllPairs (λ m n. m < n) (filter_map f xs) = rising-filter_map R f up xs (pairs_tail R x xs h) in
    let later : All (R x) xs = pairs_head R x xs h in
    elim (f x) as (λ o. f x ≡ o → AllPairs (λ m n. m < n) (cons_option o (filter_map f xs))) [
      | None ↦ (λ _. rest)
      | Some m ↦ (λ e. AllPairs-cons (λ m n. m < n) m (filter_map f xs) (All-filter_map (λ n. m < n) f xs (All-weaker (R x) (λ (y : X). (n : ℕ) → f y ≡ Some n → m < n) (λ y r n is. up x y m n r e is) xs later)) rest)
    ] refl

-- one more item is taken
pub take_step : {X : Type 0} (xs : List X) (i : ℕ) (x : X) → i < length xs → x ≡ get_or xs i x → take (i + 1) xs ≡ take i xs ++ x ∷ []
take_step {X} xs i x lt e = take_more xs i x lt ∙ ap (λ (y : X). take i xs ++ y ∷ []) (sym e)
