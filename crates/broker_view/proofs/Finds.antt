-- What `find` and `position` give of a list that grows or shrinks.
use Rattle.std.proofs.Common.{◌≡◌, ℕ, ◌+◌, Bool, true, false, cond, not, ◌||◌, List, [], ◌∷◌, ◌++◌, Option, Some, None, All, filter, find, length, position, unwrap_or, refl, sym, ap, subst, ◌∙◌, arith}
use Rattle.std.specs.List.{list_any, position_from}
use Rattle.std.proofs.lemmas.Bool.{true≢false, false≢true, or_parts}
use Rattle.std.proofs.lemmas.Option.{none-some, same_Some}
use Rattle.std.proofs.lemmas.Iterator.Adapters.{position_from-zero}
use Rattle.std.proofs.lemmas.List.Elements.{All-nil, All-cons, All-head, All-tail}
use Rattle.broker_view.proofs.Tables.{none-filter}

pub find-any : {X : Type 0} (p : X → Bool) (xs : List X) → find p xs ≡ None → list_any p xs ≡ false
find-any p [] h = refl
find-any {X} p (x ∷ xs) h =
    elim (p x) as (λ b. cond b (Some x) (find p xs) ≡ None → (b || list_any p xs) ≡ false) [
      | true ↦ (λ some. absurd (none-some x (sym some)))
      | false ↦ find-any p xs
    ] h

pub any-find : {X : Type 0} (p : X → Bool) (xs : List X) → list_any p xs ≡ false → find p xs ≡ None
any-find p [] h = refl
any-find p (x ∷ xs) h =
    elim (p x) as (λ b. (b || list_any p xs) ≡ false → cond b (Some x) (find p xs) ≡ None) [
      | true ↦ (λ some. absurd (true≢false some))
      | false ↦ any-find p xs
    ] h

pub any-all : {X : Type 0} (p : X → Bool) (xs : List X) → list_any p xs ≡ false → All (λ x. p x ≡ false) xs
any-all p [] h = All-nil (λ x. p x ≡ false)
any-all p (x ∷ xs) h =
    let parts : (p x ≡ false) × (list_any p xs ≡ false) = or_parts (p x) (list_any p xs) h in
    All-cons (λ x. p x ≡ false) x xs parts.0 (any-all p xs parts.1)

found-by : {X : Type 0} (P : X → Type 0) (p : X → Bool) (y x : X) (xs : List X) (b : Bool) → p y ≡ b → P y → cond b (Some y) (find p xs) ≡ Some x → (find p xs ≡ Some x → (p x ≡ true) × P x) → (p x ≡ true) × P x
found-by P p y x xs true on holds h later = let same : y ≡ x = same_Some y x h in (subst (λ z. p z ≡ true) same on, subst P same holds)
found-by P p y x xs false off holds h later = later h

-- what is found passes the test, and what holds for all holds for it
pub found : {X : Type 0} (P : X → Type 0) (p : X → Bool) (xs : List X) (x : X) → All P xs → find p xs ≡ Some x → (p x ≡ true) × P x
found P p [] x all h = absurd (none-some x h)
found P p (y ∷ xs) x all h =
    found-by P p y x xs (p y) refl (All-head P y xs all) h (found P p xs x (All-tail P y xs all))

each : {X : Type 0} (xs : List X) → All (λ x. Unit {0}) xs
each [] = All-nil (λ x. Unit {0})
each (x ∷ xs) = All-cons (λ x. Unit {0}) x xs tt (each xs)

pub found-passes : {X : Type 0} (p : X → Bool) (xs : List X) (x : X) → find p xs ≡ Some x → p x ≡ true
found-passes p xs x h = (found (λ y. Unit {0}) p xs x (each xs) h).0

-- the test passes at one element at most
abbrev pub Once : {X : Type 0} → (X → Bool) → List X → Type 0
Once p [] = Unit {0}
Once p (x ∷ xs) = (p x ≡ true → list_any p xs ≡ false) × Once p xs

-- what was found, unless the test passes at it
abbrev pub unless_it : {X : Type 0} → (X → Bool) → Option X → Option X
unless_it q None = None
unless_it q (Some x) = cond (q x) None (Some x)

filtered-by : {X : Type 0} (p q : X → Bool) (x : X) (xs : List X) (b c : Bool) → p x ≡ b → q x ≡ c → (p x ≡ true → list_any p xs ≡ false) → find p (filter (λ y. not (q y)) xs) ≡ unless_it q (find p xs) → find p (cond (not c) (x ∷ filter (λ y. not (q y)) xs) (filter (λ y. not (q y)) xs)) ≡ unless_it q (cond b (Some x) (find p xs))
filtered-by p q x xs true true on gone once later =
    any-find p (filter (λ y. not (q y)) xs) (none-filter p (λ y. not (q y)) xs (once on)) ∙ sym (ap (λ c. cond c None (Some x)) gone)
filtered-by p q x xs true false on kept once later =
    ap (λ b. cond b (Some x) (find p (filter (λ y. not (q y)) xs))) on ∙ sym (ap (λ c. cond c None (Some x)) kept)
filtered-by p q x xs false true off gone once later = later
filtered-by p q x xs false false off kept once later = ap (λ b. cond b (Some x) (find p (filter (λ y. not (q y)) xs))) off ∙ later

-- what passes the test at which one passes at most goes where it goes from the list
pub find-filtered : {X : Type 0} (p q : X → Bool) (xs : List X) → Once p xs → find p (filter (λ x. not (q x)) xs) ≡ unless_it q (find p xs)
find-filtered p q [] once = refl
find-filtered p q (x ∷ xs) once = filtered-by p q x xs (p x) (q x) refl refl once.0 (find-filtered p q xs once.1)

-- ---- positions

from-longer : {X : Type 0} (p : X → Bool) (i n : ℕ) (xs ys : List X) → position_from p i xs ≡ Some n → position_from p i (xs ++ ys) ≡ Some n
from-longer p i n [] ys h = absurd (none-some n h)
from-longer p i n (x ∷ xs) ys h =
    elim (p x) as (λ b. cond b (Some i) (position_from p (i + 1) xs) ≡ Some n → cond b (Some i) (position_from p (i + 1) (xs ++ ys)) ≡ Some n) [
      | true ↦ (λ same. same)
      | false ↦ from-longer p (i + 1) n xs ys
    ] h

pub position-longer : {X : Type 0} (p : X → Bool) (n : ℕ) (xs ys : List X) → position p xs ≡ Some n → position p (xs ++ ys) ≡ Some n
position-longer p n xs ys h = position_from-zero p (xs ++ ys) ∙ from-longer p 0 n xs ys (sym (position_from-zero p xs) ∙ h)

from-push : {X : Type 0} (p : X → Bool) (i : ℕ) (xs : List X) (y : X) → list_any p xs ≡ false → p y ≡ true → position_from p i (xs ++ y ∷ []) ≡ Some (i + length xs)
from-push p i [] y none on = ap (λ b. cond b (Some i) None) on ∙ ap Some (omega arith)
from-push p i (x ∷ xs) y none on =
    let parts : (p x ≡ false) × (list_any p xs ≡ false) = or_parts (p x) (list_any p xs) none in
    ap (λ b. cond b (Some i) (position_from p (i + 1) (xs ++ y ∷ []))) parts.0 ∙ from-push p (i + 1) xs y parts.1 on ∙ ap Some (omega arith)

pub from-none : {X : Type 0} (p : X → Bool) (i : ℕ) (xs : List X) → list_any p xs ≡ false → position_from p i xs ≡ None
from-none p i [] none = refl
from-none p i (x ∷ xs) none =
    let parts : (p x ≡ false) × (list_any p xs ≡ false) = or_parts (p x) (list_any p xs) none in
    ap (λ b. cond b (Some i) (position_from p (i + 1) xs)) parts.0 ∙ from-none p (i + 1) xs parts.1

from-some : {X : Type 0} (p : X → Bool) (i d : ℕ) (xs : List X) → list_any p xs ≡ true → position_from p i xs ≡ Some (unwrap_or (position_from p i xs) d)
from-some p i d [] some = absurd (false≢true some)
from-some p i d (x ∷ xs) some =
    elim (p x) as (λ b. (b || list_any p xs) ≡ true → cond b (Some i) (position_from p (i + 1) xs) ≡ Some (unwrap_or (cond b (Some i) (position_from p (i + 1) xs)) d)) [
      | true ↦ (λ _. refl)
      | false ↦ from-some p (i + 1) d xs
    ] some

pub position-some : {X : Type 0} (p : X → Bool) (d : ℕ) (xs : List X) → list_any p xs ≡ true → position p xs ≡ Some (unwrap_or (position p xs) d)
position-some p d xs some =
    position_from-zero p xs ∙ from-some p 0 d xs some ∙ sym (ap (λ o. Some (unwrap_or o d)) (position_from-zero p xs))

-- the first at which it passes is the one more
pub position-push : {X : Type 0} (p : X → Bool) (xs : List X) (y : X) → list_any p xs ≡ false → p y ≡ true → position p (xs ++ y ∷ []) ≡ Some (unwrap_or (position p xs) (length xs))
position-push p xs y none on =
    position_from-zero p (xs ++ y ∷ []) ∙ from-push p 0 xs y none on ∙ ap Some (omega arith) ∙ sym (ap (λ o. Some (unwrap_or o (length xs))) (position_from-zero p xs ∙ from-none p 0 xs none))
