-- The best element of a list: one that fits, that no other that fits stands above, and the first of its rank.
use Rattle.std.proofs.Common.{◌≡◌, ℕ, ◌+◌, Bool, true, false, ◌&&◌, ◌||◌, not, List, [], ◌∷◌, ◌++◌, length, Option, Some, None, option_map, arith, refl, ap, sym, ◌∙◌, subst, append_assoc}
use Rattle.std.specs.List.{list_any, position, position_from}
use Rattle.std.specs.Prelude.{is_some}
use Rattle.std.proofs.lemmas.Bool.{and_parts, and_from, false≢true}
use Rattle.std.proofs.lemmas.Iterator.Adapters.{position_from-zero}
use Rattle.std.proofs.lemmas.List.Folds.{list_any-append}

-- ---- tests that no element passes

or_parts : (a b : Bool) → (a || b) ≡ false → (a ≡ false) × (b ≡ false)
or_parts true b h = absurd (false≢true (sym h))
or_parts false b h = (refl, h)

or_from : (a b : Bool) → a ≡ false → b ≡ false → (a || b) ≡ false
or_from a b p q = rw (p, q)

false_from : (b : Bool) → (b ≡ true → ⊥) → b ≡ false
false_from true never = absurd (never refl)
false_from false never = refl

true_from : (b : Bool) → (b ≡ false → ⊥) → b ≡ true
true_from true never = refl
true_from false never = absurd (never refl)

not_true : (b : Bool) → not b ≡ true → b ≡ false
not_true true h = absurd (false≢true h)
not_true false h = refl

pub none_weaker : {X : Type 0} (s t : X → Bool) → ((x : X) → t x ≡ true → s x ≡ true) → (xs : List X) →
    list_any s xs ≡ false → list_any t xs ≡ false
none_weaker s t implies [] none = refl
none_weaker s t implies (x ∷ xs) none =
    let parts = or_parts (s x) (list_any s xs) none in
    or_from (t x) (list_any t xs)
    (false_from (t x) (λ passes. false≢true (sym parts.0 ∙ implies x passes)))
    (none_weaker s t implies xs parts.1)

pub none_append : {X : Type 0} (t : X → Bool) → (xs ys : List X) → list_any t xs ≡ false → list_any t ys ≡ false →
    list_any t (xs ++ ys) ≡ false
none_append t xs ys p q = list_any-append t xs ys ∙ or_from (list_any t xs) (list_any t ys) p q

none_one : {X : Type 0} (t : X → Bool) → (x : X) → t x ≡ false → list_any t (x ∷ []) ≡ false
none_one t x h = or_from (t x) false h refl

-- the element in the middle fails a test that none passes
middle_fails : {X : Type 0} (t : X → Bool) → (before : List X) (x : X) (after : List X) →
    list_any t (before ++ x ∷ after) ≡ false → t x ≡ false
middle_fails t before x after none =
    let parts = or_parts (list_any t before) (list_any t (x ∷ after)) (sym (list_any-append t before (x ∷ after)) ∙ none) in
    (or_parts (t x) (list_any t after) parts.1).0

-- the place of the first that passes
from_none : {X : Type 0} (t : X → Bool) → (i : ℕ) (xs : List X) → list_any t xs ≡ false → position_from t i xs ≡ None
from_none t i [] none = refl
from_none t i (x ∷ xs) none =
    let parts = or_parts (t x) (list_any t xs) none in
    rw parts.0 (from_none t (i + 1) xs parts.1)

from_middle : {X : Type 0} (t : X → Bool) → (i : ℕ) (before : List X) (x : X) (after : List X) →
    list_any t before ≡ false → t x ≡ true → position_from t i (before ++ x ∷ after) ≡ Some (i + length before)
from_middle t i [] x after none passes = rw passes (ap (λ n. Some n) (omega arith))
from_middle t i (b ∷ before) x after none passes =
    let parts = or_parts (t b) (list_any t before) none in
    rw parts.0 (from_middle t (i + 1) before x after parts.1 passes ∙ ap (λ n. Some n) (omega arith))

-- ---- ranks

-- the laws of standing above
pub record IsRanking {X : Type 0} (above : X → X → Bool) : Type 0 where
  pub irreflexive : (x : X) → above x x ≡ false
  pub asymmetric : (x y : X) → above x y ≡ true → above y x ≡ false
  pub transitive : (x y z : X) → above x y ≡ false → above y z ≡ false → above x z ≡ false

-- what x does not stand above stands above what x stands above
between : {X : Type 0} {above : X → X → Bool} → IsRanking above → (x q p : X) → above x p ≡ true → above x q ≡ false →
    above q p ≡ true
between laws x q p higher lower =
    true_from _ (λ fails. false≢true (sym (laws.transitive x q p lower fails) ∙ higher))

-- the element is the best of the list, at this place
pub record IsBest {X : Type 0} (fit : X → Bool) (above : X → X → Bool) (xs : List X) (best : ℕ × X) : Type 0 where
  pub before : List X
  pub after : List X
  pub split : xs ≡ before ++ best.1 ∷ after
  pub place : best.0 ≡ length before
  pub fits : fit best.1 ≡ true
  pub first : list_any (λ q. fit q && not (above best.1 q)) before ≡ false
  pub highest : list_any (λ q. fit q && above q best.1) after ≡ false

-- the best of the list, or none where none fits
abbrev pub IsBestOf : {X : Type 0} → (X → Bool) → (X → X → Bool) → List X → Option (ℕ × X) → Type 0
IsBestOf fit above xs None = list_any fit xs ≡ false
IsBestOf fit above xs (Some best) = IsBest fit above xs best

-- x takes the place of the best so far
abbrev pub replaces : {X : Type 0} → (X → X → Bool) → X → Option (ℕ × X) → Bool
replaces above x None = true
replaces above x (Some best) = above x best.1

-- an element that doesn't leaves the best as it is
pub best_kept : {X : Type 0} (fit : X → Bool) (above : X → X → Bool) (xs : List X) (x : X) (best : Option (ℕ × X)) →
    IsBestOf fit above xs best → (fit x && replaces above x best) ≡ false → IsBestOf fit above (xs ++ x ∷ []) best
best_kept fit above xs x None none lower =
    none_append fit xs (x ∷ []) none
    (none_one fit x (false_from (fit x) (λ fits. false≢true (sym lower ∙ and_from (fit x) true fits refl))))
best_kept fit above xs x (Some best) is lower = record {
  before = is.before;
  after = is.after ++ x ∷ [];
  split = ap (λ ys. ys ++ x ∷ []) is.split ∙ append_assoc is.before (best.1 ∷ is.after) (x ∷ []);
  place = is.place;
  fits = is.fits;
  first = is.first;
  highest = none_append (λ q. fit q && above q best.1) is.after (x ∷ []) is.highest
      (none_one (λ q. fit q && above q best.1) x lower);
}

-- one that does is the best from then on
pub best_replaced : {X : Type 0} (fit : X → Bool) (above : X → X → Bool) → IsRanking above → (xs : List X) (x : X)
    (best : Option (ℕ × X)) → IsBestOf fit above xs best → (fit x && replaces above x best) ≡ true →
    IsBestOf fit above (xs ++ x ∷ []) (Some (length xs, x))
best_replaced fit above laws xs x None none higher = record {
  before = xs;
  after = [];
  split = refl;
  place = refl;
  fits = (and_parts (fit x) true higher).0;
  first = none_weaker fit (λ q. fit q && not (above x q)) (λ q h. (and_parts (fit q) (not (above x q)) h).0) xs none;
  highest = refl;
}
best_replaced {X} fit above laws xs x (Some best) is higher =
    let p = best.1 in
    let over = (and_parts (fit x) (above x p) higher).1 in
    let test : X → Bool = λ q. fit q && not (above x q) in
    let under : (q : X) → test q ≡ true → (fit q ≡ true) × (above q p ≡ true) = λ q h.
    let parts = and_parts (fit q) (not (above x q)) h in
    (parts.0, between laws x q p over (not_true (above x q) parts.1)) in
    let in_before = none_weaker (λ q. fit q && not (above p q)) test
    (λ q h. and_from (fit q) (not (above p q)) (under q h).0 (ap not (laws.asymmetric q p (under q h).1)))
    is.before is.first in
    let in_after = none_weaker (λ q. fit q && above q p) test
    (λ q h. and_from (fit q) (above q p) (under q h).0 (under q h).1)
    is.after is.highest in
    let at_best : test p ≡ false = false_from (test p) (λ h. false≢true (sym (laws.irreflexive p) ∙ (under p h).1)) in
    record {
      before = xs;
      after = [];
      split = refl;
      place = refl;
      fits = (and_parts (fit x) (above x p) higher).0;
      first = subst (λ ys. list_any test ys ≡ false) (sym is.split)
          (none_append test is.before (p ∷ is.after) in_before (or_from (test p) (list_any test is.after) at_best in_after));
      highest = refl;
    }

-- the best is the first that fits and that none that fits stands above
pub position_best : {X : Type 0} (fit : X → Bool) (above : X → X → Bool) → IsRanking above → (xs : List X)
    (best : Option (ℕ × X)) → IsBestOf fit above xs best →
    position (λ p. fit p && not (list_any (λ q. fit q && above q p) xs)) xs ≡ option_map (λ b. b.0) best
position_best {X} fit above laws xs None none =
    let test : X → Bool = λ p. fit p && not (list_any (λ q. fit q && above q p) xs) in
    position_from-zero test xs
    ∙ from_none test 0 xs (none_weaker fit test (λ p h. (and_parts (fit p) _ h).0) xs none)
position_best {X} fit above laws xs (Some best) is =
    let p = best.1 in
    let test : X → Bool = λ r. fit r && not (list_any (λ q. fit q && above q r) xs) in
    let higher : X → Bool = λ q. fit q && above q p in
    let in_before = none_weaker (λ q. fit q && not (above p q)) higher
    (λ q h. let parts = and_parts (fit q) (above q p) h in
    and_from (fit q) (not (above p q)) parts.0 (ap not (laws.asymmetric q p parts.1)))
    is.before is.first in
    let at_best : higher p ≡ false =
    false_from (higher p) (λ h. false≢true (sym (laws.irreflexive p) ∙ (and_parts (fit p) (above p p) h).1)) in
    let none_higher : list_any higher xs ≡ false = subst (λ ys. list_any higher ys ≡ false) (sym is.split)
    (none_append higher is.before (p ∷ is.after) in_before
    (or_from (higher p) (list_any higher is.after) at_best is.highest)) in
    let others_fail = none_weaker (λ q. fit q && not (above p q)) test
    (λ q h. let parts = and_parts (fit q) (not (list_any (λ r. fit r && above r q) xs)) h in
    let no_higher = subst (λ ys. list_any (λ r. fit r && above r q) ys ≡ false) is.split (not_true _ parts.1) in
    let not_best = middle_fails (λ r. fit r && above r q) is.before p is.after no_higher in
    and_from (fit q) (not (above p q)) parts.0
    (ap not (false_from (above p q) (λ over. false≢true (sym not_best ∙ and_from (fit p) (above p q) is.fits over)))))
    is.before is.first in
    let passes : test p ≡ true = and_from (fit p) (not (list_any higher xs)) is.fits (ap not none_higher) in
    position_from-zero test xs
    ∙ ap (λ ys. position_from test 0 ys) is.split
    ∙ from_middle test 0 is.before p is.after others_fail passes
    ∙ ap (λ n. Some n) (omega (arith, is.place))

-- there is a best exactly where one fits
pub is_some_best_of : {X : Type 0} (fit : X → Bool) (above : X → X → Bool) (xs : List X) (best : Option (ℕ × X)) →
    IsBestOf fit above xs best → is_some best ≡ list_any fit xs
is_some_best_of fit above xs None none = sym none
is_some_best_of fit above xs (Some best) is =
    sym (true_from (list_any fit xs) (λ none. false≢true
    (sym (middle_fails fit is.before best.1 is.after (subst (λ ys. list_any fit ys ≡ false) is.split none)) ∙ is.fits)))
