-- Where an element stands in a list.
use Rattle.std.proofs.Common.{◌≡◌, List, [], ◌∷◌, ◌++◌, Bool, true, false, Option, Some, None, refl, sym, subst, ap, ◌⊎◌, inl, inr}
use Rattle.std.specs.Prelude.{flat_map, ◌||◌, cond, slice_get, find, filter, filter_map}
use Rattle.std.specs.List.{list_any, cons_option}
use Rattle.std.proofs.lemmas.Bool.{false≢true, or_right}
use Rattle.std.proofs.lemmas.Option.{none-some, same_Some}

-- x is an element of the list
abbrev pub IsIn : {X : Type 0} → X → List X → Type 0
IsIn x [] = ⊥
IsIn x (y ∷ ys) = (y ≡ x) ⊎ IsIn x ys

-- the list is split at an element for which P holds
pub record Split {X : Type 0} (P : X → Type 0) (xs : List X) : Type 0 where
  pub before : List X
  pub at : X
  pub rest : List X
  pub whole : xs ≡ before ++ at ∷ rest
  pub holds : P at

split-cons : {X : Type 0} (P : X → Type 0) (x : X) (xs : List X) → Split P xs → Split P (x ∷ xs)
split-cons P x xs s = record { before = x ∷ s.before; at = s.at; rest = s.rest; whole = ap (λ ys. x ∷ ys) s.whole; holds = s.holds }

split-head : {X : Type 0} (P : X → Type 0) (x : X) (xs : List X) → P x → Split P (x ∷ xs)
split-head P x xs h = record { before = []; at = x; rest = xs; whole = refl; holds = h }

pub in-middle : {X : Type 0} (x : X) (xs ys : List X) → IsIn x (xs ++ x ∷ ys)
in-middle x [] ys = inl refl
in-middle x (z ∷ xs) ys = inr (in-middle x xs ys)

pub in-longer : {X : Type 0} (x : X) (xs ys : List X) → IsIn x xs → IsIn x (xs ++ ys)
in-longer x [] ys h = absurd h
in-longer x (z ∷ xs) ys (inl e) = inl e
in-longer x (z ∷ xs) ys (inr h) = inr (in-longer x xs ys h)

pub in-push_cases : {X : Type 0} (x y : X) (xs : List X) → IsIn x (xs ++ y ∷ []) → IsIn x xs ⊎ (y ≡ x)
in-push_cases x y [] (inl e) = inr e
in-push_cases x y [] (inr h) = absurd h
in-push_cases x y (z ∷ xs) (inl e) = inl (inl e)
in-push_cases x y (z ∷ xs) (inr h) = elim (in-push_cases x y xs h) [ inl k ↦ inl (inr k) | inr e ↦ inr e ]

-- the first of the list is in it
pub first-in : {X : Type 0} (x : X) (xs : List X) → slice_get xs 0 ≡ Some x → IsIn x xs
first-in x [] h = absurd (none-some x h)
first-in x (y ∷ ys) h = inl (same_Some y x h)

find-by : {X : Type 0} (p : X → Bool) (x y : X) (ys : List X) (b : Bool) → p y ≡ b → cond b (Some y) (find p ys) ≡ Some x → (find p ys ≡ Some x → (p x ≡ true) × IsIn x ys) → (p x ≡ true) × IsIn x (y ∷ ys)
find-by p x y ys true e h later = let same : y ≡ x = same_Some y x h in (subst (λ z. p z ≡ true) same e, inl same)
find-by p x y ys false e h later = let found : (p x ≡ true) × IsIn x ys = later h in (found.0, inr found.1)

pub find-in : {X : Type 0} (p : X → Bool) (x : X) (xs : List X) → find p xs ≡ Some x → (p x ≡ true) × IsIn x xs
find-in p x [] h = absurd (none-some x h)
find-in p x (y ∷ ys) h = find-by p x y ys (p y) refl h (find-in p x ys)

filter-by : {X : Type 0} (p : X → Bool) (x y : X) (ys : List X) (b : Bool) → p y ≡ b → IsIn x (cond b (y ∷ filter p ys) (filter p ys)) → (IsIn x (filter p ys) → (p x ≡ true) × IsIn x ys) → (p x ≡ true) × IsIn x (y ∷ ys)
filter-by p x y ys true e (inl same) later = (subst (λ z. p z ≡ true) same e, inl same)
filter-by p x y ys true e (inr h) later = let found : (p x ≡ true) × IsIn x ys = later h in (found.0, inr found.1)
filter-by p x y ys false e h later = let found : (p x ≡ true) × IsIn x ys = later h in (found.0, inr found.1)

pub filter-in : {X : Type 0} (p : X → Bool) (x : X) (xs : List X) → IsIn x (filter p xs) → (p x ≡ true) × IsIn x xs
filter-in p x [] h = absurd h
filter-in p x (y ∷ ys) h = filter-by p x y ys (p y) refl h (filter-in p x ys)

filter_map-by : {X Y : Type 0} (f : X → Option Y) (y : Y) (x : X) (xs : List X) (o : Option Y) → f x ≡ o → IsIn y (cons_option o (filter_map f xs)) → (IsIn y (filter_map f xs) → Split (λ z. f z ≡ Some y) xs) → Split (λ z. f z ≡ Some y) (x ∷ xs)
filter_map-by f y x xs None e h later = split-cons (λ z. f z ≡ Some y) x xs (later h)
filter_map-by f y x xs (Some z) e (inl same) later = split-head (λ z. f z ≡ Some y) x xs (subst (λ w. f x ≡ Some w) same e)
filter_map-by f y x xs (Some z) e (inr h) later = split-cons (λ z. f z ≡ Some y) x xs (later h)

-- what a list gives comes from one of its elements
pub filter_map-in : {X Y : Type 0} (f : X → Option Y) (y : Y) (xs : List X) → IsIn y (filter_map f xs) → Split (λ z. f z ≡ Some y) xs
filter_map-in f y [] h = absurd h
filter_map-in f y (x ∷ xs) h = filter_map-by f y x xs (f x) refl h (filter_map-in f y xs)

any-by : {X : Type 0} (p : X → Bool) (x : X) (xs : List X) (b : Bool) → p x ≡ b → (b || list_any p xs) ≡ true → (list_any p xs ≡ true → Split (λ z. p z ≡ true) xs) → Split (λ z. p z ≡ true) (x ∷ xs)
any-by p x xs true e h later = split-head (λ z. p z ≡ true) x xs e
any-by p x xs false e h later = split-cons (λ z. p z ≡ true) x xs (later h)

pub any-split : {X : Type 0} (p : X → Bool) (xs : List X) → list_any p xs ≡ true → Split (λ z. p z ≡ true) xs
any-split p [] h = absurd (false≢true h)
any-split p (x ∷ xs) h = any-by p x xs (p x) refl h (any-split p xs)

pub any-middle : {X : Type 0} (p : X → Bool) (x : X) (xs ys : List X) → p x ≡ true → list_any p (xs ++ x ∷ ys) ≡ true
any-middle p x [] ys h = subst (λ b. (b || list_any p ys) ≡ true) (sym h) refl
any-middle p x (z ∷ xs) ys h = or_right (p z) (list_any p (xs ++ x ∷ ys)) (any-middle p x xs ys h)

pub in-split : {X : Type 0} (x : X) (xs : List X) → IsIn x xs → (before : List X) × (rest : List X) × (xs ≡ before ++ x ∷ rest)
in-split x [] h = absurd h
in-split x (y ∷ ys) (inl e) = ([], ys, ap (λ z. z ∷ ys) e)
in-split {X} x (y ∷ ys) (inr h) =
    let s : (before : List X) × (rest : List X) × (ys ≡ before ++ x ∷ rest) = in-split x ys h in
    (y ∷ s.0, s.1, ap (λ zs. y ∷ zs) s.2)

pub in-append_cases : {X : Type 0} (x : X) (xs ys : List X) → IsIn x (xs ++ ys) → IsIn x xs ⊎ IsIn x ys
in-append_cases x [] ys h = inr h
in-append_cases x (z ∷ xs) ys (inl e) = inl (inl e)
in-append_cases x (z ∷ xs) ys (inr h) = elim (in-append_cases x xs ys h) [ inl k ↦ inl (inr k) | inr k ↦ inr k ]

flat-by : {X Y : Type 0} (g : X → List Y) (y : Y) (x : X) (xs : List X) → IsIn y (g x) ⊎ IsIn y (flat_map g xs) → (IsIn y (flat_map g xs) → Split (λ z. IsIn y (g z)) xs) → Split (λ z. IsIn y (g z)) (x ∷ xs)
flat-by g y x xs (inl h) later = split-head (λ z. IsIn y (g z)) x xs h
flat-by g y x xs (inr h) later = split-cons (λ z. IsIn y (g z)) x xs (later h)

-- what joined lists hold comes from one of them
pub in-flat : {X Y : Type 0} (g : X → List Y) (y : Y) (xs : List X) → IsIn y (flat_map g xs) → Split (λ z. IsIn y (g z)) xs
in-flat g y [] h = absurd h
in-flat g y (x ∷ xs) h = flat-by g y x xs (in-append_cases y (g x) (flat_map g xs) h) (in-flat g y xs)
