-- What holds of chains through the items of a list.
use Rattle.std.proofs.Common.{◌≡◌, ◌≢◌, ℕ, ◌+◌, ◌-◌, ◌<◌, ◌≤◌, inl, inr, Bool, true, false, List, [], ◌∷◌, ◌++◌, map, length, get_or, set, refl, ap, sym, ◌∙◌, subst, arith}
use Rattle.std.specs.Prelude.{◌%◌}
use Rattle.std.proofs.lemmas.Bool.{cases_eq, cases_lt}
use Rattle.std.proofs.lemmas.List.{get_or_append_left, get_or_default, get_or-set_same, get_or-set_other, get_or-map, length-map}
use Rattle.std.specs.List.{list_any}
use Rattle.std.proofs.lemmas.List.Folds.{list_any_none}
use Rattle.route_core.specs.Chains.{IsLast, IsLastIn, IsLastOf, IsLinked}

pub last_none : (part : ℕ → ℕ) (wanted : ℕ) (codes : List ℕ) → IsLast part wanted codes 0 0
last_none part wanted codes = record {
  within = omega arith;
  here = λ lt. absurd (omega arith);
  none = λ k le lt. absurd (omega arith);
}

-- the buckets are empty
pub linked_start : (width : ℕ) (codes before heads : List ℕ) → ((q : ℕ) → q < width → get_or heads q 0 ≡ 0) → IsLinked width codes before heads 0
linked_start width codes before heads empty = record {
  heads_last = λ q lt. subst (λ p. IsLastIn width q codes 0 p) (sym (empty q lt)) (last_none (λ c. c % width) q codes);
  before_last = λ k lt. absurd (omega arith);
}

-- one more code behind them changes nothing
pub last_push : (part : ℕ → ℕ) (wanted : ℕ) (codes : List ℕ) (below place c : ℕ) → below ≤ length codes → IsLast part wanted codes below place → IsLast part wanted (codes ++ c ∷ []) below place
last_push part wanted codes below place c le h = record {
  within = h.within;
  here = λ lt. ap part (get_or_append_left codes (c ∷ []) 0 (place - 1) (omega (arith, h.within))) ∙ h.here lt;
  none = λ k from lt e. h.none k from lt (sym (ap part (get_or_append_left codes (c ∷ []) 0 k (omega arith))) ∙ e);
}

pub linked_push : (width : ℕ) (codes before heads : List ℕ) (below c b : ℕ) → below ≤ length codes → below ≤ length before → IsLinked width codes before heads below → IsLinked width (codes ++ c ∷ []) (before ++ b ∷ []) heads below
linked_push width codes before heads below c b lec leb h = record {
  heads_last = λ q lt. last_push (λ x. x % width) q codes below (get_or heads q 0) c lec (h.heads_last q lt);
  before_last = λ k lt.
      let e = get_or_append_left codes (c ∷ []) 0 k (omega arith) in
      let f = get_or_append_left before (b ∷ []) 0 k (omega arith) in
      subst (λ x. IsLastIn width (x % width) (codes ++ c ∷ []) k (get_or (before ++ b ∷ []) k 0)) (sym e)
      (subst (λ p. IsLastIn width (get_or codes k 0 % width) (codes ++ c ∷ []) k p) (sym f)
      (last_push (λ x. x % width) (get_or codes k 0 % width) codes k (get_or before k 0) c (omega arith) (h.before_last k lt)));
}

-- the item of the bucket itself
last_here : (part : ℕ → ℕ) (codes : List ℕ) (n : ℕ) → IsLast part (part (get_or codes n 0)) codes (n + 1) (n + 1)
last_here part codes n = record {
  within = omega arith;
  here = λ lt. ap (λ k. part (get_or codes k 0)) (omega arith);
  none = λ k le lt. absurd (omega arith);
}

-- an item of another bucket
last_other : (part : ℕ → ℕ) (wanted : ℕ) (codes : List ℕ) (n place : ℕ) → part (get_or codes n 0) ≢ wanted → IsLast part wanted codes n place → IsLast part wanted codes (n + 1) place
last_other part wanted codes n place other h = record {
  within = omega (arith, h.within);
  here = h.here;
  none = λ k le lt e. elim (cases_eq k n) [
    | inl same ↦ other (subst (λ j. part (get_or codes j 0) ≡ wanted) same e)
    | inr differs ↦ h.none k le (omega (arith, differs)) e
  ];
}

pub linked_step : (width : ℕ) (codes before heads : List ℕ) (n q : ℕ) → n < length codes → length before ≡ length codes → length heads ≡ width → q < width → q ≡ get_or codes n 0 % width → IsLinked width codes before heads n
    → IsLinked width codes (set before n (get_or heads q 0)) (set heads q (n + 1)) (n + 1)
linked_step width codes before heads n q lt even wide within is h = record {
  heads_last = λ p ltp. elim (cases_eq p q) [
    | inl same ↦
        subst (λ j. IsLastIn width j codes (n + 1) (get_or (set heads q (n + 1)) j 0)) (sym same)
        (subst (λ v. IsLastIn width q codes (n + 1) v) (sym (get_or-set_same heads q (n + 1) 0 (omega arith)))
        (subst (λ j. IsLastIn width j codes (n + 1) (n + 1)) (sym is) (last_here (λ x. x % width) codes n)))
    | inr differs ↦
        subst (λ v. IsLastIn width p codes (n + 1) v) (sym (get_or-set_other heads q p (n + 1) 0 differs))
        (last_other (λ x. x % width) p codes n (get_or heads p 0) (λ e. differs (sym (is ∙ e))) (h.heads_last p ltp))
  ];
  before_last = λ k ltk. elim (cases_eq k n) [
    | inl same ↦
        subst (λ j. IsLastIn width (get_or codes j 0 % width) codes j (get_or (set before n (get_or heads q 0)) j 0)) (sym same)
        (subst (λ v. IsLastIn width (get_or codes n 0 % width) codes n v) (sym (get_or-set_same before n (get_or heads q 0) 0 (omega arith)))
        (subst (λ j. IsLastIn width j codes n (get_or heads q 0)) is (h.heads_last q within)))
    | inr differs ↦
        subst (λ v. IsLastIn width (get_or codes k 0 % width) codes k v) (sym (get_or-set_other before n k (get_or heads q 0) 0 differs))
        (h.before_last k (omega (arith, differs)))
  ];
}

-- ---- the items of one code on the chain of a bucket

-- what lies between the place and what is below has another code
pub record IsSought (width code : ℕ) (codes : List ℕ) (below at : ℕ) : Type 0 where
  pub within : at ≤ below
  pub here : 0 < at → get_or codes (at - 1) 0 % width ≡ code % width
  pub none : (k : ℕ) → at ≤ k → k < below → get_or codes k 0 ≢ code

pub sought_start : (width code : ℕ) (codes : List ℕ) (below at : ℕ) → IsLastIn width (code % width) codes below at → IsSought width code codes below at
sought_start width code codes below at h = record {
  within = h.within;
  here = h.here;
  none = λ k le lt e. h.none k le lt (ap (λ x. x % width) e);
}

pub sought_step : (width code : ℕ) (codes before heads : List ℕ) (below at next : ℕ) → below ≤ length codes → IsLinked width codes before heads (length codes) → 0 < at → get_or codes (at - 1) 0 ≢ code → next ≡ get_or before (at - 1) 0 → IsSought width code codes below at → IsSought width code codes below next
sought_step width code codes before heads below at next le linked pos other is h =
    let here = h.here pos in
    let last : IsLastIn width (code % width) codes (at - 1) next =
    subst (λ v. IsLastIn width (code % width) codes (at - 1) v) (sym is)
    (subst (λ v. IsLastIn width v codes (at - 1) (get_or before (at - 1) 0)) here (linked.before_last (at - 1) (omega (arith, h.within)))) in
    record {
      within = omega (arith, last.within, h.within);
      here = last.here;
      none = λ k from lt e. elim (cases_lt k at) [
        | inl less ↦ elim (cases_eq k (at - 1)) [
          | inl same ↦ other (subst (λ j. get_or codes j 0 ≡ code) same e)
          | inr differs ↦ last.none k from (omega (arith, differs)) (ap (λ x. x % width) e)
        ]
        | inr more ↦ h.none k more lt e
      ];
    }

pub sought_here : (width code : ℕ) (codes : List ℕ) (below at : ℕ) → get_or codes (at - 1) 0 ≡ code → IsSought width code codes below at → IsLastOf code codes below at
sought_here width code codes below at same h = record { within = h.within; here = λ _. same; none = h.none }

pub sought_none : (width code : ℕ) (codes : List ℕ) (below at : ℕ) → at ≡ 0 → IsSought width code codes below at → IsLastOf code codes below 0
sought_none width code codes below at zero h = record {
  within = omega arith;
  here = λ lt. absurd (omega arith);
  none = λ k from lt e. h.none k (omega arith) lt e;
}

-- ---- what a look-up found, said of the parts of the chains

pub seek_before : (codes before heads cs hs : List ℕ) (width n place i a result : ℕ) → cs ≡ codes → width ≡ length hs → IsLinked width codes before heads n → place < n → n ≡ length codes → place < length before → i ≡ get_or codes place i → a ≡ get_or before place a
    → ((below : ℕ) → below ≤ length cs → IsLastIn (length hs) (i % length hs) cs below a → IsLastOf i cs below result) → IsLastOf (get_or codes place 0) codes place result
seek_before codes before heads cs hs width n place i a result ec ew linked lt en within is has f =
    let ei : i ≡ get_or codes place 0 = is ∙ get_or_default codes place i 0 (omega arith) in
    let ea : a ≡ get_or before place 0 = has ∙ get_or_default before place a 0 within in
    let g : IsLastIn (length hs) (i % length hs) cs place a =
    subst (λ w. IsLastIn w (i % w) cs place a) ew
    (subst (λ (xs : List ℕ). IsLastIn width (i % width) xs place a) (sym ec)
    (subst (λ x. IsLastIn width (x % width) codes place a) (sym ei)
    (subst (λ x. IsLastIn width (get_or codes place 0 % width) codes place x) (sym ea) (linked.before_last place lt)))) in
    subst (λ (xs : List ℕ). IsLastOf (get_or codes place 0) xs place result) ec
    (subst (λ x. IsLastOf x cs place result) ei (f place (omega (arith, ap (λ (xs : List ℕ). length xs) ec)) g))

pub seek_last : (codes before heads cs hs : List ℕ) (width n code q a result : ℕ) → cs ≡ codes → width ≡ length hs → IsLinked width codes before heads n → n ≡ length codes → q ≡ code % width → q < width → q < length heads → a ≡ get_or heads q a
    → ((below : ℕ) → below ≤ length cs → IsLastIn (length hs) (code % length hs) cs below a → IsLastOf code cs below result) → IsLastOf code codes (length codes) result
seek_last codes before heads cs hs width n code q a result ec ew linked en eq lt within has f =
    let ea : a ≡ get_or heads q 0 = has ∙ get_or_default heads q a 0 within in
    let g : IsLastIn (length hs) (code % length hs) cs n a =
    subst (λ w. IsLastIn w (code % w) cs n a) ew
    (subst (λ (xs : List ℕ). IsLastIn width (code % width) xs n a) (sym ec)
    (subst (λ x. IsLastIn width x codes n a) eq
    (subst (λ x. IsLastIn width q codes n x) (sym ea) (linked.heads_last q lt)))) in
    subst (λ k. IsLastOf code codes k result) en
    (subst (λ (xs : List ℕ). IsLastOf code xs n result) ec (f n (omega (arith, ap (λ (xs : List ℕ). length xs) ec)) g))

-- ---- a search through the items of one code

-- no item from this place on passes
abbrev pub NoneFrom : {X : Type 0} → (X → Bool) → ℕ → List X → Type 0
NoneFrom {X} test at xs = (k : ℕ) (d : X) → at ≤ k → k < length xs → test (get_or xs k d) ≡ false

no_test : {X : Type 0} (f : X → ℕ) (test : X → Bool) (code : ℕ) → ((x : X) → test x ≡ true → f x ≡ code) → (xs : List X) (codes : List ℕ) (k : ℕ) (d : X) → codes ≡ map f xs → k < length xs → get_or codes k 0 ≢ code → test (get_or xs k d) ≡ false
no_test f test code same xs codes k d e lt other =
    elim (test (get_or xs k d)) as (λ t. test (get_or xs k d) ≡ t → t ≡ false) [
      | true ↦ (λ h. absurd (other (ap (λ (cs : List ℕ). get_or cs k 0) e ∙ get_or-map f xs k d 0 lt ∙ same (get_or xs k d) h)))
      | false ↦ (λ _. refl)
    ] refl

pub none_last : {X : Type 0} (f : X → ℕ) (test : X → Bool) (code : ℕ) → ((x : X) → test x ≡ true → f x ≡ code) → (xs : List X) (codes : List ℕ) (at : ℕ) → codes ≡ map f xs → IsLastOf code codes (length codes) at → NoneFrom test at xs
none_last f test code same xs codes at e h = λ k d le lt.
    no_test f test code same xs codes k d e lt (h.none k le (omega (arith, ap (λ (cs : List ℕ). length cs) e, length-map xs f)))

pub none_next : {X : Type 0} (f : X → ℕ) (test : X → Bool) (code : ℕ) → ((x : X) → test x ≡ true → f x ≡ code) → (xs : List X) (codes : List ℕ) (at next : ℕ) (x : X) → codes ≡ map f xs → 0 < at → at ≤ length xs → get_or codes (at - 1) 0 ≡ code → x ≡ get_or xs (at - 1) x → test x ≡ false → IsLastOf (get_or codes (at - 1) 0) codes (at - 1) next → NoneFrom test at xs → NoneFrom test next xs
none_next {X} f test code same xs codes at next x e pos within here is off h later = λ k d le lt. elim (cases_lt k at) [
  | inl less ↦ elim (cases_eq k (at - 1)) [
    | inl last ↦ subst (λ j. test (get_or xs j d) ≡ false) (sym last) (ap test (get_or_default xs (at - 1) d x (omega arith) ∙ sym is) ∙ off)
    | inr differs ↦ no_test f test code same xs codes k d e lt (λ g. h.none k le (omega (arith, differs)) (g ∙ sym here))
  ]
  | inr more ↦ later k d more lt
]

pub none_any : {X : Type 0} (test : X → Bool) (xs : List X) (at : ℕ) → at ≡ 0 → NoneFrom test at xs → list_any test xs ≡ false
none_any test xs at end h = list_any_none test xs (λ k d lt. h k d (omega arith) lt)
