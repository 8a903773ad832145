-- The table of queues as the list of them.
use Rattle.std.proofs.Common.{◌≡◌, ℕ, zero, suc, ◌+◌, Bool, true, false, cond, not, List, [], ◌∷◌, ◌++◌, Option, Some, None, String, string_bytes, position, slice_get, is_some, unwrap_or, refl, ap, sym, ◌∙◌, subst, arith, map, take, drop}
use Rattle.std.specs.Prelude.{All, ◌||◌, filter, Result, Ok, Err, OnOk, OnErr, IfSome, IfNone}
use Rattle.std.specs.List.{position_or_len, list_any}
use Rattle.std.specs.Map.{lookup, keys_of, values_of}
use Rattle.std.specs.Str.{bytes_eq}
use Rattle.std.proofs.lemmas.Bool.{true≢false, false≢true}
use Rattle.std.proofs.lemmas.List.Elements.{All-head, All-tail}
use Rattle.indexmap.specs.IndexMap.{set_value_at}
use Rattle.indexmap.proofs.MapLemmas.{Found-position}
use Rattle.broker_store.specs.Queues.{Standing, Named, named, queue_of, changed, all_changed, others}

abbrev pub Entries : Type 0 → Type 0
Entries Z = List (String Z × Standing ℕ)

abbrev pub is_key : {Z : Type 0} → List ℕ → String Z → Bool
is_key name key = bytes_eq name (string_bytes key)

pub lookup_named : {Z : Type 0} (name : List ℕ) (es : Entries Z) → queue_of name (named es) ≡ lookup (is_key name) es
lookup_named name [] = refl
lookup_named name (e ∷ es) = ap (λ r. cond (is_key name e.0) (Some e.1) r) (lookup_named name es)

pub changed_absent : {M : Type 0} (name : List ℕ) (change : Standing M → Standing M) (queues : List (Named M)) → queue_of name queues ≡ None → changed name change queues ≡ queues
changed_absent name change [] none = refl
changed_absent name change (q ∷ queues) none =
    elim (bytes_eq name q.0) as (λ b. cond b (Some q.1) (queue_of name queues) ≡ None → cond b ((q.0, change q.1) ∷ queues) (q ∷ changed name change queues) ≡ q ∷ queues) [
      | true ↦ (λ no. absurd (true≢false (ap is_some no)))
      | false ↦ (λ none. ap (λ rest. q ∷ rest) (changed_absent name change queues none))
    ] none

same_some : {A : Type 0} {x y : A} → Some x ≡ Some y → x ≡ y
same_some {A} {x} e = ap (λ r. unwrap_or r x) e

-- a write at the first key of that name changes the queue of that name
changed_first : {Z : Type 0} (name : List ℕ) (change : Standing ℕ → Standing ℕ) (es : Entries Z) (v w : Standing ℕ) → slice_get (values_of es) (position_or_len (is_key name) (keys_of es)) ≡ Some v → w ≡ change v → named (set_value_at es (position_or_len (is_key name) (keys_of es)) w) ≡ changed name change (named es)
changed_first name change [] v w at is = refl
changed_first {Z} name change (e ∷ es) v w at is =
    let k = position_or_len (is_key name) (keys_of es) in
    elim (is_key name e.0) as (λ b. slice_get (values_of (e ∷ es)) (cond (not b) (1 + position_or_len (is_key name) (keys_of es)) 0) ≡ Some v → named (set_value_at (e ∷ es) (cond (not b) (1 + position_or_len (is_key name) (keys_of es)) 0) w) ≡ cond b ((string_bytes e.0, change e.1) ∷ named es) ((string_bytes e.0, e.1) ∷ changed name change (named es))) [
      | true ↦ (λ at. ap (λ x. (string_bytes e.0, x) ∷ named es) (is ∙ ap change (sym (same_some at))))
      | false ↦ (λ at.
          let next : 1 + k ≡ suc k = omega arith in
          subst (λ j. named (set_value_at (e ∷ es) j w) ≡ (string_bytes e.0, e.1) ∷ changed name change (named es)) (sym next) (ap (λ rest. (string_bytes e.0, e.1) ∷ rest) (changed_first name change es v w (subst (λ j. slice_get (values_of (e ∷ es)) j ≡ Some v) next at) is)))
    ] at

pub changed_at : {Z : Type 0} (name : List ℕ) (change : Standing ℕ → Standing ℕ) (es : Entries Z) (i : ℕ) (v w : Standing ℕ) → Some i ≡ position (is_key name) (keys_of es) → slice_get (values_of es) i ≡ Some v → w ≡ change v → named (set_value_at es i w) ≡ changed name change (named es)
changed_at name change es i v w place at is =
    let first = (Found-position (is_key name) es i (sym place)).or_len in
    subst (λ j. named (set_value_at es j w) ≡ changed name change (named es)) first (changed_first name change es v w (subst (λ j. slice_get (values_of es) j ≡ Some v) (sym first) at) is)

-- what is written is what stood there
pub set_same : {Z : Type 0} (es : Entries Z) (i : ℕ) (v w : Standing ℕ) → slice_get (values_of es) i ≡ Some v → w ≡ v → set_value_at es i w ≡ es
set_same [] i v w at is = refl
set_same (e ∷ es) zero v w at is = ap (λ x. (e.0, x) ∷ es) (is ∙ sym (same_some at))
set_same (e ∷ es) (suc i) v w at is = ap (λ rest. e ∷ rest) (set_same es i v w at is)

pub all_at : {Z : Type 0} (P : Standing ℕ → Type 0) (es : Entries Z) (i : ℕ) (v : Standing ℕ) → All (λ q. P q.1) (named es) → slice_get (values_of es) i ≡ Some v → P v
all_at P [] i v all at = absurd (true≢false (sym (ap is_some at)))
all_at P (e ∷ es) zero v all at = subst P (same_some at) (All-head (λ q. P q.1) (string_bytes e.0, e.1) (named es) all)
all_at P (e ∷ es) (suc i) v all at = all_at P es i v (All-tail (λ q. P q.1) (string_bytes e.0, e.1) (named es) all) at

pub always_err : {A F : Type 0} {P : Type 0} (r : Result A F) → P → OnErr r P
always_err (Ok a) p = tt
always_err (Err e) p = p

pub if_some : {A : Type 0} {P Q : A → Type 0} (r : Option A) → ((a : A) → P a → Q a) → IfSome r P → IfSome r Q
if_some (Some a) f p = f a p
if_some None f p = p

pub if_none : {A : Type 0} {P Q : Type 0} (r : Option A) → (P → Q) → IfNone r P → IfNone r Q
if_none (Some a) f p = p
if_none None f p = f p

abbrev list : {Z : Type 0} → Entries Z → Entries Z
list es = es

-- one more queue is changed
pub swept_more : {Z : Type 0} (change : Standing ℕ → Standing ℕ) (was now : Entries Z) (i : ℕ) (v w : Standing ℕ) → now ≡ map (λ e. (e.0, change e.1)) (take i was) ++ drop i was → slice_get (values_of now) i ≡ Some v → w ≡ change v → set_value_at now i w ≡ map (λ e. (e.0, change e.1)) (take (suc i) was) ++ drop (suc i) was
swept_more {Z} change [] now i v w so at is = absurd (true≢false (sym (ap is_some at) ∙ gone i))
  where
    none : (j : ℕ) → map (λ (e : String Z × Standing ℕ). (e.0, change e.1)) (take j (list [])) ++ drop j (list []) ≡ list []
    none zero = refl
    none (suc j) = refl

    gone : (j : ℕ) → is_some (slice_get (values_of now) j) ≡ false
    gone j = ap (λ es. is_some (slice_get (values_of es) j)) (so ∙ none i)
swept_more {Z} change (e ∷ was) now zero v w so at is =
    ap (λ es. set_value_at es 0 w) so ∙ ap (λ x. (e.0, x) ∷ was) (is ∙ ap change (sym (same_some (ap (λ es. slice_get (values_of es) 0) (sym so) ∙ at))))
swept_more {Z} change (e ∷ was) now (suc i) v w so at is =
    ap (λ es. set_value_at es (suc i) w) so
    ∙ ap (λ rest. (e.0, change e.1) ∷ rest) (swept_more change was (map (λ e. (e.0, change e.1)) (take i was) ++ drop i was) i v w refl (ap (λ es. slice_get (values_of es) (suc i)) (sym so) ∙ at) is)

pub named_swept : {Z : Type 0} (change : Standing ℕ → Standing ℕ) (es : Entries Z) → named (map (λ e. (e.0, change e.1)) es) ≡ all_changed change (named es)
named_swept change [] = refl
named_swept change (e ∷ es) = ap (λ rest. (string_bytes e.0, change e.1) ∷ rest) (named_swept change es)

pub any_named : {Z : Type 0} (test : Standing ℕ → Bool) (es : Entries Z) → list_any test (values_of es) ≡ list_any (λ q. test q.1) (named es)
any_named test [] = refl
any_named test (e ∷ es) = ap (λ b. test e.1 || b) (any_named test es)

-- the entries but those of the name
pub named_others : {Z : Type 0} (name : List ℕ) (es : Entries Z) → named (filter (λ e. not (bytes_eq (string_bytes e.0) name)) es) ≡ others name (named es)
named_others name [] = refl
named_others name (e ∷ es) =
    elim (bytes_eq (string_bytes e.0) name) as (λ b. named (cond (not b) (e ∷ filter (λ e. not (bytes_eq (string_bytes e.0) name)) es) (filter (λ e. not (bytes_eq (string_bytes e.0) name)) es)) ≡ cond (not b) ((string_bytes e.0, e.1) ∷ others name (named es)) (others name (named es))) [
      | true ↦ named_others name es
      | false ↦ ap (λ rest. (string_bytes e.0, e.1) ∷ rest) (named_others name es)
    ]
