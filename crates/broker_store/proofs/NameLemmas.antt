-- Tables under names, and the names that stay where queues are changed.
use Rattle.std.proofs.Common.{◌≡◌, ℕ, ◌+◌, Bool, true, false, cond, List, [], ◌∷◌, ◌++◌, Some, None, String, string_bytes, is_some, refl, ap, sym, map}
use Rattle.std.specs.Prelude.{◌||◌}
use Rattle.std.specs.List.{list_any}
use Rattle.std.specs.Map.{lookup}
use Rattle.std.specs.Str.{bytes_eq}
use Rattle.std.proofs.lemmas.Slice.Eq.{bytes_eq-Decides}
use Rattle.broker_store.specs.Queues.{Standing, Named, queue_of, changed, all_changed}

abbrev pub under : {Z V : Type 0} → List (String Z × V) → List (List ℕ × V)
under es = map (λ e. (string_bytes e.0, e.1)) es

pub lookup_under : {Z V : Type 0} (name : List ℕ) (es : List (String Z × V)) → lookup (bytes_eq name) (under es) ≡ lookup (λ key. bytes_eq name (string_bytes key)) es
lookup_under name [] = refl
lookup_under name (e ∷ es) = ap (λ r. cond (bytes_eq name (string_bytes e.0)) (Some e.1) r) (lookup_under name es)

alike : (a b : Bool) → (a ≡ true → b ≡ true) → (b ≡ true → a ≡ true) → a ≡ b
alike true b f g = sym (f refl)
alike false true f g = g refl
alike false false f g = refl

-- names are compared either way
pub either_way : (a b : List ℕ) → bytes_eq a b ≡ bytes_eq b a
either_way a b =
    alike (bytes_eq a b) (bytes_eq b a) (λ e. (bytes_eq-Decides b a).1 (sym ((bytes_eq-Decides a b).0 e))) (λ e. (bytes_eq-Decides a b).1 (sym ((bytes_eq-Decides b a).0 e)))

pub or_false : (a : Bool) → (a || false) ≡ a
or_false true = refl
or_false false = refl

pub any_push : {X : Type 0} (p : X → Bool) (xs : List X) (x : X) → list_any p (xs ++ x ∷ []) ≡ (list_any p xs || p x)
any_push p [] x = or_false (p x)
any_push p (y ∷ xs) x = elim (p y) as (λ b. (b || list_any p (xs ++ x ∷ [])) ≡ ((b || list_any p xs) || p x)) [ true ↦ refl | false ↦ any_push p xs x ]

pub lookup_push : {V : Type 0} (name : List ℕ) (es : List (List ℕ × V)) (e : List ℕ × V) → is_some (lookup (bytes_eq name) (es ++ e ∷ [])) ≡ (is_some (lookup (bytes_eq name) es) || bytes_eq name e.0)
lookup_push name [] e = elim (bytes_eq name e.0) as (λ b. is_some (cond b (Some e.1) None) ≡ b) [ true ↦ refl | false ↦ refl ]
lookup_push name (d ∷ es) e =
    elim (bytes_eq name d.0) as (λ b. is_some (cond b (Some d.1) (lookup (bytes_eq name) (es ++ e ∷ []))) ≡ (is_some (cond b (Some d.1) (lookup (bytes_eq name) es)) || bytes_eq name e.0)) [ true ↦ refl | false ↦ lookup_push name es e ]

pub stands_changed : {M : Type 0} (other name : List ℕ) (change : Standing M → Standing M) (queues : List (Named M)) → is_some (queue_of other (changed name change queues)) ≡ is_some (queue_of other queues)
stands_changed other name change [] = refl
stands_changed other name change (q ∷ queues) =
    elim (bytes_eq name q.0) as (λ b. is_some (queue_of other (cond b ((q.0, change q.1) ∷ queues) (q ∷ changed name change queues))) ≡ is_some (queue_of other (q ∷ queues))) [
      | true ↦ elim (bytes_eq other q.0) as (λ b. is_some (cond b (Some (change q.1)) (queue_of other queues)) ≡ is_some (cond b (Some q.1) (queue_of other queues))) [ true ↦ refl | false ↦ refl ]
      | false ↦ elim (bytes_eq other q.0) as (λ b. is_some (cond b (Some q.1) (queue_of other (changed name change queues))) ≡ is_some (cond b (Some q.1) (queue_of other queues))) [ true ↦ refl | false ↦ stands_changed other name change queues ]
    ]

pub stands_mapped : {M : Type 0} (other : List ℕ) (change : Standing M → Standing M) (queues : List (Named M)) → is_some (queue_of other (all_changed change queues)) ≡ is_some (queue_of other queues)
stands_mapped other change [] = refl
stands_mapped other change (q ∷ queues) =
    elim (bytes_eq other q.0) as (λ b. is_some (cond b (Some (change q.1)) (queue_of other (all_changed change queues))) ≡ is_some (cond b (Some q.1) (queue_of other queues))) [ true ↦ refl | false ↦ stands_mapped other change queues ]
