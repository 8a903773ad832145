-- A page on which the pieces of a list's chosen elements are written, one element after the other.
use Rattle.std.proofs.Common.{◌≡◌, ◌<◌, ◌+◌, ℕ, List, [], ◌∷◌, ◌++◌, Option, Some, None, refl, append_assoc, length, take, get_or}
use Rattle.std.specs.Prelude.{flat_map, filter_map}
use Rattle.std.specs.Option.{option_to_list}
use Rattle.std.proofs.lemmas.List.{take_more}
use Rattle.std.proofs.lemmas.List.Elements.{filter_map-append}
use Rattle.std.proofs.lemmas.Grind.{flat_map-append}

-- what a list of one element chooses
chosen : {X Y : Type 0} (g : X → Option Y) (x : X) → filter_map g (x ∷ []) ≡ option_to_list (g x)
chosen g x = elim (g x) as (λ o. filter_map (λ y. o) (x ∷ []) ≡ option_to_list o) [ None ↦ refl | Some y ↦ refl ]

chosen_more : {X Y A : Type 0} (f : Y → List A) (g : X → Option Y) (bs : List A) (xs : List X) (x : X)
    → (bs ++ flat_map f (filter_map g xs)) ++ flat_map f (option_to_list (g x)) ≡ bs ++ flat_map f (filter_map g (xs ++ x ∷ []))
chosen_more f g bs xs x = rw (filter_map-append g xs (x ∷ []), flat_map-append f (filter_map g xs) (filter_map g (x ∷ [])), chosen g x, append_assoc) refl

-- what the element at i chooses comes behind what those before it do
pub chosen_push : {X Y : Type 0} (g : X → Option Y) (xs : List X) (i : ℕ) (x : X)
    → i < length xs → x ≡ get_or xs i x → filter_map g (take i xs) ++ option_to_list (g x) ≡ filter_map g (take (i + 1) xs)
chosen_push g xs i x within is = rw (take_more xs i x within, ← is, filter_map-append g (take i xs) (x ∷ []), chosen g x) refl

-- the piece of the element at i comes behind those of the elements before it
pub chosen_step : {X Y A : Type 0} (f : Y → List A) (g : X → Option Y) (start page more : List A) (xs : List X) (i : ℕ) (x : X)
    → i < length xs → x ≡ get_or xs i x
    → page ≡ start ++ flat_map f (filter_map g (take i xs)) → more ≡ page ++ flat_map f (option_to_list (g x))
    → more ≡ start ++ flat_map f (filter_map g (take (i + 1) xs))
chosen_step f g start page more xs i x within is was now = rw (take_more xs i x within, ← is, now, was) (chosen_more f g start (take i xs) x)
