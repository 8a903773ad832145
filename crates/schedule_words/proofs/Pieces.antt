-- How octets are cut into pieces, one after the other.
use Rattle.std.proofs.Common.{◌≡◌, ◌<◌, ◌≤◌, ◌+◌, ℕ, List, [], ◌∷◌, ◌++◌, Bool, true, false, cond, eqb, refl, sym, ap, append_assoc, drop, get_or, length, add-one, drop-cons}
use Rattle.std.specs.List.{slice_split, onto_first}
use Rattle.std.proofs.lemmas.List.{append-nil, drop_all}
use Rattle.std.proofs.lemmas.List.Splits.{slice_split-cons_yes, slice_split-cons_no}
use Rattle.schedule_words.specs.Words.{pieces_of}

-- the pieces, with octets put before the first
abbrev pub onto : List ℕ → List (List ℕ) → List (List ℕ)
onto p [] = p ∷ []
onto p (q ∷ qs) = (p ++ q) ∷ qs

onto-first : (p : List ℕ) (x : ℕ) (qs : List (List ℕ)) → onto p (onto_first x qs) ≡ onto (p ++ x ∷ []) qs
onto-first p x [] = refl
onto-first p x (q ∷ qs) = ap (λ r. r ∷ qs) (sym (append_assoc p (x ∷ []) q))

onto-nil_first : (x : ℕ) (qs : List (List ℕ)) → onto [] (onto_first x qs) ≡ onto_first x qs
onto-nil_first x [] = refl
onto-nil_first x (q ∷ qs) = refl

onto-nil : (p : ℕ → Bool) (xs : List ℕ) → onto [] (slice_split p xs) ≡ slice_split p xs
onto-nil p [] = refl
onto-nil p (x ∷ xs) =
    elim (p x) as (λ b. onto [] (cond b ([] ∷ slice_split p xs) (onto_first x (slice_split p xs))) ≡ cond b ([] ∷ slice_split p xs) (onto_first x (slice_split p xs)))
    [ true ↦ refl | false ↦ onto-nil_first x (slice_split p xs) ]

-- before the first octet
pub pieces_begun : (s : ℕ) (xs : List ℕ) → [] ++ onto [] (pieces_of s (drop 0 xs)) ≡ pieces_of s xs
unfolding pieces_of
pieces_begun s xs = onto-nil (λ b. eqb b s) xs

-- after the last
pub pieces_ended : (s : ℕ) (w xs : List ℕ) (i : ℕ) → length xs ≤ i → onto w (pieces_of s (drop i xs)) ≡ w ∷ []
unfolding pieces_of
pieces_ended s w xs i past =
    let d : drop i xs ≡ [] = drop_all i xs past in
    rw (d, append-nil) refl

-- a separator ends a piece
pub pieces_cut : (s : ℕ) (ps : List (List ℕ)) (w xs : List ℕ) (i : ℕ) → i < length xs → eqb (get_or xs i 0) s ≡ true
    → (ps ++ w ∷ []) ++ onto [] (pieces_of s (drop (i + 1) xs)) ≡ ps ++ onto w (pieces_of s (drop i xs))
unfolding pieces_of
pieces_cut s ps w xs i within e =
    let d : drop i xs ≡ get_or xs i 0 ∷ drop (i + 1) xs = rw (add-one, drop-cons xs i 0) refl in
    rw (d, slice_split-cons_yes (λ b. eqb b s) (get_or xs i 0) (drop (i + 1) xs) e, append-nil, onto-nil, append_assoc) refl

-- another octet belongs to the piece
pub pieces_kept : (s : ℕ) (ps : List (List ℕ)) (w xs : List ℕ) (i : ℕ) → i < length xs → eqb (get_or xs i 0) s ≡ false
    → ps ++ onto (w ++ get_or xs i 0 ∷ []) (pieces_of s (drop (i + 1) xs)) ≡ ps ++ onto w (pieces_of s (drop i xs))
unfolding pieces_of
pieces_kept s ps w xs i within e =
    let d : drop i xs ≡ get_or xs i 0 ∷ drop (i + 1) xs = rw (add-one, drop-cons xs i 0) refl in
    rw (d, slice_split-cons_no (λ b. eqb b s) (get_or xs i 0) (drop (i + 1) xs) e, onto-first) refl
