-- How many octets the words of a line have, and that arguments don't take many more.
use Rattle.std.proofs.Common.{◌≡◌, ℕ, ◌+◌, ◌*◌, ◌<◌, ◌≤◌, Bool, true, false, cond, eqb, List, [], ◌∷◌, ◌++◌, length, take, drop, Option, Some, None, refl, subst, arith}
use Rattle.std.specs.Prelude.{codes}
use Rattle.std.specs.List.{sum_by, slice_split, onto_first, position}
use Rattle.std.proofs.lemmas.List.{length-append, length-take, length-drop}
use Rattle.std.proofs.lemmas.List.Sums.{sum_by-cons, sum_by-take-drop}
use Rattle.percent_encoding.specs.Percent.{percent_decode}
use Rattle.percent_encoding.proofs.PercentLemmas.{length-percent_decode}
use Rattle.field_tables.specs.Fields.{Field}
use Rattle.field_tables.specs.Tables.{name_spelling, value_spelling, pairs_spelling}
use Rattle.field_tables.specs.View.{pairs_of}
use Rattle.fed_journal.specs.Names.{same_text}
use Rattle.schedule_words.specs.Words.{pieces_of, with_space, spaced_length, octets_of, text_of}
use Rattle.schedule_words.specs.Values.{is_octet, cut_around, cut_at}
use Rattle.schedule_words.proofs.Utf8.{length_lossy}

-- ---- lines and their words

spaced_onto : (x : ℕ) (qs : List (List ℕ)) → 0 < spaced_length qs → spaced_length (onto_first x qs) ≡ spaced_length qs + 1
spaced_onto x [] some = absurd (omega (arith, some))
spaced_onto x (q ∷ qs) some = omega (arith, sum_by-cons with_space q qs, sum_by-cons with_space (x ∷ q) qs)

spaced_split : (p : ℕ → Bool) (xs : List ℕ) → spaced_length (slice_split p xs) ≡ length xs + 1
spaced_split p [] = refl
spaced_split p (x ∷ xs) =
    let others = spaced_split p xs in
    elim (p x) as (λ b. spaced_length (cond b ([] ∷ slice_split p xs) (onto_first x (slice_split p xs))) ≡ length (x ∷ xs) + 1)
    [ true ↦ omega (arith, others, sum_by-cons with_space [] (slice_split p xs)) | false ↦ omega (arith, others, spaced_onto x (slice_split p xs) (omega (arith, others))) ]

-- what is cut has its octets, and one of each separator
pub spaced_pieces : (s : ℕ) (xs : List ℕ) → spaced_length (pieces_of s xs) ≡ length xs + 1
unfolding pieces_of
spaced_pieces s xs = spaced_split (λ b. eqb b s) xs

pub spaced_drop : (n : ℕ) (ws : List (List ℕ)) → spaced_length (drop n ws) ≤ spaced_length ws
spaced_drop n ws = omega (arith, sum_by-take-drop with_space ws n)

-- ---- words

none_or : (b : Bool) (xs : List ℕ) (n : ℕ) → length xs ≤ n → length (cond b [] xs) ≤ n
none_or true xs n short = omega arith
none_or false xs n short = short

pub length_octets : (w : List ℕ) → length (octets_of w) ≤ length w
unfolding octets_of
length_octets w = none_or (same_text w (codes "-")) (percent_decode w) (length w) (length-percent_decode w).0

pub length_text : (w : List ℕ) → length (text_of w) ≤ 3 * length w
unfolding text_of
length_text w = omega (arith, length_lossy (octets_of w), length_octets w)

cut_from : (w : List ℕ) (at : Option ℕ) (parts : List ℕ × List ℕ) → cut_around w at ≡ Some parts → length parts.0 + length parts.1 ≤ length w
cut_from w None parts e = absurd cc
cut_from w (Some at) parts e =
    let same : (take at w, drop (at + 1) w) ≡ parts = cc in
    subst (λ (p : List ℕ × List ℕ). length p.0 + length p.1 ≤ length w) same (omega (arith, length-take at w, length-drop (at + 1) w))

pub length_cut : (s : ℕ) (w : List ℕ) (parts : List ℕ × List ℕ) → cut_at s w ≡ Some parts → length parts.0 + length parts.1 ≤ length w
unfolding cut_at
length_cut s w parts e = cut_from w (position (is_octet s) w) parts e

-- ---- names and values

-- a name and a value in a table
abbrev pub pair_length : List ℕ × Field → ℕ
pair_length p = 1 + length p.0 + length (value_spelling p.1)

pub length_pairs : (ps : List (List ℕ × Field)) → length (pairs_spelling (pairs_of ps)) ≡ sum_by pair_length ps
length_pairs [] = refl
length_pairs (p ∷ ps) =
    let value = length-append (value_spelling p.1) (pairs_spelling (pairs_of ps)) in
    let whole = length-append (name_spelling p.0) (value_spelling p.1 ++ pairs_spelling (pairs_of ps)) in
    omega (arith, value, whole, length_pairs ps, sum_by-cons pair_length p ps)
