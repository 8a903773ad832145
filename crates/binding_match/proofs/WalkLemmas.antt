-- Where a walk that doesn't fail has come.
use Rattle.std.proofs.Common.{◌≡◌, ◌≢◌, true, false, List, [], ◌∷◌, length, ℕ, ◌<◌, Option, Some, None, is_none, Bor, refl, sym, ◌∙◌, arith}
use Rattle.std.specs.Option.{option_copied}
use Rattle.std.specs.List.{slice_split}
use Rattle.std.proofs.lemmas.List.Splits.{length-slice_split}
use Rattle.binding_match.specs.Topics.{is_dot, covers, some_end}
use Rattle.binding_match.specs.Walks.{words_in, answer_of, StaysAhead}
use Rattle.binding_match.specs.declared.topic.Walk.{Walk}
use Rattle.binding_match.specs.declared.topic.Walk.TheVariants as walks
use Rattle.binding_match.proofs.Bools.{same_test}
use Rattle.binding_match.proofs.TopicLemmas.{some_end-here}

pub lands : (ps ws : List (List ℕ)) (walk : Walk) → walk ≢ walks.Fails → answer_of walk ≡ covers ps ws → StaysAhead ps ws walk → answer_of walk ≡ some_end (covers ps) ws
lands ps ws walks.Fails goes e ahead = absurd (goes refl)
lands ps ws walks.Ends goes e ahead = sym (some_end-here (covers ps) ws (sym e))
lands ps ws (walks.Hash parts words) goes e ahead =
    same_test (answer_of (walks.Hash parts words)) (some_end (covers ps) ws) (λ h. some_end-here (covers ps) ws (sym e ∙ h)) ahead

-- ---- what is left of a text

head_of : (xs : List (List ℕ)) → 0 < length xs → (w : List ℕ) × (rest : List (List ℕ)) × (xs ≡ w ∷ rest)
head_of [] some = absurd (omega arith)
head_of (w ∷ rest) some = (w, rest, refl)

pub some_word : (o : Option (Bor (List ℕ))) → is_none o ≡ false → (w : List ℕ) × (rest : List (List ℕ)) × (words_in (option_copied o) ≡ w ∷ rest)
some_word None h = absurd cc
some_word (Some text) h = head_of (slice_split is_dot text.now) (let n = length-slice_split is_dot text.now in omega arith)

pub no_word : (o : Option (Bor (List ℕ))) → is_none o ≡ true → words_in (option_copied o) ≡ []
no_word None h = refl
no_word (Some text) h = absurd cc

-- a walk that neither ended nor met a `#` failed
pub fails_else : (walk : Walk) → ((parts words : Option (Bor (List ℕ))) → walk ≢ walks.Hash parts words) → walk ≢ walks.Ends → answer_of walk ≡ false
fails_else walks.Fails met ended = refl
fails_else walks.Ends met ended = absurd (ended refl)
fails_else (walks.Hash parts words) met ended = absurd (met parts words refl)
