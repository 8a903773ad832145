-- Where a walk along a pattern and a key has come.
use Rattle.std.specs.Prelude.{◌≡◌, ℕ, suc, Bool, true, false, List, [], length, Option, Some, None}
use Rattle.std.specs.Option.{option_copied}
use Rattle.std.specs.List.{slice_split}
use Rattle.binding_match.specs.Topics.{is_dot, covers, some_end}
use Rattle.binding_match.specs.declared.topic.Walk.{Walk}
use Rattle.binding_match.specs.declared.topic.Walk.TheVariants as walks

-- the words in what is left of a text; nothing is left behind the last word
abbrev pub words_in : Option (List ℕ) → List (List ℕ)
words_in None = []
words_in (Some text) = slice_split is_dot text

-- what the walk answers, once `#` may stand for any words from here on
abbrev pub answer_of : Walk → Bool
answer_of walks.Fails = false
answer_of walks.Ends = true
answer_of (walks.Hash parts words) = some_end (covers (words_in (option_copied parts))) (words_in (option_copied words))

-- how many words of the pattern are left
abbrev pub left_of : Walk → ℕ
left_of walks.Fails = 0
left_of walks.Ends = 0
left_of (walks.Hash parts words) = suc (length (words_in (option_copied parts)))

-- where parts cover some end of the words, so does what is left of them from here on
abbrev pub StaysAhead : List (List ℕ) → List (List ℕ) → Walk → Type 0
StaysAhead ps ws walks.Fails = Unit {0}
StaysAhead ps ws walks.Ends = Unit {0}
StaysAhead ps ws (walks.Hash parts words) = some_end (covers ps) ws ≡ true → answer_of (walks.Hash parts words) ≡ true
