-- Which routing keys a pattern of a topic exchange matches (AMQP 0-9-1, 3.1.3.3 "The Topic Exchange Type").
use Rattle.std.specs.Prelude.{◌≡◌, ℕ, Bool, true, false, ◌||◌, ◌&&◌, ◌==◌, List, [], ◌∷◌, ◌++◌, length, codes, if◌then◌else◌}
use Rattle.std.specs.List.{slice_split}
use Rattle.std.specs.Str.{bytes_eq}

-- Words are joined by dots (AMQP 0-9-1, 3.1.3.3: "zero or more words delimited by dots").
abbrev pub is_dot : ℕ → Bool
is_dot c = c == 46

-- The words of a routing key or of a pattern; the empty text has none.
abbrev pub words : List ℕ → List (List ℕ)
words [] = []
words (c ∷ cs) = slice_split is_dot (c ∷ cs)

abbrev pub hash : List ℕ
hash = codes "#"

abbrev pub star : List ℕ
star = codes "*"

-- What a word of a pattern stands for (AMQP 0-9-1, 3.1.3.3: "* matches a single word, and # matches zero or more words").
pub data StandsFor (part : List ℕ) (run : List (List ℕ)) : Type 0 where
  any_words : part ≡ hash → StandsFor part run
  any_word : part ≡ star → length run ≡ 1 → StandsFor part run
  itself : run ≡ part ∷ [] → StandsFor part run

-- The words of a pattern cover those of a key: the key is cut into runs, and each word of the pattern stands for one.
abbrev pub Covers : List (List ℕ) → List (List ℕ) → Type 0
Covers [] ws = ws ≡ []
Covers (part ∷ parts) ws = (run : List (List ℕ)) × (rest : List (List ℕ)) × (ws ≡ run ++ rest) × StandsFor part run × Covers parts rest

-- Some end of the words passes the test: words stand before it for `#`.
unfoldable pub some_end : (List (List ℕ) → Bool) → List (List ℕ) → Bool
some_end test [] = test []
some_end test (w ∷ ws) = test (w ∷ ws) || some_end test ws

-- A word stands for the first word of a key, and the others pass the test.
unfoldable pub one_word : List ℕ → (List (List ℕ) → Bool) → List (List ℕ) → Bool
one_word part test [] = false
one_word part test (w ∷ ws) = (bytes_eq part star || bytes_eq part w) && test ws

-- `Covers` as a test, for definitions that choose by it.
unfoldable pub covers : List (List ℕ) → List (List ℕ) → Bool
covers [] [] = true
covers [] (w ∷ ws) = false
covers (part ∷ parts) ws = if bytes_eq part hash then some_end (covers parts) ws else one_word part (covers parts) ws
