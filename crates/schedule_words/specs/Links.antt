-- Names of links (RabbitMQ, Shovel and Federation: each link has one name).
use Rattle.std.specs.Prelude.{ℕ, List, [], ◌∷◌, ◌++◌, Bool, false, ◌||◌, flat_map, codes}
use Rattle.std.specs.List.{list_any}
use Rattle.fed_journal.specs.Words.{word, place_word}
use Rattle.schedule_words.specs.Words.{text_of, pieces_of}
use Rattle.schedule_words.specs.Fields.{place_of, is_long}

-- the parts of a link's name stand between slashes
unfoldable pub parts_of : List ℕ → List (List ℕ)
parts_of w = pieces_of 47 w

-- a part as a run writes it; an empty one is the empty text, as `-` is
unfoldable pub part_word : List ℕ → List ℕ
part_word part = word (text_of part)

-- the same of the part that is a place
unfoldable pub place_part_word : List ℕ → List ℕ
place_part_word part = place_word (place_of part)

abbrev pub next_part : List ℕ → List ℕ
next_part part = codes "/" ++ part_word part

-- the second part is a place
unfoldable pub joined : List (List ℕ) → List ℕ
joined [] = []
joined (first ∷ []) = part_word first
joined (first ∷ place ∷ others) = part_word first ++ codes "/" ++ place_part_word place ++ flat_map next_part others

-- the link's name as a run writes it
unfoldable pub link_name : List ℕ → List ℕ
link_name w = joined (parts_of w)

abbrev pub is_long_part : List ℕ → Bool
is_long_part part = is_long (text_of part)

abbrev pub is_long_place : List ℕ → Bool
is_long_place part = is_long (place_of part).broker || is_long (place_of part).vhost

unfoldable pub has_long : List (List ℕ) → Bool
has_long [] = false
has_long (first ∷ []) = is_long_part first
has_long (first ∷ place ∷ others) = is_long_part first || is_long_place place || list_any is_long_part others

-- a part of the link's name is too long
unfoldable pub is_bad_link : List ℕ → Bool
is_bad_link w = has_long (parts_of w)
