-- The words of a schedule line, and the texts that they stand for.
use Rattle.std.specs.Prelude.{ℕ, ◌+◌, length, List, [], ◌∷◌, Bool, true, false, ◌&&◌, ◌||◌, not, if◌then◌else◌, ◌==◌, nat_le, codes}
use Rattle.std.specs.List.{slice_split, slice_index_or, sum_by}
use Rattle.std.specs.Str.{is_utf8}
use Rattle.std.specs.Str.Lossy.{utf8_lossy}
use Rattle.percent_encoding.specs.Percent.{percent_decode}
use Rattle.fed_journal.specs.Names.{same_text}

-- what stands between the separators
unfoldable pub pieces_of : ℕ → List ℕ → List (List ℕ)
pieces_of separator octets = slice_split (λ b. b == separator) octets

-- the words of a line stand between single spaces
unfoldable pub words_of : List ℕ → List (List ℕ)
words_of line = pieces_of 32 line

-- the octets of a word and of the space after it
abbrev pub with_space : List ℕ → ℕ
with_space w = length w + 1

-- the same of all the words of a line
abbrev pub spaced_length : List (List ℕ) → ℕ
spaced_length ws = sum_by with_space ws

-- the word at a place, counted from 0; no octets where the line has fewer words
abbrev pub word_at : List (List ℕ) → ℕ → List ℕ
word_at ws i = slice_index_or ws i []

-- the octets that a word stands for: none for `-`, else its percent-decoding (RFC 3986, 2.1)
unfoldable pub octets_of : List ℕ → List ℕ
octets_of w = if same_text w (codes "-") then [] else percent_decode w

-- the same as a text, in which U+FFFD stands for octets that are not UTF-8 (Unicode, 3.9)
unfoldable pub text_of : List ℕ → List ℕ
text_of w = utf8_lossy (octets_of w)

-- the word stands for UTF-8 (RFC 3629)
unfoldable pub is_text : List ℕ → Bool
is_text w = is_utf8 (octets_of w)

-- 0-9 A-F a-f
abbrev pub is_hex_digit : ℕ → Bool
is_hex_digit b = (nat_le 48 b && nat_le b 57) || (nat_le 65 b && nat_le b 70) || (nat_le 97 b && nat_le b 102)

abbrev pub begins_with_two_digits : List ℕ → Bool
begins_with_two_digits (high ∷ low ∷ _) = is_hex_digit high && is_hex_digit low
begins_with_two_digits _ = false

-- each `%` stands before two hexadecimal digits (RFC 3986, 2.1)
unfoldable pub is_well_escaped : List ℕ → Bool
is_well_escaped [] = true
is_well_escaped (b ∷ bs) = (not (b == 37) || begins_with_two_digits bs) && is_well_escaped bs
