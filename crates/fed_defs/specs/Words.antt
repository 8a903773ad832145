-- The words of which link names are made: percent-encoded texts (RFC 3986, section 2.1), each without `/` and `:`.
use Rattle.std.specs.Prelude.{ℕ, ◌+◌, ◌/◌, ◌%◌, List, [], ◌∷◌, ◌++◌, Bool, ◌||◌, ◌&&◌, if◌then◌else◌, ◌==◌, nat_le, nat_lt, flat_map, codes}
use Rattle.fed_defs.specs.Texts.{same_text}

-- the octets that stand for themselves: A-Z a-z 0-9 . _ * # -
abbrev pub is_plain : ℕ → Bool
is_plain b =
    (nat_le 65 b && nat_le b 90) || (nat_le 97 b && nat_le b 122) || (nat_le 48 b && nat_le b 57)
    || b == 46 || b == 95 || b == 42 || b == 35 || b == 45

abbrev pub hex_digit : ℕ → ℕ
hex_digit n = if nat_lt n 10 then 48 + n else 55 + n

-- any other octet is `%` and two upper-case hexadecimal digits (RFC 3986, section 2.1)
abbrev pub percent_octet : ℕ → List ℕ
percent_octet b = if is_plain b then b ∷ [] else 37 ∷ hex_digit (b / 16) ∷ hex_digit (b % 16) ∷ []

-- the empty text is `-`, and the text `-` is `%2D`, so that no two texts have one word
abbrev pub word : List ℕ → List ℕ
word [] = codes "-"
word (b ∷ bs) = if same_text (b ∷ bs) (codes "-") then codes "%2D" else flat_map percent_octet (b ∷ bs)

-- a place is its broker for the virtual host `/`, else the broker and the virtual host
abbrev pub place_word : List ℕ → List ℕ → List ℕ
place_word broker vhost = if same_text vhost (codes "/") then word broker else word broker ++ codes ":" ++ word vhost
