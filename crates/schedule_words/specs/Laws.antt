-- What words that are written say when they are read.
use Rattle.std.specs.Prelude.{ℕ, ◌≡◌, ◌<◌, ◌≤◌, List, All, true, length, Some, IsUtf8}
use Rattle.std.specs.Fmt.{decimal}
use Rattle.fed_journal.specs.declared.place.Place.{Place}
use Rattle.fed_journal.specs.Words.{word, place_word}
use Rattle.schedule_words.specs.Words.{octets_of, text_of, is_text, is_well_escaped}
use Rattle.schedule_words.specs.Numbers.{number_within}
use Rattle.schedule_words.specs.Fields.{place_of}

-- a number that is an octet
abbrev pub IsOctet : ℕ → Type 0
IsOctet b = b < 256

-- the octet is no space, no end of a line, and none of the other control characters before them (RFC 20, 4)
abbrev pub IsVisible : ℕ → Type 0
IsVisible b = 32 < b

-- octets that stand in a line as one word: there are some, all are visible, and each `%` stands before two hexadecimal digits (RFC 3986, 2.1)
pub record IsOneWord (w : List ℕ) : Type 0 where
  pub some : 0 < length w
  pub visible : All IsVisible w
  pub escaped : is_well_escaped w ≡ true

-- the word that is written for octets is one word, and stands for them (RFC 3986, 2.1)
pub record OctetsComeBack (t : List ℕ) : Type 0 where
  pub written : IsOneWord (word t)
  pub read : octets_of (word t) ≡ t

-- the word that is written for a text is UTF-8, and stands for the text (RFC 3629)
pub record TextComesBack (t : List ℕ) : Type 0 where
  pub valid : is_text (word t) ≡ true
  pub read : text_of (word t) ≡ t

-- the word that is written for a place is one word and UTF-8, and stands for the place (RabbitMQ, Virtual Hosts)
pub record PlaceComesBack (p : Place) : Type 0 where
  pub written : IsOneWord (place_word p)
  pub valid : is_text (place_word p) ≡ true
  pub read : place_of (place_word p) ≡ p

-- the word that is written for a number is one word and UTF-8, and stands for the number
pub record NumberComesBack (least most n : ℕ) : Type 0 where
  pub written : IsOneWord (decimal n)
  pub valid : is_text (decimal n) ≡ true
  pub read : number_within least most (decimal n) ≡ Some n

abbrev pub WordsComeBack : Type 0
WordsComeBack = (t : List ℕ) → All IsOctet t → OctetsComeBack t

abbrev pub TextsComeBack : Type 0
TextsComeBack = (t : List ℕ) → IsUtf8 t → TextComesBack t

abbrev pub PlacesComeBack : Type 0
PlacesComeBack = (p : Place) → IsUtf8 p.broker → IsUtf8 p.vhost → PlaceComesBack p

abbrev pub NumbersComeBack : Type 0
NumbersComeBack = (least most n : ℕ) → least ≤ n → n ≤ most → most < 18446744073709551616 → NumberComesBack least most n
