-- The arguments of a method: their kinds, what octets may stand for each, and those that are written.
-- AMQP 0-9-1, 4.2.1 "Formal Protocol Grammar" (arguments) and 4.2.5 "AMQP Data Fields".
use Rattle.std.specs.Prelude.{ℕ, zero, suc, ◌+◌, ◌*◌, ◌/◌, ◌%◌, ◌^◌, ◌<◌, ◌≤◌, ◌≡◌, ◌==◌, Bool, List, [], ◌∷◌, ◌++◌, length}
use Rattle.std.specs.List.{flat_map}
use Rattle.std.specs.Int.{w16, w32, w64, to_be_bytes, from_bool}
use Rattle.field_tables.specs.Fields.{Pairs}
use Rattle.field_tables.specs.Tables.{IsName, IsCounted, IsTable, name_spelling, counted_spelling, table_spelling}

-- A kind of argument. Adjacent bits, which share an octet, are one entry, with their number.
pub data Kind : Type 0 where
  Octet : Kind
  Short : Kind
  Long : Kind
  LongLong : Kind
  ShortString : Kind
  LongString : Kind
  Table : Kind
  Bits : ℕ → Kind
  ReservedShort : Kind
  ReservedShortString : Kind
  ReservedLongString : Kind
  ReservedBit : Kind

-- An argument, without where it lies in memory. A reserved one has no value.
pub data Argument : Type 0 where
  octet : ℕ → Argument
  short : ℕ → Argument
  long : ℕ → Argument
  longlong : ℕ → Argument
  short_string : List ℕ → Argument
  long_string : List ℕ → Argument
  table : Pairs → Argument
  bits : List Bool → Argument
  reserved_short : Argument
  reserved_short_string : Argument
  reserved_long_string : Argument
  reserved_bit : Argument

abbrev pub kind_of : Argument → Kind
kind_of (octet n) = Octet
kind_of (short n) = Short
kind_of (long n) = Long
kind_of (longlong n) = LongLong
kind_of (short_string text) = ShortString
kind_of (long_string text) = LongString
kind_of (table ps) = Table
kind_of (bits bs) = Bits (length bs)
kind_of reserved_short = ReservedShort
kind_of reserved_short_string = ReservedShortString
kind_of reserved_long_string = ReservedLongString
kind_of reserved_bit = ReservedBit

-- A bit of an octet; the lowest one is number 0.
unfoldable pub has_bit : ℕ → ℕ → Bool
has_bit k shared = (shared / 2 ^ k) % 2 == 1

-- So many bits of an octet from number k on (AMQP 0-9-1, 4.2.5.2 "Bits").
abbrev pub bits_from : ℕ → ℕ → ℕ → List Bool
bits_from k zero shared = []
bits_from k (suc n) shared = has_bit k shared ∷ bits_from (suc k) n shared

-- The octet whose low bits are these and whose others are 0.
abbrev pub bits_octet : List Bool → ℕ
bits_octet [] = 0
bits_octet (b ∷ bs) = from_bool b + 2 * bits_octet bs

-- What has a spelling: each number, text and length fits its kind, and adjacent bits fit an octet.
abbrev pub HasSpelling : Argument → Type 0
HasSpelling (octet n) = n < 256
HasSpelling (short n) = n < 2 ^ 16
HasSpelling (long n) = n < 2 ^ 32
HasSpelling (longlong n) = n < 2 ^ 64
HasSpelling (short_string text) = IsName text
HasSpelling (long_string text) = IsCounted text
HasSpelling (table ps) = IsTable ps
HasSpelling (bits bs) = length bs ≤ 8
HasSpelling _ = Unit {0}

-- The octets that are written: 0 or nothing for what is reserved, and 0 for unused bits.
abbrev pub written : Argument → List ℕ
written (octet n) = n ∷ []
written (short n) = to_be_bytes w16 n
written (long n) = to_be_bytes w32 n
written (longlong n) = to_be_bytes w64 n
written (short_string text) = name_spelling text
written (long_string text) = counted_spelling text
written (table ps) = table_spelling ps
written (bits bs) = bits_octet bs ∷ []
written reserved_short = to_be_bytes w16 0
written reserved_short_string = name_spelling []
written reserved_long_string = counted_spelling []
written reserved_bit = 0 ∷ []

-- Octets may stand for an argument: those that are written, and for what is reserved any that have its form.
-- Of the octet of adjacent bits the lowest ones count, from the first bit up.
abbrev pub Spells : Argument → List ℕ → Type 0
Spells (bits bs) bytes = (shared : ℕ) × (shared < 256) × (bits_from 0 (length bs) shared ≡ bs) × (bytes ≡ shared ∷ [])
Spells reserved_short bytes = (n : ℕ) × (n < 2 ^ 16) × (bytes ≡ to_be_bytes w16 n)
Spells reserved_short_string bytes = (text : List ℕ) × IsName text × (bytes ≡ name_spelling text)
Spells reserved_long_string bytes = (text : List ℕ) × IsCounted text × (bytes ≡ counted_spelling text)
Spells reserved_bit bytes = (shared : ℕ) × (shared < 256) × (bytes ≡ shared ∷ [])
Spells argument bytes = bytes ≡ written argument

-- One spelling for each argument, one after the other, and nothing after them.
abbrev pub SpellAll : List Argument → List ℕ → Type 0
SpellAll [] bytes = bytes ≡ []
SpellAll (argument ∷ others) bytes = (front : List ℕ) × (rest : List ℕ) × (bytes ≡ front ++ rest) × Spells argument front × SpellAll others rest

abbrev pub arguments_spelling : List Argument → List ℕ
arguments_spelling arguments = flat_map written arguments
