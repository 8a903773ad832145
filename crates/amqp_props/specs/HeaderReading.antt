-- Reading a content header from left to right: its size and values, or the first fault that is met (AMQP 0-9-1, section
-- 4.2.6.1 "The Content Header").
use Rattle.std.specs.Prelude.{◌≡◌, ℕ, suc, ◌%◌, ◌==◌, List, [], ◌∷◌, length, take, drop, Option, Some, None, Result, Ok, Err, nat_lt, if◌then◌else◌}
use Rattle.std.specs.Int.{Width, w16, w64, byte_len, from_be_bytes, bit_at}
use Rattle.std.specs.Str.{is_utf8}
use Rattle.field_tables.specs.Fields.{Pairs}
use Rattle.field_tables.specs.Reading.{table_at}
use Rattle.field_tables.specs.declared.fault.TableFault.{TableFault}
use Rattle.amqp_props.specs.declared.row.PropertyKind.{PropertyKind}
use Rattle.amqp_props.specs.declared.row.PropertyKind.TheVariants.{ShortString, Table, Octet, LongLong}
use Rattle.amqp_props.specs.declared.fault.PropsFault.{PropsFault}
use Rattle.amqp_props.specs.declared.fault.PropsFault.TheVariants.{Short, Class, Weight, Flags, Field, Trailing, Memory}
use Rattle.amqp_props.specs.ContentHeader.{property_rows, Value, short_string, field_table, octet, longlong}

infixl 10 ◌>>=◌
-- What is read next, unless a fault came before.
abbrev pub ◌>>=◌ : {A B : Type 0} → Result A PropsFault → (A → Result B PropsFault) → Result B PropsFault
(Ok x) >>= f = f x
(Err e) >>= f = Err e

-- The fault that was returned is the one that reading meets, unless memory ran out.
abbrev pub Fails : {Y : Type 0} → PropsFault → Result Y PropsFault → Type 0
Fails Memory read = Unit {0}
Fails e read = read ≡ Err e

-- What was returned, seen by view, is what reading gives, unless memory ran out.
abbrev pub Gives : {X Y : Type 0} → (X → Y) → Result X PropsFault → Result Y PropsFault → Type 0
Gives view (Ok x) read = read ≡ Ok (view x)
Gives view (Err e) read = Fails e read

-- The value at the front of the octets, and the octets behind it; none where no value of that kind is spelled there.
unfoldable pub text_at : List ℕ → Option (List ℕ × List ℕ)
text_at [] = None
text_at (n ∷ octets) =
    if nat_lt (length octets) n then None else
    if is_utf8 (take n octets) then Some (take n octets, drop n octets) else None

unfoldable pub octet_at : List ℕ → Option (ℕ × List ℕ)
octet_at [] = None
octet_at (n ∷ octets) = Some (n, octets)

unfoldable pub longlong_at : List ℕ → Option (ℕ × List ℕ)
longlong_at octets = if nat_lt (length octets) 8 then None else Some (from_be_bytes w64 (take 8 octets), drop 8 octets)

abbrev pub behind_table : List ℕ → Result (Pairs × ℕ) TableFault → Option (Pairs × List ℕ)
behind_table octets (Ok x) = Some (x.0, drop x.1 octets)
behind_table octets (Err e) = None

-- a value that was found, or the fault of the property at that place
abbrev pub found_at : {A : Type 0} → ℕ → (A → Value) → Option (A × List ℕ) → Result (Option Value × List ℕ) PropsFault
found_at place value None = Err (Field place)
found_at place value (Some x) = Ok (Some (value x.0), x.1)

unfoldable pub value_at : ℕ → PropertyKind → List ℕ → Result (Option Value × List ℕ) PropsFault
value_at place ShortString octets = found_at place short_string (text_at octets)
value_at place Table octets = found_at place field_table (behind_table octets (table_at octets))
value_at place Octet octets = found_at place octet (octet_at octets)
value_at place LongLong octets = found_at place longlong (longlong_at octets)

-- The property at that place, where its flag is set.
unfoldable pub property_at : ℕ → ℕ → ℕ → PropertyKind → List ℕ → Result (Option Value × List ℕ) PropsFault
property_at flags place bit kind octets = if bit_at flags bit == 0 then Ok (None, octets) else value_at place kind octets

-- the properties of these rows, the first of which has that place
unfoldable pub properties_at : ℕ → ℕ → List (ℕ × PropertyKind × List ℕ) → List ℕ → Result (List (Option Value) × List ℕ) PropsFault
properties_at flags place [] octets = Ok ([], octets)
properties_at flags place (row ∷ rows) octets = do
  x ← property_at flags place row.0 row.1 octets
  xs ← properties_at flags (suc place) rows x.1
  Ok (x.0 ∷ xs.0, xs.1)

-- the number that stands behind so many octets
abbrev pub number_at : Width → ℕ → List ℕ → ℕ
number_at w at octets = from_be_bytes w (take (byte_len w) (drop at octets))

-- The size of the body, the flags, and the octets behind them: behind the class, which is 60, and the weight, which is 0.
-- The flags of no property are clear.
unfoldable pub fixed_at : List ℕ → Result (ℕ × ℕ × List ℕ) PropsFault
fixed_at octets =
    if nat_lt (length octets) 14 then Err Short else
    if number_at w16 0 octets == 60 then
    if number_at w16 2 octets == 0 then
    if number_at w16 12 octets % 4 == 0 then Ok (number_at w64 4 octets, number_at w16 12 octets, drop 14 octets)
    else Err (Flags (number_at w16 12 octets))
    else Err (Weight (number_at w16 2 octets))
    else Err (Class (number_at w16 0 octets))

-- nothing is left over
abbrev pub ended_at : List ℕ → Result (Unit {0}) PropsFault
ended_at [] = Ok tt
ended_at (b ∷ octets) = Err (Trailing (length (b ∷ octets)))

-- The size of the body and the values of a content header that is all of the octets.
unfoldable pub header_at : List ℕ → Result (ℕ × List (Option Value)) PropsFault
header_at octets = do
  fixed ← fixed_at octets
  xs ← properties_at fixed.1 0 property_rows fixed.2
  end ← ended_at xs.1
  Ok (fixed.0, xs.0)
