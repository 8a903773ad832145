-- Reading a field table from left to right: the value, or the first fault that is met.
use Rattle.std.specs.Prelude.{◌≡◌, ℕ, ℤ, zero, suc, ◌+◌, Bool, true, false, List, [], ◌∷◌, length, take, drop, Result, Ok, Err, nat_lt, ◌==◌, if◌then◌else◌}
use Rattle.std.specs.Int.{Width, w8, w16, w32, w64, byte_len, from_be_bytes, cast_signed}
use Rattle.std.specs.Str.{is_utf8}
use Rattle.field_tables.specs.Fields.{Field, boolean, signed_octet, octet, signed_short, short, signed_long, long, signed_longlong, float, double, decimal, long_string, array, timestamp, table, void, byte_array, Pairs}
use Rattle.field_tables.specs.Tables.{kind_octet, max_depth}
use Rattle.field_tables.specs.View.{fields_of, pairs_of, table_view}
use Rattle.field_tables.specs.declared.value.Table.{Table}
use Rattle.field_tables.specs.declared.kind.Kind.{Kind}
use Rattle.field_tables.specs.declared.kind.Kind.TheVariants as kinds
use Rattle.field_tables.specs.declared.kind.Counted.{Counted}
use Rattle.field_tables.specs.declared.kind.Counted.TheVariants as counted
use Rattle.field_tables.specs.declared.kind.Fixed.{Fixed}
use Rattle.field_tables.specs.declared.kind.Fixed.TheVariants as fixed
use Rattle.field_tables.specs.declared.fault.TableFault.{TableFault}
use Rattle.field_tables.specs.declared.fault.TableFault.TheVariants as faults

infixl 10 ◌>>=◌
-- What is read next, unless a fault came before.
abbrev pub ◌>>=◌ : {A B : Type 0} → Result A TableFault → (A → Result B TableFault) → Result B TableFault
(Ok x) >>= f = f x
(Err e) >>= f = Err e

-- The fault that was returned is the one that reading meets, unless memory ran out.
abbrev pub Fails : {Y : Type 0} → TableFault → Result Y TableFault → Type 0
Fails faults.Memory read = Unit {0}
Fails e read = read ≡ Err e

-- What was returned, seen by view, is what reading gives, unless memory ran out.
abbrev pub Gives : {X Y : Type 0} → (X → Y) → Result X TableFault → Result Y TableFault → Type 0
Gives view (Ok x) read = read ≡ Ok (view x)
Gives view (Err e) read = Fails e read

-- so many octets, and those after them
unfoldable pub octets_at : ℕ → List ℕ → Result (List ℕ × List ℕ) TableFault
octets_at n bytes = if nat_lt (length bytes) n then Err faults.Short else Ok (take n bytes, drop n bytes)

-- a number of one octet, and of several, the high one first (AMQP 0-9-1, 4.2.5.1 "Integers")
unfoldable pub octet_at : List ℕ → Result (ℕ × List ℕ) TableFault
octet_at [] = Err faults.Short
octet_at (b ∷ bytes) = Ok (b, bytes)

unfoldable pub number_at : Width → List ℕ → Result (ℕ × List ℕ) TableFault
number_at w bytes = do
  x ← octets_at (byte_len w) bytes
  Ok (from_be_bytes w x.0, x.1)

-- a signed number, in two's complement
abbrev pub signed : Width → Result (ℕ × List ℕ) TableFault → Result (ℤ × List ℕ) TableFault
signed w read = read >>= λ x. Ok (cast_signed w x.0, x.1)

-- a truth value is the octet 0 or 1
unfoldable pub boolean_at : List ℕ → Result (Bool × List ℕ) TableFault
boolean_at [] = Err faults.Short
boolean_at (zero ∷ bytes) = Ok (false, bytes)
boolean_at (suc zero ∷ bytes) = Ok (true, bytes)
boolean_at (suc (suc b) ∷ bytes) = Err (faults.BadBool (suc (suc b)))

-- octets behind their number
unfoldable pub counted_at : List ℕ → Result (List ℕ × List ℕ) TableFault
counted_at bytes = do
  n ← number_at w32 bytes
  octets_at n.0 n.1

-- a text is UTF-8
abbrev pub text_at : List ℕ → Result (List ℕ) TableFault
text_at bytes = if is_utf8 bytes then Ok bytes else Err faults.BadText

-- a name: its length in one octet, and a text (AMQP 0-9-1, 4.2.5.3 "Strings")
unfoldable pub name_at : List ℕ → Result (List ℕ × List ℕ) TableFault
name_at bytes = do
  n ← octet_at bytes
  name ← octets_at n.0 n.1
  text ← text_at name.0
  Ok (text, name.1)

abbrev pub all_kinds : List Kind
all_kinds = kinds.Fixed fixed.Boolean ∷ kinds.Fixed fixed.SignedOctet ∷ kinds.Fixed fixed.Octet ∷ kinds.Fixed fixed.SignedShort ∷ kinds.Fixed fixed.Short
    ∷ kinds.Fixed fixed.SignedLong ∷ kinds.Fixed fixed.Long ∷ kinds.Fixed fixed.SignedLongLong ∷ kinds.Fixed fixed.Float ∷ kinds.Fixed fixed.Double
    ∷ kinds.Fixed fixed.Decimal ∷ kinds.Counted counted.LongString ∷ kinds.Counted counted.Array ∷ kinds.Fixed fixed.Timestamp ∷ kinds.Counted counted.Table ∷ kinds.Fixed fixed.Void ∷ kinds.Counted counted.ByteArray ∷ []

-- the field type that an octet names
abbrev pub named_kind : List Kind → ℕ → Result Kind TableFault
named_kind [] b = Err (faults.BadKind b)
named_kind (k ∷ ks) b = if b == kind_octet k then Ok k else named_kind ks b

unfoldable pub kind_at : ℕ → Result Kind TableFault
kind_at b = named_kind all_kinds b

-- what was read, as a field
abbrev pub as_field : {A : Type 0} → (A → Field) → Result (A × List ℕ) TableFault → Result (Field × List ℕ) TableFault
as_field f read = read >>= λ x. Ok (f x.0, x.1)

-- the values of an array up to its end; n is at least the number of octets
unfoldable pub fields_at : (List ℕ → Result (Field × List ℕ) TableFault) → ℕ → List ℕ → Result (List Field) TableFault
fields_at value n [] = Ok []
fields_at value zero (b ∷ bytes) = Ok []
fields_at value (suc n) (b ∷ bytes) = do
  v ← value (b ∷ bytes)
  vs ← fields_at value n v.1
  Ok (v.0 ∷ vs)

-- the names and values of a table up to its end
unfoldable pub pairs_at : (List ℕ → Result (Field × List ℕ) TableFault) → ℕ → List ℕ → Result (List (List ℕ × Field)) TableFault
pairs_at value n [] = Ok []
pairs_at value zero (b ∷ bytes) = Ok []
pairs_at value (suc n) (b ∷ bytes) = do
  name ← name_at (b ∷ bytes)
  v ← value name.1
  ps ← pairs_at value n v.1
  Ok ((name.0, v.0) ∷ ps)

-- a value of a fixed size behind its field type
unfoldable pub fixed_at : Fixed → List ℕ → Result (Field × List ℕ) TableFault
fixed_at fixed.Boolean bytes = as_field boolean (boolean_at bytes)
fixed_at fixed.SignedOctet bytes = as_field signed_octet (signed w8 (octet_at bytes))
fixed_at fixed.Octet bytes = as_field octet (octet_at bytes)
fixed_at fixed.SignedShort bytes = as_field signed_short (signed w16 (number_at w16 bytes))
fixed_at fixed.Short bytes = as_field short (number_at w16 bytes)
fixed_at fixed.SignedLong bytes = as_field signed_long (signed w32 (number_at w32 bytes))
fixed_at fixed.Long bytes = as_field long (number_at w32 bytes)
fixed_at fixed.SignedLongLong bytes = as_field signed_longlong (signed w64 (number_at w64 bytes))
fixed_at fixed.Float bytes = as_field float (octets_at 4 bytes)
fixed_at fixed.Double bytes = as_field double (octets_at 8 bytes)
fixed_at fixed.Decimal bytes = as_field decimal (octets_at 5 bytes)
fixed_at fixed.Timestamp bytes = as_field timestamp (number_at w64 bytes)
fixed_at fixed.Void bytes = Ok (void, bytes)

-- a value that is all of the octets; values inside are read by value
unfoldable pub inside_at : (List ℕ → Result (Field × List ℕ) TableFault) → Counted → List ℕ → Result Field TableFault
inside_at value counted.LongString bytes = Ok (long_string bytes)
inside_at value counted.ByteArray bytes = Ok (byte_array bytes)
inside_at value counted.Array bytes = do
  vs ← fields_at value (length bytes) bytes
  Ok (array (fields_of vs))
inside_at value counted.Table bytes = do
  ps ← pairs_at value (length bytes) bytes
  Ok (table (pairs_of ps))

-- the value behind its field type
unfoldable pub content_at : (List ℕ → Result (Field × List ℕ) TableFault) → Kind → List ℕ → Result (Field × List ℕ) TableFault
content_at value (kinds.Fixed kind) bytes = fixed_at kind bytes
content_at value (kinds.Counted kind) bytes = do
  x ← counted_at bytes
  v ← inside_at value kind x.0
  Ok (v, x.1)

-- A value of at most so many levels; the octet of a value below them is a fault.
unfoldable pub value_at : ℕ → List ℕ → Result (Field × List ℕ) TableFault
value_at zero bytes = do
  x ← octet_at bytes
  Err faults.Deep
value_at (suc d) bytes = do
  x ← octet_at bytes
  kind ← kind_at x.0
  content_at (value_at d) kind x.1

-- A table, and the number of its octets.
unfoldable pub table_at : List ℕ → Result (Pairs × ℕ) TableFault
table_at bytes = do
  x ← counted_at bytes
  ps ← pairs_at (value_at max_depth) (length x.0) x.0
  Ok (pairs_of ps, 4 + length x.0)

-- What was returned is the table, which takes so many octets, unless memory ran out.
abbrev pub GivesTable : Result (Table × ℕ) TableFault → Pairs → ℕ → Type 0
GivesTable result ps len = Gives {Y = Pairs × ℕ} (λ x. (table_view x.0, x.1)) result (Ok (ps, len))
