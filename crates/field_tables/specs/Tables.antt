-- The grammar of field tables: what has a spelling, and the one spelling of each value and table.
use Rattle.std.specs.Prelude.{ℕ, suc, ◌≤◌, ◌<◌, ◌^◌, max, ◌≡◌, List, [], ◌∷◌, ◌++◌, length, IsUtf8}
use Rattle.std.specs.Int.{w8, w16, w32, w64, to_be_bytes, cast_unsigned, from_bool}
use Rattle.std.specs.Int.RustNames.{FitsSigned}
use Rattle.field_tables.specs.Fields.{Field, boolean, signed_octet, octet, signed_short, short, signed_long, long, signed_longlong, float, double, decimal, long_string, array, timestamp, table, void, byte_array, Fields, no_fields, field, Pairs, no_pairs, pair}
use Rattle.field_tables.specs.declared.kind.Kind.{Kind}
use Rattle.field_tables.specs.declared.kind.Kind.TheVariants.{Fixed, Counted}
use Rattle.field_tables.specs.declared.kind.Counted as counted_kind
use Rattle.field_tables.specs.declared.kind.Counted.TheVariants.{LongString, Array, Table, ByteArray}
use Rattle.field_tables.specs.declared.kind.Fixed as fixed_kind
use Rattle.field_tables.specs.declared.kind.Fixed.TheVariants.{Boolean, SignedOctet, Octet, SignedShort, Short, SignedLong, Long, SignedLongLong, Float, Double, Decimal, Timestamp, Void}

-- How deep the values of a table may nest; a value that stands in the table itself is at depth 1.
abbrev pub max_depth : ℕ
max_depth = 32

-- The octet that names a field type (RabbitMQ's AMQP 0-9-1 Errata, "Field types"): t b B s u I i l f d D T V here.
abbrev pub fixed_octet : fixed_kind.Fixed → ℕ
fixed_octet Boolean = 116
fixed_octet SignedOctet = 98
fixed_octet Octet = 66
fixed_octet SignedShort = 115
fixed_octet Short = 117
fixed_octet SignedLong = 73
fixed_octet Long = 105
fixed_octet SignedLongLong = 108
fixed_octet Float = 102
fixed_octet Double = 100
fixed_octet Decimal = 68
fixed_octet Timestamp = 84
fixed_octet Void = 86

-- S A F x here.
abbrev pub counted_octet : counted_kind.Counted → ℕ
counted_octet LongString = 83
counted_octet Array = 65
counted_octet Table = 70
counted_octet ByteArray = 120

abbrev pub kind_octet : Kind → ℕ
kind_octet (Fixed kind) = fixed_octet kind
kind_octet (Counted kind) = counted_octet kind

-- The field type of a value.
abbrev pub kind_of : Field → Kind
kind_of (boolean b) = Fixed Boolean
kind_of (signed_octet z) = Fixed SignedOctet
kind_of (octet n) = Fixed Octet
kind_of (signed_short z) = Fixed SignedShort
kind_of (short n) = Fixed Short
kind_of (signed_long z) = Fixed SignedLong
kind_of (long n) = Fixed Long
kind_of (signed_longlong z) = Fixed SignedLongLong
kind_of (float bytes) = Fixed Float
kind_of (double bytes) = Fixed Double
kind_of (decimal bytes) = Fixed Decimal
kind_of (long_string bytes) = Counted LongString
kind_of (array vs) = Counted Array
kind_of (timestamp n) = Fixed Timestamp
kind_of (table ps) = Counted Table
kind_of void = Fixed Void
kind_of (byte_array bytes) = Counted ByteArray

-- Octets behind their number, a long (AMQP 0-9-1, 4.2.5.3 "Strings": long strings; 4.2.5.5 "Field Tables").
abbrev pub counted_spelling : List ℕ → List ℕ
counted_spelling bytes = to_be_bytes w32 (length bytes) ++ bytes

-- A name: a short string, its length in one octet (AMQP 0-9-1, 4.2.5.3 "Strings").
abbrev pub name_spelling : List ℕ → List ℕ
name_spelling name = length name ∷ name

-- The field type's octet, and the value behind it (AMQP 0-9-1, 4.2.1 "Formal Protocol Grammar": field-value).
abbrev pub typed : Kind → List ℕ → List ℕ
typed kind content = kind_octet kind ∷ content

abbrev mutual
  -- The value behind its field type (RabbitMQ's AMQP 0-9-1 Errata, "Field types").
  pub content_spelling : Field → List ℕ
  content_spelling (boolean b) = from_bool b ∷ []
  content_spelling (signed_octet z) = cast_unsigned w8 z ∷ []
  content_spelling (octet n) = n ∷ []
  content_spelling (signed_short z) = to_be_bytes w16 (cast_unsigned w16 z)
  content_spelling (short n) = to_be_bytes w16 n
  content_spelling (signed_long z) = to_be_bytes w32 (cast_unsigned w32 z)
  content_spelling (long n) = to_be_bytes w32 n
  content_spelling (signed_longlong z) = to_be_bytes w64 (cast_unsigned w64 z)
  content_spelling (float bytes) = bytes
  content_spelling (double bytes) = bytes
  content_spelling (decimal bytes) = bytes
  content_spelling (long_string bytes) = counted_spelling bytes
  content_spelling (array vs) = counted_spelling (fields_spelling vs)
  content_spelling (timestamp n) = to_be_bytes w64 n
  content_spelling (table ps) = counted_spelling (pairs_spelling ps)
  content_spelling void = []
  content_spelling (byte_array bytes) = counted_spelling bytes

  -- The values of an array, one after the other (AMQP 0-9-1, 4.2.1: field-array).
  pub fields_spelling : Fields → List ℕ
  fields_spelling no_fields = []
  fields_spelling (field v vs) = typed (kind_of v) (content_spelling v) ++ fields_spelling vs

  -- The names and values of a table (AMQP 0-9-1, 4.2.5.5 "Field Tables").
  pub pairs_spelling : Pairs → List ℕ
  pairs_spelling no_pairs = []
  pairs_spelling (pair name v ps) = name_spelling name ++ (typed (kind_of v) (content_spelling v) ++ pairs_spelling ps)

-- A value: its field type's octet, and its content.
abbrev pub value_spelling : Field → List ℕ
value_spelling v = typed (kind_of v) (content_spelling v)

-- A table: the number of its octets, and its names and values (AMQP 0-9-1, 4.2.5.5 "Field Tables").
abbrev pub table_spelling : Pairs → List ℕ
table_spelling ps = counted_spelling (pairs_spelling ps)

abbrev mutual
  -- How many levels of values a value has, itself counted.
  pub depth : Field → ℕ
  depth (array vs) = suc (fields_depth vs)
  depth (table ps) = suc (pairs_depth ps)
  depth _ = 1

  pub fields_depth : Fields → ℕ
  fields_depth no_fields = 0
  fields_depth (field v vs) = max (depth v) (fields_depth vs)

  pub pairs_depth : Pairs → ℕ
  pairs_depth no_pairs = 0
  pairs_depth (pair name v ps) = max (depth v) (pairs_depth ps)

-- Octets that a long can count.
abbrev pub IsCounted : List ℕ → Type 0
IsCounted bytes = length bytes < 2 ^ 32

-- A name: UTF-8 of at most 255 octets.
pub record IsName (name : List ℕ) : Type 0 where
  pub text : IsUtf8 name
  pub fits : length name < 256

abbrev mutual
  -- Each number, text and length within the value fits its field type.
  pub HasSpelling : Field → Type 0
  HasSpelling (boolean b) = Unit {0}
  HasSpelling (signed_octet z) = FitsSigned w8 z
  HasSpelling (octet n) = n < 256
  HasSpelling (signed_short z) = FitsSigned w16 z
  HasSpelling (short n) = n < 2 ^ 16
  HasSpelling (signed_long z) = FitsSigned w32 z
  HasSpelling (long n) = n < 2 ^ 32
  HasSpelling (signed_longlong z) = FitsSigned w64 z
  HasSpelling (float bytes) = length bytes ≡ 4
  HasSpelling (double bytes) = length bytes ≡ 8
  HasSpelling (decimal bytes) = length bytes ≡ 5
  HasSpelling (long_string bytes) = IsCounted bytes
  HasSpelling (array vs) = IsCounted (fields_spelling vs) × HaveSpelling vs
  HasSpelling (timestamp n) = n < 2 ^ 64
  HasSpelling (table ps) = IsCounted (pairs_spelling ps) × ArePairs ps
  HasSpelling void = Unit {0}
  HasSpelling (byte_array bytes) = IsCounted bytes

  pub HaveSpelling : Fields → Type 0
  HaveSpelling no_fields = Unit {0}
  HaveSpelling (field v vs) = HasSpelling v × HaveSpelling vs

  pub ArePairs : Pairs → Type 0
  ArePairs no_pairs = Unit {0}
  ArePairs (pair name v ps) = IsName name × HasSpelling v × ArePairs ps

-- A table that has a spelling: its parts fit, and it nests at most 32 deep.
pub record IsTable (ps : Pairs) : Type 0 where
  pub pairs : ArePairs ps
  pub counted : IsCounted (pairs_spelling ps)
  pub nests : pairs_depth ps ≤ max_depth
