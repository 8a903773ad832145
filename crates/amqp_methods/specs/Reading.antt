-- Reading a method's payload from left to right: the method, or the first fault that is met.
use Rattle.std.specs.Prelude.{◌≡◌, ℕ, ◌+◌, Bool, List, [], ◌∷◌, length, take, drop, Option, Some, None, Result, Ok, Err, IsTrue}
use Rattle.std.specs.Int.{w16, w32, w64, from_be_bytes}
use Rattle.field_tables.specs.Reading.{octet_at, number_at, counted_at, name_at, table_at}
use Rattle.field_tables.specs.declared.fault.TableFault.{TableFault}
use Rattle.amqp_methods.specs.Arguments.{Kind, Octet, Short, Long, LongLong, ShortString, LongString, Table, Bits, ReservedShort, ReservedShortString, ReservedLongString, ReservedBit, Argument, octet, short, long, longlong, short_string, long_string, table, bits, reserved_short, reserved_short_string, reserved_long_string, reserved_bit, bits_from}
use Rattle.amqp_methods.specs.Methods.{Call, call}
use Rattle.amqp_methods.specs.Rows.{kinds_of, any_copied}
use Rattle.amqp_methods.specs.declared.fault.MethodFault.{MethodFault}
use Rattle.amqp_methods.specs.declared.fault.MethodFault.TheVariants as faults

infixl 10 ◌>>=◌
-- What is read next, unless a fault came before.
abbrev pub ◌>>=◌ : {A B : Type 0} → Result A MethodFault → (A → Result B MethodFault) → Result B MethodFault
(Ok x) >>= f = f x
(Err e) >>= f = Err e

-- The fault that was returned is the one that reading meets, unless memory ran out where values are copied.
abbrev pub Fails : {Y : Type 0} → Bool → MethodFault → Result Y MethodFault → Type 0
Fails copied faults.Memory read = IsTrue copied
Fails copied e read = read ≡ Err e

-- What was returned, seen by view, is what reading gives, unless memory ran out where values are copied.
abbrev pub Gives : {X Y : Type 0} → Bool → (X → Y) → Result X MethodFault → Result Y MethodFault → Type 0
Gives copied view (Ok x) read = read ≡ Ok (view x)
Gives copied view (Err e) read = Fails copied e read

-- The fault where no such spelling begins.
abbrev pub otherwise : {A : Type 0} → MethodFault → Result A TableFault → Result A MethodFault
otherwise fault (Ok x) = Ok x
otherwise fault (Err e) = Err fault

-- An argument by its number in the row, counted from 0, each bit as one.
abbrev pub in_place : {A : Type 0} → ℕ → Result A TableFault → Result A MethodFault
in_place i read = otherwise (faults.Field i) read

-- the arguments that a kind counts
abbrev pub places : Kind → ℕ
places (Bits n) = n
places _ = 1

abbrev pub as_argument : {A : Type 0} → (A → Argument) → Result (A × List ℕ) MethodFault → Result (Argument × List ℕ) MethodFault
as_argument f read = read >>= λ x. Ok (f x.0, x.1)

-- a table and the octets after it
abbrev pub rest_after : {A : Type 0} → List ℕ → Result (A × ℕ) MethodFault → Result (A × List ℕ) MethodFault
rest_after bytes read = read >>= λ x. Ok (x.0, drop x.1 bytes)

-- the argument that the octets begin with, and the octets after it
abbrev pub argument_at : Kind → ℕ → List ℕ → Result (Argument × List ℕ) MethodFault
argument_at Octet i bytes = as_argument octet (in_place i (octet_at bytes))
argument_at Short i bytes = as_argument short (in_place i (number_at w16 bytes))
argument_at Long i bytes = as_argument long (in_place i (number_at w32 bytes))
argument_at LongLong i bytes = as_argument longlong (in_place i (number_at w64 bytes))
argument_at ShortString i bytes = as_argument short_string (in_place i (name_at bytes))
argument_at LongString i bytes = as_argument long_string (in_place i (counted_at bytes))
argument_at Table i bytes = as_argument table (rest_after bytes (in_place i (table_at bytes)))
argument_at (Bits n) i bytes = as_argument (λ shared. bits (bits_from 0 n shared)) (in_place i (octet_at bytes))
argument_at ReservedShort i bytes = as_argument (λ _. reserved_short) (in_place i (number_at w16 bytes))
argument_at ReservedShortString i bytes = as_argument (λ _. reserved_short_string) (in_place i (name_at bytes))
argument_at ReservedLongString i bytes = as_argument (λ _. reserved_long_string) (in_place i (counted_at bytes))
argument_at ReservedBit i bytes = as_argument (λ _. reserved_bit) (in_place i (octet_at bytes))

-- nothing stands after the last argument
unfoldable pub end_at : List ℕ → Result (List Argument) MethodFault
end_at [] = Ok []
end_at (b ∷ bytes) = Err (faults.Trailing (length (b ∷ bytes)))

-- the arguments of these kinds, which are all of the octets; the first one has number i
abbrev pub arguments_at : List Kind → ℕ → List ℕ → Result (List Argument) MethodFault
arguments_at [] i bytes = end_at bytes
arguments_at (kind ∷ kinds) i bytes = do
  x ← argument_at kind i bytes
  xs ← arguments_at kinds (i + places kind) x.1
  Ok (x.0 ∷ xs)

-- the method of that class and id, whose row has these kinds
abbrev pub row_at : ℕ → ℕ → Option (List Kind) → List ℕ → Result Call MethodFault
row_at class id None bytes = Err (faults.Unknown class id)
row_at class id (Some kinds) bytes = do
  arguments ← arguments_at kinds 0 bytes
  Ok (call class id arguments)

-- The method that a payload spells: its class and id, and its arguments.
unfoldable pub call_at : List ℕ → Result Call MethodFault
call_at payload = do
  class ← otherwise faults.Short (number_at w16 payload)
  id ← otherwise faults.Short (number_at w16 class.1)
  row_at class.0 id.0 (kinds_of class.0 id.0) id.1

-- Whether the row of the payload's class and id has arguments that are copied.
unfoldable pub copies : List ℕ → Bool
copies payload = any_copied (kinds_of (from_be_bytes w16 (take 2 payload)) (from_be_bytes w16 (take 2 (drop 2 payload))))
