-- Arguments and header fields: words NAME=VALUE, in their order the names and values of a field table.
use Rattle.std.specs.Prelude.{ℕ, ◌+◌, Bool, true, false, not, ◌==◌, nat_eq, nat_lt, List, [], length, take, drop, map, Option, Some, None, option_map, option_and_then, is_some, if◌then◌else◌, Result, Ok, Err, codes}
use Rattle.std.specs.Result.{result_ok}
use Rattle.std.specs.Option.{unwrap_or}
use Rattle.std.specs.List.{position, starts_with}
use Rattle.hex.specs.Hex.{decode_of}
use Rattle.field_tables.specs.Fields.{Field, boolean, signed_long, signed_longlong, long_string, void, Pairs, no_pairs, pair}
use Rattle.field_tables.specs.Tables.{max_depth}
use Rattle.field_tables.specs.Reading.{value_at}
use Rattle.field_tables.specs.View.{pairs_of}
use Rattle.field_tables.specs.declared.fault.TableFault.{TableFault}
use Rattle.fed_journal.specs.Names.{same_text}
use Rattle.schedule_words.specs.Words.{octets_of, text_of}
use Rattle.schedule_words.specs.Numbers.{long_of, longlong_of}
use Rattle.schedule_words.specs.Fields.{is_long}

-- the most octets of a content header's payload, which is one frame (AMQP 0-9-1, 4.2.6.1 "The Content Header")
abbrev pub max_header : ℕ
max_header = 131064

abbrev pub cut_around : List ℕ → Option ℕ → Option (List ℕ × List ℕ)
cut_around w None = None
cut_around w (Some at) = Some (take at w, drop (at + 1) w)

abbrev pub is_octet : ℕ → ℕ → Bool
is_octet separator b = b == separator

-- what stands before the first separator, and what stands after it
unfoldable pub cut_at : ℕ → List ℕ → Option (List ℕ × List ℕ)
cut_at separator w = cut_around w (position (is_octet separator) w)

-- the truth values
unfoldable pub truth_of : List ℕ → Option Field
truth_of w =
    if same_text w (codes "0") then Some (boolean false) else
    if same_text w (codes "1") then Some (boolean true) else None

-- nothing stands behind the type of no value
unfoldable pub void_of : List ℕ → Option Field
void_of w = if length w == 0 then Some void else None

-- the table that was read, if it was
abbrev pub table_in : Result (Pairs × ℕ) TableFault → Option Pairs
table_in (Ok x) = Some x.0
table_in (Err fault) = None

-- the value of a table that has just one
abbrev pub only_value : Pairs → Option Field
only_value (pair name v no_pairs) = Some v
only_value _ = None

-- a value that is all of what was read
abbrev pub whole_value : Result (Field × List ℕ) TableFault → Option Field
whole_value (Ok x) = if length x.1 == 0 then Some x.0 else None
whole_value (Err fault) = None

-- a field type's octet and the spelling of exactly one value behind it; one that is too long for any content header is none
unfoldable pub spelled_value : List ℕ → Option Field
spelled_value octets = if nat_lt max_header (length octets) then None else whole_value (value_at max_depth octets)

-- such octets in hexadecimal digits (RFC 4648, 8)
unfoldable pub raw_of : List ℕ → Option Field
raw_of w = option_and_then spelled_value (result_ok (decode_of w))

-- a value of the type that is named (RabbitMQ's AMQP 0-9-1 Errata, "Field types")
unfoldable pub typed_value : List ℕ → List ℕ → Option Field
typed_value type w =
    if same_text type (codes "S") then Some (long_string (octets_of w)) else
    if same_text type (codes "I") then option_map signed_long (long_of w) else
    if same_text type (codes "l") then option_map signed_longlong (longlong_of w) else
    if same_text type (codes "t") then truth_of w else
    if same_text type (codes "V") then void_of w else
    if same_text type (codes "raw") then raw_of w else None

abbrev pub value_from : Option (List ℕ × List ℕ) → Option Field
value_from None = None
value_from (Some parts) = typed_value parts.0 parts.1

-- VALUE: its type stands before the first `:`
unfoldable pub value_of : List ℕ → Option Field
value_of w = value_from (cut_at 58 w)

-- the number of a value is none
abbrev pub is_bad_number_of : List ℕ → List ℕ → Bool
is_bad_number_of type w =
    if same_text type (codes "I") then not (is_some (long_of w)) else
    if same_text type (codes "l") then not (is_some (longlong_of w)) else false

abbrev pub is_bad_number_from : Option (List ℕ × List ℕ) → Bool
is_bad_number_from None = false
is_bad_number_from (Some parts) = is_bad_number_of parts.0 parts.1

unfoldable pub is_bad_value_number : List ℕ → Bool
is_bad_value_number w = is_bad_number_from (cut_at 58 w)

-- NAME and VALUE of a word that begins so; the first `=` stands between them
unfoldable pub named_value : List ℕ → List ℕ → Option (List ℕ × List ℕ)
named_value front w = if starts_with nat_eq w front then cut_at 61 (drop (length front) w) else None

-- a word without `=`
abbrev pub is_no_argument : List ℕ → List ℕ → Bool
is_no_argument front w = not (is_some (named_value front w))

abbrev pub test_argument : (List ℕ → List ℕ → Bool) → Option (List ℕ × List ℕ) → Bool
test_argument is_bad None = false
test_argument is_bad (Some parts) = is_bad parts.0 parts.1

-- a number in VALUE is none
abbrev pub is_bad_argument_number : List ℕ → List ℕ → Bool
is_bad_argument_number front w = test_argument (λ name value. is_bad_value_number value) (named_value front w)

-- NAME is too long (AMQP 0-9-1, 4.2.5.5 "Field Tables": names are short strings)
abbrev pub is_bad_argument_name : List ℕ → List ℕ → Bool
is_bad_argument_name front w = test_argument (λ name value. is_long (text_of name)) (named_value front w)

-- VALUE is none
abbrev pub is_bad_argument_value : List ℕ → List ℕ → Bool
is_bad_argument_value front w = test_argument (λ name value. not (is_some (value_of value))) (named_value front w)

abbrev pub pair_from : Option (List ℕ × List ℕ) → List ℕ × Field
pair_from None = ([], void)
pair_from (Some parts) = (text_of parts.0, unwrap_or (value_of parts.1) void)

-- the name and the value of an argument
unfoldable pub argument_of : List ℕ → List ℕ → List ℕ × Field
argument_of front w = pair_from (named_value front w)

-- the table of words that begin so, in the order of the words
unfoldable pub arguments_of : List ℕ → List (List ℕ) → Pairs
arguments_of front ws = pairs_of (map (argument_of front) ws)
