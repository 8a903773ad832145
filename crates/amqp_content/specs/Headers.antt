-- A content header as the size of the body and the properties: AMQP 0-9-1, section 4.2.6.1 "The Content Header".
use Rattle.std.specs.Prelude.{ℕ, zero, suc, List, [], ◌∷◌, Option, Some, None, Result, Ok, Err}
use Rattle.field_tables.specs.Fields.{Pairs}
use Rattle.amqp_props.specs.declared.properties.Properties.{Properties}
use Rattle.amqp_props.specs.declared.fault.PropsFault.{PropsFault}
use Rattle.amqp_props.specs.ContentHeader.{Value, short_string, field_table, octet, longlong}
use Rattle.amqp_props.specs.HeaderReading.{header_at}

-- the value of a property of that kind
abbrev pub text_in : Option Value → Option (List ℕ)
text_in (Some (short_string text)) = Some text
text_in _ = None

abbrev pub table_in : Option Value → Option Pairs
table_in (Some (field_table ps)) = Some ps
table_in _ = None

abbrev pub octet_in : Option Value → Option ℕ
octet_in (Some (octet n)) = Some n
octet_in _ = None

abbrev pub longlong_in : Option Value → Option ℕ
longlong_in (Some (longlong n)) = Some n
longlong_in _ = None

abbrev pub first : List (Option Value) → Option Value
first [] = None
first (value ∷ values) = value

abbrev pub others : List (Option Value) → List (Option Value)
others [] = []
others (value ∷ values) = values

-- the value of the property at that place
abbrev pub at : ℕ → List (Option Value) → Option Value
at zero values = first values
at (suc n) values = at n (others values)

-- the properties with these values, in their order
unfoldable pub properties_in : List (Option Value) → Properties
properties_in values = record {
  content_type = text_in (at 0 values);
  content_encoding = text_in (at 1 values);
  headers = table_in (at 2 values);
  delivery_mode = octet_in (at 3 values);
  priority = octet_in (at 4 values);
  correlation_id = text_in (at 5 values);
  reply_to = text_in (at 6 values);
  expiration = text_in (at 7 values);
  message_id = text_in (at 8 values);
  timestamp = longlong_in (at 9 values);
  type_name = text_in (at 10 values);
  user_id = text_in (at 11 values);
  app_id = text_in (at 12 values);
  reserved = text_in (at 13 values);
}

abbrev pub with_properties : Result (ℕ × List (Option Value)) PropsFault → Result (ℕ × Properties) PropsFault
with_properties (Ok x) = Ok (x.0, properties_in x.1)
with_properties (Err fault) = Err fault

-- The size of the body, and the properties, of a content header that is all of the octets.
unfoldable pub header_of : List ℕ → Result (ℕ × Properties) PropsFault
header_of payload = with_properties (header_at payload)
