-- The content header of a message: AMQP 0-9-1, section 4.2.6.1 "The Content Header", with the properties of class basic.
use Rattle.std.specs.Prelude.{ℕ, ◌+◌, ◌^◌, ◌<◌, List, [], ◌∷◌, ◌++◌, Option, Some, None, option_map, is_some, if◌then◌else◌, codes, length, IfSome}
use Rattle.std.specs.Int.{w16, w64, to_be_bytes}
use Rattle.std.specs.List.{AllByRecursion}
use Rattle.field_tables.specs.Fields.{Pairs}
use Rattle.field_tables.specs.Tables.{IsName, IsTable, name_spelling, table_spelling}
use Rattle.amqp_props.specs.declared.row.PropertyKind.{PropertyKind}
use Rattle.amqp_props.specs.declared.row.PropertyKind.TheVariants.{ShortString, Table, Octet, LongLong}
use Rattle.amqp_props.specs.declared.properties.Properties.{Properties}

-- The properties of class basic in their order: the bit of each in the flags, its kind and its name. The first property
-- has the highest bit (section 4.2.6.1).
abbrev pub property_rows : List (ℕ × PropertyKind × List ℕ)
property_rows =
    (15, ShortString, codes "content-type")
    ∷ (14, ShortString, codes "content-encoding")
    ∷ (13, Table, codes "headers")
    ∷ (12, Octet, codes "delivery-mode")
    ∷ (11, Octet, codes "priority")
    ∷ (10, ShortString, codes "correlation-id")
    ∷ (9, ShortString, codes "reply-to")
    ∷ (8, ShortString, codes "expiration")
    ∷ (7, ShortString, codes "message-id")
    ∷ (6, LongLong, codes "timestamp")
    ∷ (5, ShortString, codes "type")
    ∷ (4, ShortString, codes "user-id")
    ∷ (3, ShortString, codes "app-id")
    ∷ (2, ShortString, codes "reserved")
    ∷ []

-- The value of a property.
pub data Value : Type 0 where
  short_string : List ℕ → Value
  field_table : Pairs → Value
  octet : ℕ → Value
  longlong : ℕ → Value

-- Its kind.
abbrev pub kind_of : Value → PropertyKind
kind_of (short_string text) = ShortString
kind_of (field_table ps) = Table
kind_of (octet n) = Octet
kind_of (longlong n) = LongLong

-- A value's octets: of a short string, its length in one octet and the text (section 4.2.5.3); of a table, those of the
-- grammar of field tables (4.2.5.5); of a number, its octets with the high one first (4.2.5.1).
abbrev pub value_spelling : Value → List ℕ
value_spelling (short_string text) = name_spelling text
value_spelling (field_table ps) = table_spelling ps
value_spelling (octet n) = n ∷ []
value_spelling (longlong n) = to_be_bytes w64 n

-- The value can be spelled: a short string is UTF-8 of at most 255 octets, a table is in the grammar, a number fits.
abbrev pub HasSpelling : Value → Type 0
HasSpelling (short_string text) = IsName text
HasSpelling (field_table ps) = IsTable ps
HasSpelling (octet n) = n < 256
HasSpelling (longlong n) = n < 2 ^ 64

-- The values of a message's properties, in the order of the rows; none where a property is absent.
unfoldable pub values_of : Properties → List (Option Value)
values_of props =
    option_map short_string props.content_type
    ∷ option_map short_string props.content_encoding
    ∷ option_map field_table props.headers
    ∷ option_map octet props.delivery_mode
    ∷ option_map octet props.priority
    ∷ option_map short_string props.correlation_id
    ∷ option_map short_string props.reply_to
    ∷ option_map short_string props.expiration
    ∷ option_map short_string props.message_id
    ∷ option_map longlong props.timestamp
    ∷ option_map short_string props.type_name
    ∷ option_map short_string props.user_id
    ∷ option_map short_string props.app_id
    ∷ option_map short_string props.reserved
    ∷ []

-- The property flags: the sum of the bits of those that are present (section 4.2.6.1).
abbrev pub flags_of : List (ℕ × PropertyKind × List ℕ) → List (Option Value) → ℕ
flags_of (row ∷ rows) (value ∷ values) = (if is_some value then 2 ^ row.0 else 0) + flags_of rows values
flags_of [] values = 0
flags_of (row ∷ rows) [] = 0

-- The octets of a property that may be absent.
abbrev pub optional_spelling : Option Value → List ℕ
optional_spelling None = []
optional_spelling (Some value) = value_spelling value

-- The property list: the values of those that are present, one after the other (section 4.2.6.1).
abbrev pub values_spelling : List (Option Value) → List ℕ
values_spelling [] = []
values_spelling (value ∷ values) = optional_spelling value ++ values_spelling values

-- The payload of a content header: the class, 60; the weight, 0; the size of the body; the flags; the values (section
-- 4.2.6.1).
unfoldable pub payload_of : ℕ → List (Option Value) → List ℕ
payload_of size values =
    to_be_bytes w16 60 ++ (to_be_bytes w16 0 ++ (to_be_bytes w64 size
    ++ (to_be_bytes w16 (flags_of property_rows values) ++ values_spelling values)))

-- The one spelling of the content header of a body of so many octets with these properties.
abbrev pub header_spelling : ℕ → Properties → List ℕ
header_spelling size props = payload_of size (values_of props)

-- each value that is present can be spelled
abbrev pub HaveSpelling : List (Option Value) → Type 0
HaveSpelling values = AllByRecursion (λ value. IfSome value HasSpelling) values

-- The header of a body of so many octets with these properties can be spelled.
pub record IsHeader (size : ℕ) (props : Properties) : Type 0 where
  pub size_fits : size < 2 ^ 64
  pub values_fit : HaveSpelling (values_of props)

-- A text of at most 255 octets, if there is one.
abbrev pub IsShort : Option (List ℕ) → Type 0
IsShort text = IfSome text (λ octets. length octets < 256)

-- What of a message's properties may not fit a header: each text has at most 255 octets, and the headers are a table of
-- the grammar. Texts of the program are UTF-8, and its numbers fit.
pub record AreShort (props : Properties) : Type 0 where
  pub content_type : IsShort props.content_type
  pub content_encoding : IsShort props.content_encoding
  pub headers : IfSome props.headers IsTable
  pub correlation_id : IsShort props.correlation_id
  pub reply_to : IsShort props.reply_to
  pub expiration : IsShort props.expiration
  pub message_id : IsShort props.message_id
  pub type_name : IsShort props.type_name
  pub user_id : IsShort props.user_id
  pub app_id : IsShort props.app_id
  pub reserved : IsShort props.reserved
