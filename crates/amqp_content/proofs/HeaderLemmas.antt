-- A content header that is read as size and properties is spelled by them, and what is spelled so is read.
use Rattle.std.proofs.Common.{◌≡◌, ℕ, zero, suc, Bool, true, false, cond, eqb, List, [], ◌∷◌, length, Option, Some, None, Result, Ok, Err, option_map, refl, sym, ap, subst, ◌∙◌}
use Rattle.std.specs.Int.{bit_at}
use Rattle.field_tables.specs.Fields.{Pairs}
use Rattle.field_tables.proofs.Octets.{IsBytes}
use Rattle.amqp_props.specs.declared.row.PropertyKind.{PropertyKind}
use Rattle.amqp_props.specs.declared.row.PropertyKind.TheVariants.{ShortString, Table, Octet, LongLong}
use Rattle.amqp_props.specs.declared.fault.PropsFault.{PropsFault}
use Rattle.amqp_props.specs.declared.properties.Properties.{Properties}
use Rattle.amqp_props.specs.ContentHeader.{property_rows, Value, short_string, field_table, octet, longlong, kind_of, values_of, header_spelling, IsHeader}
use Rattle.amqp_props.specs.HeaderReading.{◌>>=◌, text_at, octet_at, longlong_at, behind_table, found_at, value_at, property_at, properties_at, fixed_at, ended_at, header_at}
use Rattle.field_tables.specs.Reading.{table_at}
use Rattle.amqp_props.proofs.Parts.{ok_is, OfKind}
use Rattle.amqp_props.proofs.Headers.{header_again, is_found}
use Rattle.amqp_content.specs.Headers.{text_in, table_in, octet_in, longlong_in, first, others, at, properties_in, with_properties, header_of}

abbrev Row : Type 0
Row = ℕ × PropertyKind × List ℕ

bind_ok : {A B : Type 0} (r : Result A PropsFault) (f : A → Result B PropsFault) (y : B) → (r >>= f) ≡ Ok y → (x : A) × (r ≡ Ok x) × (f x ≡ Ok y)
bind_ok (Ok x) f y e = (x, refl, e)
bind_ok (Err d) f y e = absurd cc

-- ---- a value that is read is of the kind of its row

found_kind : {A : Type 0} (kind : PropertyKind) (place : ℕ) (value : A → Value) (read : Option (A × List ℕ)) (x : Option Value × List ℕ) → ((a : A) → kind_of (value a) ≡ kind) → found_at place value read ≡ Ok x → OfKind kind x.0
found_kind kind place value None x is e = absurd cc
found_kind kind place value (Some y) x is e = subst (λ (p : Option Value × List ℕ). OfKind kind p.0) (ok_is (Some (value y.0), y.1) x e) (is y.0)

value_kind : (place : ℕ) (kind : PropertyKind) (octets : List ℕ) (x : Option Value × List ℕ) → value_at place kind octets ≡ Ok x → OfKind kind x.0
unfolding value_at
value_kind place ShortString octets x e = found_kind ShortString place short_string (text_at octets) x (λ a. refl) e
value_kind place Table octets x e = found_kind Table place field_table (behind_table octets (table_at octets)) x (λ a. refl) e
value_kind place Octet octets x e = found_kind Octet place octet (octet_at octets) x (λ a. refl) e
value_kind place LongLong octets x e = found_kind LongLong place longlong (longlong_at octets) x (λ a. refl) e

property_kind_by : (kind : PropertyKind) (clear : Bool) (octets : List ℕ) (read : Result (Option Value × List ℕ) PropsFault) (x : Option Value × List ℕ) → ((y : Option Value × List ℕ) → read ≡ Ok y → OfKind kind y.0)
    → cond clear (Ok (None, octets)) read ≡ Ok x → OfKind kind x.0
property_kind_by kind true octets read x is e = subst (λ (p : Option Value × List ℕ). OfKind kind p.0) (ok_is (None, octets) x e) tt
property_kind_by kind false octets read x is e = is x e

property_kind : (flags place bit : ℕ) (kind : PropertyKind) (octets : List ℕ) (x : Option Value × List ℕ) → property_at flags place bit kind octets ≡ Ok x → OfKind kind x.0
unfolding property_at
property_kind flags place bit kind octets x e = property_kind_by kind (eqb (bit_at flags bit) 0) octets (value_at place kind octets) x (λ y read. value_kind place kind octets y read) e

-- the values are one for each row, of its kind
abbrev OfRows : List Row → List (Option Value) → Type 0
OfRows [] values = values ≡ []
OfRows (row ∷ rows) values = OfKind row.1 (first values) × (values ≡ first values ∷ others values) × OfRows rows (others values)

properties_kinds : (flags place : ℕ) (rows : List Row) (octets : List ℕ) (x : List (Option Value) × List ℕ) → properties_at flags place rows octets ≡ Ok x → OfRows rows x.0
unfolding properties_at
properties_kinds flags place [] octets x e = subst (λ (p : List (Option Value) × List ℕ). OfRows [] p.0) (ok_is ([], octets) x e) refl
properties_kinds flags place (row ∷ rows) octets x e =
    let one = bind_ok (property_at flags place row.0 row.1 octets) (λ (y : Option Value × List ℕ). properties_at flags (suc place) rows y.1 >>= λ ys. Ok (y.0 ∷ ys.0, ys.1)) x e in
    let more = bind_ok (properties_at flags (suc place) rows one.0.1) (λ (ys : List (Option Value) × List ℕ). Ok (one.0.0 ∷ ys.0, ys.1)) x one.2 in
    subst (λ (p : List (Option Value) × List ℕ). OfRows (row ∷ rows) p.0) (ok_is (one.0.0 ∷ more.0.0, more.0.1) x more.2)
    (property_kind flags place row.0 row.1 octets one.0 one.1, refl, properties_kinds flags (suc place) rows one.0.1 more.0 more.1)

header_kinds : (octets : List ℕ) (x : ℕ × List (Option Value)) → header_at octets ≡ Ok x → OfRows property_rows x.1
unfolding header_at
header_kinds octets x e =
    let fixed = bind_ok (fixed_at octets) (λ (f : ℕ × ℕ × List ℕ). properties_at f.1 0 property_rows f.2 >>= λ xs. ended_at xs.1 >>= λ end. Ok (f.0, xs.0)) x e in
    let read = bind_ok (properties_at fixed.0.1 0 property_rows fixed.0.2) (λ (xs : List (Option Value) × List ℕ). ended_at xs.1 >>= λ end. Ok (fixed.0.0, xs.0)) x fixed.2 in
    let end = bind_ok (ended_at read.0.1) (λ (u : Unit {0}). Ok (fixed.0.0, read.0.0)) x read.2 in
    subst (λ (p : ℕ × List (Option Value)). OfRows property_rows p.1) (ok_is (fixed.0.0, read.0.0) x end.2) (properties_kinds fixed.0.1 0 property_rows fixed.0.2 read.0 read.1)

-- ---- the values of the properties with these values

text_of_kind : (value : Option Value) → OfKind ShortString value → option_map short_string (text_in value) ≡ value
text_of_kind None is = refl
text_of_kind (Some (short_string text)) is = refl
text_of_kind (Some (field_table ps)) is = absurd cc
text_of_kind (Some (octet n)) is = absurd cc
text_of_kind (Some (longlong n)) is = absurd cc

table_of_kind : (value : Option Value) → OfKind Table value → option_map field_table (table_in value) ≡ value
table_of_kind None is = refl
table_of_kind (Some (short_string text)) is = absurd cc
table_of_kind (Some (field_table ps)) is = refl
table_of_kind (Some (octet n)) is = absurd cc
table_of_kind (Some (longlong n)) is = absurd cc

octet_of_kind : (value : Option Value) → OfKind Octet value → option_map octet (octet_in value) ≡ value
octet_of_kind None is = refl
octet_of_kind (Some (short_string text)) is = absurd cc
octet_of_kind (Some (field_table ps)) is = absurd cc
octet_of_kind (Some (octet n)) is = refl
octet_of_kind (Some (longlong n)) is = absurd cc

longlong_of_kind : (value : Option Value) → OfKind LongLong value → option_map longlong (longlong_in value) ≡ value
longlong_of_kind None is = refl
longlong_of_kind (Some (short_string text)) is = absurd cc
longlong_of_kind (Some (field_table ps)) is = absurd cc
longlong_of_kind (Some (octet n)) is = absurd cc
longlong_of_kind (Some (longlong n)) is = refl

-- so many of the values
abbrev firsts : ℕ → List (Option Value) → List (Option Value)
firsts zero values = []
firsts (suc n) values = first values ∷ firsts n (others values)

firsts_are : (rows : List Row) (values : List (Option Value)) → OfRows rows values → firsts (length rows) values ≡ values
firsts_are [] values is = sym is
firsts_are (row ∷ rows) values is = ap (λ (xs : List (Option Value)). first values ∷ xs) (firsts_are rows (others values) is.2) ∙ sym is.1

values_back : (values : List (Option Value)) → OfRows property_rows values → values_of (properties_in values) ≡ values
unfolding values_of properties_in
values_back values is =
    (λ i. text_of_kind (at 0 values) is.0 i
    ∷ text_of_kind (at 1 values) is.2.0 i
    ∷ table_of_kind (at 2 values) is.2.2.0 i
    ∷ octet_of_kind (at 3 values) is.2.2.2.0 i
    ∷ octet_of_kind (at 4 values) is.2.2.2.2.0 i
    ∷ text_of_kind (at 5 values) is.2.2.2.2.2.0 i
    ∷ text_of_kind (at 6 values) is.2.2.2.2.2.2.0 i
    ∷ text_of_kind (at 7 values) is.2.2.2.2.2.2.2.0 i
    ∷ text_of_kind (at 8 values) is.2.2.2.2.2.2.2.2.0 i
    ∷ longlong_of_kind (at 9 values) is.2.2.2.2.2.2.2.2.2.0 i
    ∷ text_of_kind (at 10 values) is.2.2.2.2.2.2.2.2.2.2.0 i
    ∷ text_of_kind (at 11 values) is.2.2.2.2.2.2.2.2.2.2.2.0 i
    ∷ text_of_kind (at 12 values) is.2.2.2.2.2.2.2.2.2.2.2.2.0 i
    ∷ text_of_kind (at 13 values) is.2.2.2.2.2.2.2.2.2.2.2.2.2.0 i
    ∷ [])
    ∙ firsts_are property_rows values is

-- ---- and back

text_back : (o : Option (List ℕ)) → text_in (option_map short_string o) ≡ o
text_back None = refl
text_back (Some text) = refl

table_back : (o : Option Pairs) → table_in (option_map field_table o) ≡ o
table_back None = refl
table_back (Some ps) = refl

octet_back : (o : Option ℕ) → octet_in (option_map octet o) ≡ o
octet_back None = refl
octet_back (Some n) = refl

longlong_back : (o : Option ℕ) → longlong_in (option_map longlong o) ≡ o
longlong_back None = refl
longlong_back (Some n) = refl

pub properties_back : (props : Properties) → properties_in (values_of props) ≡ props
unfolding values_of properties_in
properties_back p = λ i. record {
  content_type = text_back p.content_type i;
  content_encoding = text_back p.content_encoding i;
  headers = table_back p.headers i;
  delivery_mode = octet_back p.delivery_mode i;
  priority = octet_back p.priority i;
  correlation_id = text_back p.correlation_id i;
  reply_to = text_back p.reply_to i;
  expiration = text_back p.expiration i;
  message_id = text_back p.message_id i;
  timestamp = longlong_back p.timestamp i;
  type_name = text_back p.type_name i;
  user_id = text_back p.user_id i;
  app_id = text_back p.app_id i;
  reserved = text_back p.reserved i;
}

-- ---- the header

abbrev done : {A : Type 0} → A → Result A PropsFault
done x = Ok x

-- the payload is the header's
pub record IsSpelled (payload : List ℕ) (x : ℕ × Properties) : Type 0 where
  pub is_header : IsHeader x.0 x.1
  pub spelled : payload ≡ header_spelling x.0 x.1

header_takes_by : (payload : List ℕ) (read : Result (ℕ × List (Option Value)) PropsFault) (x : ℕ × Properties) → IsBytes payload → header_at payload ≡ read → with_properties read ≡ Ok x → IsSpelled payload x
header_takes_by payload (Ok y) x are read e =
    let back : values_of (properties_in y.1) ≡ y.1 = values_back y.1 (header_kinds payload y read) in
    let t = is_found payload (Ok (y.0, properties_in y.1)) are (read ∙ (λ i. done (y.0, sym back i))) in
    subst (IsSpelled payload) (ok_is (y.0, properties_in y.1) x e) (record { is_header = t.0; spelled = t.1 })
header_takes_by payload (Err fault) x are read e = absurd cc

-- what is read is spelled so
pub header_takes : (payload : List ℕ) (x : ℕ × Properties) → IsBytes payload → header_of payload ≡ Ok x → IsSpelled payload x
unfolding header_of
header_takes payload x are e = header_takes_by payload (header_at payload) x are refl e

-- what is spelled so is read
pub header_of_spelling : (size : ℕ) (props : Properties) → IsHeader size props → header_of (header_spelling size props) ≡ Ok (size, props)
unfolding header_of
header_of_spelling size props is = ap with_properties (header_again size props is) ∙ (λ i. done (size, properties_back props i))
