-- One property: what is read of octets is what was written, and what was written is read again.
use Rattle.std.proofs.Common.{◌≡◌, ℕ, zero, suc, ◌^◌, ◌<◌, ◌≤◌, Bool, true, false, cond, ltb, eqb, List, [], ◌∷◌, ◌++◌, length, take, drop, Option, Some, None, is_some, Result, Ok, Err, IfSome, refl, sym, ap, subst, ◌∙◌, arith}
use Rattle.std.specs.Int.{w64, from_be_bytes, to_be_bytes, bit_at}
use Rattle.std.specs.Str.{is_utf8}
use Rattle.std.proofs.lemmas.Bool.{ltb-false, le-ltb, eqb-true}
use Rattle.std.proofs.lemmas.List.{take_at, drop_at, take-append-drop, length-append, length-take}
use Rattle.std.proofs.lemmas.Nat.Bits.{bit_at-lt}
use Rattle.std.proofs.lemmas.Str.{IsUtf8-from_is_utf8, is_utf8-from_IsUtf8}
use Rattle.field_tables.specs.Fields.{Pairs}
use Rattle.field_tables.specs.Tables.{IsName, IsTable, name_spelling, table_spelling}
use Rattle.field_tables.specs.Reading.{table_at}
use Rattle.field_tables.specs.declared.fault.TableFault.{TableFault}
use Rattle.field_tables.proofs.Octets.{IsBytes, IsBytes-take, wide64}
use Rattle.field_tables.proofs.Values.{table_takes, table_again}
use Rattle.amqp_props.specs.declared.row.PropertyKind.{PropertyKind}
use Rattle.amqp_props.specs.declared.row.PropertyKind.TheVariants.{ShortString, Table, Octet, LongLong}
use Rattle.amqp_props.specs.declared.fault.PropsFault.{PropsFault}
use Rattle.amqp_props.specs.ContentHeader.{Value, short_string, field_table, octet, longlong, kind_of, HasSpelling, value_spelling, optional_spelling}
use Rattle.amqp_props.specs.HeaderReading.{text_at, octet_at, longlong_at, behind_table, found_at, value_at, property_at}

-- ---- tests that did not fail

none_first : {A : Type 0} (b : Bool) (o : Option A) (x : A) → cond b None o ≡ Some x → (b ≡ false) × (o ≡ Some x)
none_first true o x e = absurd cc
none_first false o x e = (refl, e)

some_first : {A : Type 0} (b : Bool) (y x : A) → cond b (Some y) None ≡ Some x → (b ≡ true) × (y ≡ x)
some_first true y x e = (refl, cc)
some_first false y x e = absurd cc

abbrev done : {A : Type 0} → A → Result A PropsFault
done x = Ok x

pub ok_is : {A : Type 0} (x y : A) → done x ≡ done y → x ≡ y
ok_is x y e = cc

abbrev found : {A : Type 0} → A → Option A
found x = Some x

some_is : {A : Type 0} (x y : A) → found x ≡ found y → x ≡ y
some_is x y e = cc

-- ---- the values

text_takes : (octets : List ℕ) (x : List ℕ × List ℕ) → IsBytes octets → text_at octets ≡ Some x → (octets ≡ name_spelling x.0 ++ x.1) × IsName x.0
unfolding text_at
text_takes [] x are e = absurd cc
text_takes (n ∷ octets) x are e =
    let g = none_first (ltb (length octets) n) (cond (is_utf8 (take n octets)) (Some (take n octets, drop n octets)) None) x e in
    let h = some_first (is_utf8 (take n octets)) (take n octets, drop n octets) x g.1 in
    let long : n ≤ length octets = ltb-false _ _ g.0 in
    let len : length (take n octets) ≡ n = omega (arith, length-take n octets) in
    subst (λ (p : List ℕ × List ℕ). (n ∷ octets ≡ name_spelling p.0 ++ p.1) × IsName p.0) h.1
    (λ i. sym len i ∷ sym (take-append-drop n octets) i, record { text = IsUtf8-from_is_utf8 (take n octets) h.0; fits = omega (arith, len, are 0) })

text_again : (text rest : List ℕ) → IsName text → text_at (name_spelling text ++ rest) ≡ Some (text, rest)
unfolding text_at
text_again text rest is =
    let long : ltb (length (text ++ rest)) (length text) ≡ false = le-ltb _ _ (omega (arith, length-append text rest)) in
    rw (long, take_at text rest (length text) refl, drop_at text rest (length text) refl, is_utf8-from_IsUtf8 text is.text) refl

octet_takes : (octets : List ℕ) (x : ℕ × List ℕ) → IsBytes octets → octet_at octets ≡ Some x → (octets ≡ x.0 ∷ x.1) × (x.0 < 256)
unfolding octet_at
octet_takes [] x are e = absurd cc
octet_takes (n ∷ octets) x are e = subst (λ (p : ℕ × List ℕ). (n ∷ octets ≡ p.0 ∷ p.1) × (p.0 < 256)) (some_is (n, octets) x e) (refl, are 0)

octet_again : (n : ℕ) (rest : List ℕ) → octet_at (n ∷ rest) ≡ Some (n, rest)
unfolding octet_at
octet_again n rest = refl

longlong_takes : (octets : List ℕ) (x : ℕ × List ℕ) → IsBytes octets → longlong_at octets ≡ Some x → (octets ≡ to_be_bytes w64 x.0 ++ x.1) × (x.0 < 2 ^ 64)
unfolding longlong_at
longlong_takes octets x are e =
    let g = none_first (ltb (length octets) 8) (Some (from_be_bytes w64 (take 8 octets), drop 8 octets)) x e in
    let long : 8 ≤ length octets = ltb-false _ _ g.0 in
    let front : to_be_bytes w64 (from_be_bytes w64 (take 8 octets)) ≡ take 8 octets = wide64.back (take 8 octets) (omega (arith, length-take 8 octets)) (IsBytes-take 8 octets are) in
    subst (λ (p : ℕ × List ℕ). (octets ≡ to_be_bytes w64 p.0 ++ p.1) × (p.0 < 2 ^ 64)) (some_is (from_be_bytes w64 (take 8 octets), drop 8 octets) x g.1)
    (sym (ap (λ (text : List ℕ). text ++ drop 8 octets) front ∙ take-append-drop 8 octets), wide64.below (take 8 octets) (IsBytes-take 8 octets are))

longlong_by : (front rest : List ℕ) → length front ≡ 8 → longlong_at (front ++ rest) ≡ Some (from_be_bytes w64 front, rest)
unfolding longlong_at
longlong_by front rest len =
    let long : ltb (length (front ++ rest)) 8 ≡ false = le-ltb _ _ (omega (arith, length-append front rest, len)) in
    rw (long, take_at front rest 8 len, drop_at front rest 8 len) refl

longlong_again : (n : ℕ) (rest : List ℕ) → n < 2 ^ 64 → longlong_at (to_be_bytes w64 n ++ rest) ≡ Some (n, rest)
longlong_again n rest lt = longlong_by (to_be_bytes w64 n) rest (wide64.len n) ∙ ap (λ k. found (k, rest)) (wide64.again n lt)

table_takes_as : (octets : List ℕ) (read : Result (Pairs × ℕ) TableFault) (x : Pairs × List ℕ) → IsBytes octets → table_at octets ≡ read → behind_table octets read ≡ Some x
    → (octets ≡ table_spelling x.0 ++ x.1) × IsTable x.0
table_takes_as octets (Ok y) x are read e =
    let t = table_takes octets y are read in
    let behind : drop y.1 octets ≡ t.parts.0 = ap (drop y.1) t.parts.1 ∙ drop_at (table_spelling y.0) t.parts.0 y.1 (sym t.len) in
    subst (λ (p : Pairs × List ℕ). (octets ≡ table_spelling p.0 ++ p.1) × IsTable p.0) (some_is (y.0, drop y.1 octets) x e)
    (t.parts.1 ∙ ap (λ (rest : List ℕ). table_spelling y.0 ++ rest) (sym behind), t.table)
table_takes_as octets (Err f) x are read e = absurd cc

table_again_as : (ps : Pairs) (rest : List ℕ) → IsTable ps → behind_table (table_spelling ps ++ rest) (table_at (table_spelling ps ++ rest)) ≡ Some (ps, rest)
table_again_as ps rest is =
    ap (behind_table (table_spelling ps ++ rest)) (table_again ps rest is)
    ∙ ap (λ (after : List ℕ). found (ps, after)) (drop_at (table_spelling ps) rest (length (table_spelling ps)) refl)

-- ---- a property whose flag is set

-- what was read stands in front of the rest
pub record IsRead (octets : List ℕ) (x : Option Value × List ℕ) : Type 0 where
  pub parts : octets ≡ optional_spelling x.0 ++ x.1
  pub fits : IfSome x.0 HasSpelling

found_takes : {A : Type 0} (place : ℕ) (value : A → Value) (octets : List ℕ) (read : Option (A × List ℕ)) (x : Option Value × List ℕ)
    → ((y : A × List ℕ) → read ≡ Some y → (octets ≡ value_spelling (value y.0) ++ y.1) × HasSpelling (value y.0)) → found_at place value read ≡ Ok x → IsRead octets x × (is_some x.0 ≡ true)
found_takes place value octets None x take_it e = absurd cc
found_takes place value octets (Some y) x take_it e =
    let t = take_it y refl in
    subst (λ (p : Option Value × List ℕ). IsRead octets p × (is_some p.0 ≡ true)) (ok_is (Some (value y.0), y.1) x e) (record { parts = t.0; fits = t.1 }, refl)

pub value_takes : (place : ℕ) (kind : PropertyKind) (octets : List ℕ) (x : Option Value × List ℕ) → IsBytes octets → value_at place kind octets ≡ Ok x → IsRead octets x × (is_some x.0 ≡ true)
unfolding value_at
value_takes place ShortString octets x are e = found_takes place short_string octets (text_at octets) x (λ y read. text_takes octets y are read) e
value_takes place Table octets x are e = found_takes place field_table octets (behind_table octets (table_at octets)) x (λ y read. table_takes_as octets (table_at octets) y are refl read) e
value_takes place Octet octets x are e = found_takes place octet octets (octet_at octets) x (λ y read. octet_takes octets y are read) e
value_takes place LongLong octets x are e = found_takes place longlong octets (longlong_at octets) x (λ y read. longlong_takes octets y are read) e

pub value_again : (place : ℕ) (v : Value) (rest : List ℕ) → HasSpelling v → value_at place (kind_of v) (value_spelling v ++ rest) ≡ Ok (Some v, rest)
unfolding value_at
value_again place (short_string text) rest fits = ap (found_at place short_string) (text_again text rest fits)
value_again place (field_table ps) rest fits = ap (found_at place field_table) (table_again_as ps rest fits)
value_again place (octet n) rest fits = ap (found_at place octet) (octet_again n rest)
value_again place (longlong n) rest fits = ap (found_at place longlong) (longlong_again n rest fits)

-- ---- a property with its flag

-- 1 where the property is present
abbrev pub flag : Option Value → ℕ
flag value = cond (is_some value) 1 0

property_by : (flags place bit : ℕ) (kind : PropertyKind) (octets : List ℕ) (x : Option Value × List ℕ) (clear : Bool) → IsBytes octets → eqb (bit_at flags bit) 0 ≡ clear
    → cond clear (Ok (None, octets)) (value_at place kind octets) ≡ Ok x → IsRead octets x × (bit_at flags bit ≡ flag x.0)
property_by flags place bit kind octets x true are clear e =
    let zero_bit : bit_at flags bit ≡ 0 = eqb-true (bit_at flags bit) 0 clear in
    subst (λ (p : Option Value × List ℕ). IsRead octets p × (bit_at flags bit ≡ flag p.0)) (ok_is (None, octets) x e) (record { parts = refl; fits = tt }, zero_bit)
property_by flags place bit kind octets x false are clear e =
    let t = value_takes place kind octets x are e in
    let one_bit : bit_at flags bit ≡ 1 = set_bit (bit_at flags bit) (bit_at-lt flags bit) clear in
    (t.0, one_bit ∙ ap (λ b. cond b 1 0) (sym t.1))
  where
    set_bit : (d : ℕ) → d < 2 → eqb d 0 ≡ false → d ≡ 1
    set_bit zero lt e = absurd cc
    set_bit (suc zero) lt e = refl
    set_bit (suc (suc d)) lt e = absurd (omega arith)

pub property_takes : (flags place bit : ℕ) (kind : PropertyKind) (octets : List ℕ) (x : Option Value × List ℕ) → IsBytes octets → property_at flags place bit kind octets ≡ Ok x
    → IsRead octets x × (bit_at flags bit ≡ flag x.0)
unfolding property_at
property_takes flags place bit kind octets x are e = property_by flags place bit kind octets x (eqb (bit_at flags bit) 0) are refl e

-- the value is of that kind
abbrev pub OfKind : PropertyKind → Option Value → Type 0
OfKind kind value = IfSome value (λ v. kind_of v ≡ kind)

pub property_again : (flags place bit : ℕ) (kind : PropertyKind) (value : Option Value) (rest : List ℕ) → bit_at flags bit ≡ flag value → OfKind kind value → IfSome value HasSpelling
    → property_at flags place bit kind (optional_spelling value ++ rest) ≡ Ok (value, rest)
unfolding property_at
property_again flags place bit kind None rest is of_kind fits = ap (λ d. cond (eqb d 0) (done (None, rest)) (value_at place kind rest)) is
property_again flags place bit kind (Some v) rest is of_kind fits =
    ap (λ d. cond (eqb d 0) (done (None, value_spelling v ++ rest)) (value_at place kind (value_spelling v ++ rest))) is
    ∙ ap (λ (k : PropertyKind). value_at place k (value_spelling v ++ rest)) (sym of_kind) ∙ value_again place v rest fits
