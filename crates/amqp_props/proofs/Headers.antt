-- A whole content header: what is read is spelled so, and what is spelled so is read.
use Rattle.std.proofs.Common.{◌≡◌, ℕ, zero, suc, ◌+◌, ◌*◌, ◌%◌, ◌^◌, ◌<◌, ◌≤◌, Bool, true, false, cond, ltb, eqb, List, [], ◌∷◌, ◌++◌, length, take, drop, Option, Some, None, is_some, option_map, Result, Ok, Err, IfSome, IfOk, refl, sym, ap, subst, ◌∙◌, append_assoc, arith}
use Rattle.std.specs.Int.{Width, w16, w64, byte_len, to_be_bytes, bit_at}
use Rattle.std.proofs.lemmas.Bool.{ltb-false, le-ltb, eqb-true}
use Rattle.std.proofs.lemmas.List.{take-append-drop, length-take, length-drop, get_or-drop, drop-drop, append-nil}
use Rattle.std.proofs.lemmas.Nat.{mod-pow-add, mod_below, from_be_bytes-to_be_bytes_2, from_be_bytes-to_be_bytes_8}
use Rattle.std.proofs.lemmas.Nat.Bits.{bit_at-lt}
use Rattle.std.proofs.Math.Nat.{pow-suc}
use Rattle.field_tables.specs.Fields.{Pairs}
use Rattle.field_tables.specs.Tables.{IsTable}
use Rattle.field_tables.proofs.Octets.{IsBytes, IsBytes-take, IsWide, wide16, wide64, counted_text}
use Rattle.amqp_props.specs.declared.row.PropertyKind.{PropertyKind}
use Rattle.amqp_props.specs.declared.row.PropertyKind.TheVariants.{ShortString, Table, Octet, LongLong}
use Rattle.amqp_props.specs.declared.fault.PropsFault.{PropsFault}
use Rattle.amqp_props.specs.declared.fault.PropsFault.TheVariants.{Short, Class, Weight, Flags, Field, Trailing, Memory}
use Rattle.amqp_props.specs.declared.properties.Properties.{Properties}
use Rattle.amqp_props.specs.ContentHeader.{property_rows, Value, short_string, field_table, octet, longlong, HasSpelling, HaveSpelling, optional_spelling, values_of, flags_of, values_spelling, payload_of, header_spelling, IsHeader, IsShort, AreShort}
use Rattle.amqp_props.specs.HeaderReading.{◌>>=◌, Gives, property_at, properties_at, number_at, fixed_at, ended_at, header_at}
use Rattle.amqp_props.proofs.Parts.{ok_is, flag, property_takes, OfKind, property_again}

abbrev Row : Type 0
Row = ℕ × PropertyKind × List ℕ

-- the value of a step that did not fail
bind_ok : {A B : Type 0} (r : Result A PropsFault) (f : A → Result B PropsFault) (y : B) → (r >>= f) ≡ Ok y → (x : A) × (r ≡ Ok x) × (f x ≡ Ok y)
bind_ok (Ok x) f y e = (x, refl, e)
bind_ok (Err d) f y e = absurd cc

-- ---- the flags

-- the bits of these rows are those from 2 up to b, the high one first
abbrev AreBits : ℕ → List Row → Type 0
AreBits b [] = b ≡ 2
AreBits b (row ∷ rows) = (b ≡ suc row.0) × AreBits row.0 rows

rows_are_bits : AreBits 16 property_rows
rows_are_bits = (refl, (refl, (refl, (refl, (refl, (refl, (refl, (refl, (refl, (refl, (refl, (refl, (refl, (refl, refl))))))))))))))

doubled : (b k : ℕ) → b ≡ suc k → 2 ^ b ≡ 2 ^ k * 2
doubled b k e = ap (λ n. 2 ^ n) e ∙ pow-suc 2 k

flag_bound : (value : Option Value) → flag value < 2
flag_bound None = omega arith
flag_bound (Some v) = omega arith

-- a flag as a term of the sum
flag_term : (value : Option Value) (m : ℕ) → cond (is_some value) m 0 ≡ flag value * m
flag_term None m = omega arith
flag_term (Some v) m = omega arith

flag_at_most : (value : Option Value) (m : ℕ) → cond (is_some value) m 0 ≤ m
flag_at_most None m = omega arith
flag_at_most (Some v) m = omega arith

-- the flags are below 2 ^ b, with room for the two low bits
flags_below : (b : ℕ) (rows : List Row) (values : List (Option Value)) → AreBits b rows → flags_of rows values + 4 ≤ 2 ^ b
flags_below b [] values bits = subst (λ (n : ℕ). 0 + 4 ≤ 2 ^ n) (sym bits) (omega arith)
flags_below b (row ∷ rows) [] bits = omega (arith, flags_below row.0 rows [] bits.1, doubled b row.0 bits.0)
flags_below b (row ∷ rows) (value ∷ values) bits =
    omega (arith, flags_below row.0 rows values bits.1, flag_at_most value (2 ^ row.0), doubled b row.0 bits.0)

-- the flags leave the two low bits clear
flags_whole : (b : ℕ) (rows : List Row) (values : List (Option Value)) → AreBits b rows → (q : ℕ) × (flags_of rows values ≡ q * 4) × (p : ℕ) × (2 ^ b ≡ p * 4)
flags_whole b [] values bits = (0, omega arith, 1, ap (λ n. 2 ^ n) bits)
flags_whole b (row ∷ rows) [] bits =
    let t = flags_whole row.0 rows [] bits.1 in
    (0, omega arith, t.2 * 2, omega (arith, t.3, doubled b row.0 bits.0))
flags_whole b (row ∷ rows) (None ∷ values) bits =
    let t = flags_whole row.0 rows values bits.1 in
    (t.0, omega (arith, t.1), t.2 * 2, omega (arith, t.3, doubled b row.0 bits.0))
flags_whole b (row ∷ rows) (Some v ∷ values) bits =
    let t = flags_whole row.0 rows values bits.1 in
    (t.2 + t.0, omega (arith, t.1, t.3), t.2 * 2, omega (arith, t.3, doubled b row.0 bits.0))

-- the digits of a number to the base m
digits : (a p m r s : ℕ) → a < 2 → p < 2 → r < m → s < m → a * m + r ≡ p * m + s → (a ≡ p) × (r ≡ s)
digits zero zero m r s la lp lr ls e = (refl, omega arith)
digits (suc zero) (suc zero) m r s la lp lr ls e = (refl, omega arith)
digits zero (suc zero) m r s la lp lr ls e = absurd (omega arith)
digits (suc zero) zero m r s la lp lr ls e = absurd (omega arith)
digits (suc (suc a)) p m r s la lp lr ls e = absurd (omega arith)
digits a (suc (suc p)) m r s la lp lr ls e = absurd (omega arith)

-- the high bit and the others
high_bit : (n b k : ℕ) → b ≡ suc k → n % 2 ^ b ≡ bit_at n k * 2 ^ k + n % 2 ^ k
high_bit n b k e = ap (λ d. n % 2 ^ d) (e ∙ one_more k) ∙ mod-pow-add n 1 k
  where
    one_more : (k : ℕ) → suc k ≡ 1 + k
    one_more k = omega arith

-- ---- the properties

abbrev done : {A : Type 0} → A → Result A PropsFault
done x = Ok x

-- what was read of rows whose bits are below b
record AreRead (flags b : ℕ) (rows : List Row) (octets : List ℕ) (x : List (Option Value) × List ℕ) : Type 0 where
  parts : octets ≡ values_spelling x.0 ++ x.1
  fit : HaveSpelling x.0
  flags_are : flags_of rows x.0 + flags % 4 ≡ flags % 2 ^ b

properties_take : (flags place b : ℕ) (rows : List Row) (octets : List ℕ) (x : List (Option Value) × List ℕ) → IsBytes octets → AreBits b rows → properties_at flags place rows octets ≡ Ok x
    → AreRead flags b rows octets x
unfolding properties_at
properties_take flags place b [] octets x are bits e =
    subst (AreRead flags b [] octets) (ok_is ([], octets) x e) (record { parts = refl; fit = tt; flags_are = omega (arith, ap (λ n. flags % 2 ^ n) bits) })
properties_take flags place b (row ∷ rows) octets x are bits e =
    let first = bind_ok (property_at flags place row.0 row.1 octets) (λ (y : Option Value × List ℕ). properties_at flags (suc place) rows y.1 >>= λ ys. Ok (y.0 ∷ ys.0, ys.1)) x e in
    let others = bind_ok (properties_at flags (suc place) rows first.0.1) (λ (ys : List (Option Value) × List ℕ). Ok (first.0.0 ∷ ys.0, ys.1)) x first.2 in
    let t = property_takes flags place row.0 row.1 octets first.0 are first.1 in
    let behind : IsBytes first.0.1 = counted_text first.0.1 (optional_spelling first.0.0) (subst IsBytes t.0.parts are) in
    let u = properties_take flags (suc place) row.0 rows first.0.1 others.0 behind bits.1 others.1 in
    let summed : flags_of (row ∷ rows) (first.0.0 ∷ others.0.0) + flags % 4 ≡ flags % 2 ^ b =
    (let term : cond (is_some first.0.0) (2 ^ row.0) 0 ≡ bit_at flags row.0 * 2 ^ row.0 = flag_term first.0.0 (2 ^ row.0) ∙ ap (λ d. d * 2 ^ row.0) (sym t.1) in
    omega (arith, term, u.flags_are, high_bit flags b row.0 bits.0)) in
    subst (AreRead flags b (row ∷ rows) octets) (ok_is (first.0.0 ∷ others.0.0, others.0.1) x others.2) (record {
      parts = t.0.parts ∙ ap (λ (rest : List ℕ). optional_spelling first.0.0 ++ rest) u.parts ∙ sym (append_assoc (optional_spelling first.0.0) (values_spelling others.0.0) others.0.1);
      fit = (t.0.fits, u.fit);
      flags_are = summed;
    })

-- the values are of the kinds of their rows
abbrev OfKinds : List Row → List (Option Value) → Type 0
OfKinds [] [] = Unit {0}
OfKinds (row ∷ rows) (value ∷ values) = OfKind row.1 value × OfKinds rows values
OfKinds _ _ = ⊥

properties_again : (flags place b : ℕ) (rows : List Row) (values : List (Option Value)) (rest : List ℕ) → AreBits b rows → OfKinds rows values → HaveSpelling values → flags % 2 ^ b ≡ flags_of rows values
    → properties_at flags place rows (values_spelling values ++ rest) ≡ Ok (values, rest)
unfolding properties_at
properties_again flags place b [] [] rest bits kinds fit e = refl
properties_again flags place b (row ∷ rows) (value ∷ values) rest bits kinds fit e =
    let below : flags_of rows values + 4 ≤ 2 ^ row.0 = flags_below row.0 rows values bits.1 in
    let both : (bit_at flags row.0 ≡ flag value) × (flags % 2 ^ row.0 ≡ flags_of rows values) =
    digits (bit_at flags row.0) (flag value) (2 ^ row.0) (flags % 2 ^ row.0) (flags_of rows values) (bit_at-lt flags row.0) (flag_bound value) (mod_below flags (2 ^ row.0) (omega arith)) (omega arith)
    (sym (high_bit flags b row.0 bits.0) ∙ e ∙ ap (λ n. n + flags_of rows values) (flag_term value (2 ^ row.0))) in
    let first = property_again flags place row.0 row.1 value (values_spelling values ++ rest) both.0 kinds.0 fit.0 in
    let others = properties_again flags (suc place) row.0 rows values rest bits.1 kinds.1 fit.1 both.1 in
    rw (append_assoc (optional_spelling value) (values_spelling values) rest, first, others) refl
properties_again flags place b [] (value ∷ values) rest bits kinds fit e = absurd kinds
properties_again flags place b (row ∷ rows) [] rest bits kinds fit e = absurd kinds

-- ---- what stands before the properties

first_wrong : {A : Type 0} (b : Bool) (d : PropsFault) (r : Result A PropsFault) (x : A) → cond b (Err d) r ≡ Ok x → (b ≡ false) × (r ≡ Ok x)
first_wrong true d r x e = absurd cc
first_wrong false d r x e = (refl, e)

first_right : {A : Type 0} (b : Bool) (d : PropsFault) (r : Result A PropsFault) (x : A) → cond b r (Err d) ≡ Ok x → (b ≡ true) × (r ≡ Ok x)
first_right true d r x e = (refl, e)
first_right false d r x e = absurd cc

IsBytes-drop : (n : ℕ) (octets : List ℕ) → IsBytes octets → IsBytes (drop n octets)
IsBytes-drop n octets are i = rw get_or-drop (are (n + i))

-- the octets of the number that stands behind so many, and those behind it
number_takes : (w : Width) (limit : ℕ) → IsWide w limit → (at : ℕ) (octets : List ℕ) → IsBytes octets → at + byte_len w ≤ length octets
    → drop at octets ≡ to_be_bytes w (number_at w at octets) ++ drop (at + byte_len w) octets
number_takes w limit wide at octets are long =
    let len : length (take (byte_len w) (drop at octets)) ≡ byte_len w = omega (arith, length-take (byte_len w) (drop at octets), length-drop at octets) in
    let front : to_be_bytes w (number_at w at octets) ≡ take (byte_len w) (drop at octets) = wide.back (take (byte_len w) (drop at octets)) len (IsBytes-take (byte_len w) (drop at octets) (IsBytes-drop at octets are)) in
    sym (take-append-drop (byte_len w) (drop at octets))
    ∙ (λ i. sym front i ++ drop-drop (byte_len w) at octets i)

-- the octets before the properties, and those behind them
abbrev framed : ℕ → ℕ → ℕ → ℕ → List ℕ → List ℕ
framed class weight size flags rest = to_be_bytes w16 class ++ (to_be_bytes w16 weight ++ (to_be_bytes w64 size ++ (to_be_bytes w16 flags ++ rest)))

numbers_take : (octets : List ℕ) → IsBytes octets → 14 ≤ length octets
    → octets ≡ framed (number_at w16 0 octets) (number_at w16 2 octets) (number_at w64 4 octets) (number_at w16 12 octets) (drop 14 octets)
numbers_take octets are long =
    let first = number_takes w16 (2 ^ 16) wide16 0 octets are (omega arith) in
    let second = number_takes w16 (2 ^ 16) wide16 2 octets are (omega arith) in
    let third = number_takes w64 (2 ^ 64) wide64 4 octets are (omega arith) in
    let fourth = number_takes w16 (2 ^ 16) wide16 12 octets are (omega arith) in
    first
    ∙ ap (λ (rest : List ℕ). to_be_bytes w16 (number_at w16 0 octets) ++ rest) second
    ∙ ap (λ (rest : List ℕ). to_be_bytes w16 (number_at w16 0 octets) ++ (to_be_bytes w16 (number_at w16 2 octets) ++ rest)) third
    ∙ ap (λ (rest : List ℕ). to_be_bytes w16 (number_at w16 0 octets) ++ (to_be_bytes w16 (number_at w16 2 octets) ++ (to_be_bytes w64 (number_at w64 4 octets) ++ rest))) fourth

-- what was read of the front
record IsFixed (octets : List ℕ) (x : ℕ × ℕ × List ℕ) : Type 0 where
  parts : octets ≡ framed 60 0 x.0 x.1 x.2
  size_fits : x.0 < 2 ^ 64
  flags_fit : x.1 < 2 ^ 16
  low_clear : x.1 % 4 ≡ 0

fixed_takes : (octets : List ℕ) (x : ℕ × ℕ × List ℕ) → IsBytes octets → fixed_at octets ≡ Ok x → IsFixed octets x
unfolding fixed_at
fixed_takes octets x are e =
    let long = first_wrong (ltb (length octets) 14) Short _ x e in
    let class = first_right (eqb (number_at w16 0 octets) 60) (Class (number_at w16 0 octets)) _ x long.1 in
    let weight = first_right (eqb (number_at w16 2 octets) 0) (Weight (number_at w16 2 octets)) _ x class.1 in
    let flags = first_right (eqb (number_at w16 12 octets % 4) 0) (Flags (number_at w16 12 octets)) _ x weight.1 in
    let all = numbers_take octets are (ltb-false (length octets) 14 long.0) in
    let class_is : number_at w16 0 octets ≡ 60 = eqb-true (number_at w16 0 octets) 60 class.0 in
    let weight_is : number_at w16 2 octets ≡ 0 = eqb-true (number_at w16 2 octets) 0 weight.0 in
    subst (IsFixed octets) (ok_is (number_at w64 4 octets, number_at w16 12 octets, drop 14 octets) x flags.1) (record {
      parts = all ∙ (λ i. framed (class_is i) (weight_is i) (number_at w64 4 octets) (number_at w16 12 octets) (drop 14 octets));
      size_fits = wide64.below (take 8 (drop 4 octets)) (IsBytes-take 8 (drop 4 octets) (IsBytes-drop 4 octets are));
      flags_fit = wide16.below (take 2 (drop 12 octets)) (IsBytes-take 2 (drop 12 octets) (IsBytes-drop 12 octets are));
      low_clear = eqb-true (number_at w16 12 octets % 4) 0 flags.0;
    })

fixed_by : (octets : List ℕ) (size flags : ℕ) (rest : List ℕ) → ltb (length octets) 14 ≡ false → number_at w16 0 octets ≡ 60 → number_at w16 2 octets ≡ 0 → number_at w16 12 octets ≡ flags
    → flags % 4 ≡ 0 → number_at w64 4 octets ≡ size → drop 14 octets ≡ rest → fixed_at octets ≡ Ok (size, flags, rest)
unfolding fixed_at
fixed_by octets size flags rest long class weight flags_are low size_is rest_is = rw (long, class, weight, flags_are, low, size_is, rest_is) refl

fixed_again : (size flags : ℕ) (rest : List ℕ) → size < 2 ^ 64 → flags < 2 ^ 16 → flags % 4 ≡ 0 → fixed_at (framed 60 0 size flags rest) ≡ Ok (size, flags, rest)
fixed_again size flags rest small few low =
    let long : ltb (length (framed 60 0 size flags rest)) 14 ≡ false = le-ltb _ _ (omega arith) in
    fixed_by (framed 60 0 size flags rest) size flags rest long refl refl (from_be_bytes-to_be_bytes_2 flags few) low (from_be_bytes-to_be_bytes_8 size small) refl

-- ---- the whole

record IsHeaderRead (octets : List ℕ) (x : ℕ × List (Option Value)) : Type 0 where
  size_fits : x.0 < 2 ^ 64
  fit : HaveSpelling x.1
  spelled : octets ≡ payload_of x.0 x.1

ended_takes : (octets : List ℕ) (x : Unit {0}) → ended_at octets ≡ Ok x → octets ≡ []
ended_takes [] x e = refl
ended_takes (b ∷ octets) x e = absurd cc

header_takes : (octets : List ℕ) (x : ℕ × List (Option Value)) → IsBytes octets → header_at octets ≡ Ok x → IsHeaderRead octets x
unfolding header_at payload_of
header_takes octets x are e =
    let fixed = bind_ok (fixed_at octets) (λ (f : ℕ × ℕ × List ℕ). properties_at f.1 0 property_rows f.2 >>= λ xs. ended_at xs.1 >>= λ end. Ok (f.0, xs.0)) x e in
    let read = bind_ok (properties_at fixed.0.1 0 property_rows fixed.0.2) (λ (xs : List (Option Value) × List ℕ). ended_at xs.1 >>= λ end. Ok (fixed.0.0, xs.0)) x fixed.2 in
    let end = bind_ok (ended_at read.0.1) (λ (u : Unit {0}). done (fixed.0.0, read.0.0)) x read.2 in
    let f = fixed_takes octets fixed.0 are fixed.1 in
    let behind : IsBytes fixed.0.2 = counted_text fixed.0.2 (framed 60 0 fixed.0.0 fixed.0.1 []) (subst IsBytes f.parts are) in
    let p = properties_take fixed.0.1 0 16 property_rows fixed.0.2 read.0 behind rows_are_bits read.1 in
    let all : fixed.0.2 ≡ values_spelling read.0.0 = p.parts ∙ ap (λ (rest : List ℕ). values_spelling read.0.0 ++ rest) (ended_takes read.0.1 end.0 end.1) ∙ append-nil (values_spelling read.0.0) in
    let flags_are : fixed.0.1 ≡ flags_of property_rows read.0.0 = omega (arith, p.flags_are, f.flags_fit, f.low_clear) in
    subst (IsHeaderRead octets) (ok_is (fixed.0.0, read.0.0) x end.2) (record {
      size_fits = f.size_fits;
      fit = p.fit;
      spelled = f.parts ∙ (λ i. framed 60 0 fixed.0.0 (flags_are i) (all i));
    })

header_again_values : (size : ℕ) (values : List (Option Value)) → size < 2 ^ 64 → OfKinds property_rows values → HaveSpelling values → header_at (payload_of size values) ≡ Ok (size, values)
unfolding header_at payload_of
header_again_values size values small kinds fit =
    let below = flags_below 16 property_rows values rows_are_bits in
    let whole = flags_whole 16 property_rows values rows_are_bits in
    let flags = flags_of property_rows values in
    let few : flags < 2 ^ 16 = omega (arith, below) in
    let low : flags % 4 ≡ 0 = omega (arith, whole.1) in
    let same : flags % 2 ^ 16 ≡ flags = omega (arith, few) in
    let fixed = fixed_again size flags (values_spelling values) small few low in
    let read : properties_at flags 0 property_rows (values_spelling values) ≡ Ok (values, []) = ap (properties_at flags 0 property_rows) (sym (append-nil (values_spelling values))) ∙ properties_again flags 0 16 property_rows values [] rows_are_bits kinds fit same in
    rw (fixed, read) refl

-- ---- the properties by their values

texts_kind : (o : Option (List ℕ)) → OfKind ShortString (option_map short_string o)
texts_kind None = tt
texts_kind (Some text) = refl

tables_kind : (o : Option Pairs) → OfKind Table (option_map field_table o)
tables_kind None = tt
tables_kind (Some ps) = refl

octets_kind : (o : Option ℕ) → OfKind Octet (option_map octet o)
octets_kind None = tt
octets_kind (Some n) = refl

longlongs_kind : (o : Option ℕ) → OfKind LongLong (option_map longlong o)
longlongs_kind None = tt
longlongs_kind (Some n) = refl

kinds_of : (props : Properties) → OfKinds property_rows (values_of props)
unfolding values_of
kinds_of p = (
  texts_kind p.content_type,
  (
    texts_kind p.content_encoding,
    (
      tables_kind p.headers,
      (
        octets_kind p.delivery_mode,
        (
          octets_kind p.priority,
          (
            texts_kind p.correlation_id,
            (
              texts_kind p.reply_to,
              (texts_kind p.expiration, (texts_kind p.message_id, (longlongs_kind p.timestamp, (texts_kind p.type_name, (texts_kind p.user_id, (texts_kind p.app_id, (texts_kind p.reserved, tt))))))),
            ),
          ),
        ),
      ),
    ),
  ),
)

abbrev text_in : Option Value → Option (List ℕ)
text_in (Some (short_string text)) = Some text
text_in _ = None

abbrev table_in : Option Value → Option Pairs
table_in (Some (field_table ps)) = Some ps
table_in _ = None

abbrev number_in : Option Value → Option ℕ
number_in (Some (octet n)) = Some n
number_in (Some (longlong n)) = Some n
number_in _ = None

text_back : (o : Option (List ℕ)) → text_in (option_map short_string o) ≡ o
text_back None = refl
text_back (Some text) = refl

table_back : (o : Option Pairs) → table_in (option_map field_table o) ≡ o
table_back None = refl
table_back (Some ps) = refl

octet_back : (o : Option ℕ) → number_in (option_map octet o) ≡ o
octet_back None = refl
octet_back (Some n) = refl

longlong_back : (o : Option ℕ) → number_in (option_map longlong o) ≡ o
longlong_back None = refl
longlong_back (Some n) = refl

abbrev front : List (Option Value) → Option Value
front [] = None
front (value ∷ values) = value

abbrev behind : List (Option Value) → List (Option Value)
behind [] = []
behind (value ∷ values) = values

at : ℕ → List (Option Value) → Option Value
at zero values = front values
at (suc n) values = at n (behind values)

properties_in : List (Option Value) → Properties
properties_in values = record {
  content_type = text_in (at 0 values);
  content_encoding = text_in (at 1 values);
  headers = table_in (at 2 values);
  delivery_mode = number_in (at 3 values);
  priority = number_in (at 4 values);
  correlation_id = text_in (at 5 values);
  reply_to = text_in (at 6 values);
  expiration = text_in (at 7 values);
  message_id = text_in (at 8 values);
  timestamp = number_in (at 9 values);
  type_name = text_in (at 10 values);
  user_id = text_in (at 11 values);
  app_id = text_in (at 12 values);
  reserved = text_in (at 13 values);
}

properties_back : (props : Properties) → properties_in (values_of props) ≡ props
unfolding values_of properties_in at
properties_back p = λ i. record {
  content_type = text_back p.content_type i;
  content_encoding = text_back p.content_encoding i;
  headers = table_back p.headers i;
  delivery_mode = octet_back p.delivery_mode i;
  priority = octet_back p.priority i;
  correlation_id = text_back p.correlation_id i;
  reply_to = text_back p.reply_to i;
  expiration = text_back p.expiration i;
  message_id = text_back p.message_id i;
  timestamp = longlong_back p.timestamp i;
  type_name = text_back p.type_name i;
  user_id = text_back p.user_id i;
  app_id = text_back p.app_id i;
  reserved = text_back p.reserved i;
}

-- properties of the same values are the same
one_properties : (p q : Properties) → values_of p ≡ values_of q → p ≡ q
one_properties p q e = sym (properties_back p) ∙ ap properties_in e ∙ properties_back q

pub header_again : (size : ℕ) (props : Properties) → IsHeader size props → header_at (header_spelling size props) ≡ Ok (size, values_of props)
header_again size props is = header_again_values size (values_of props) is.size_fits (kinds_of props) is.values_fit

-- a payload is the header of one size and of one list of properties
pub headers_one : (m n : ℕ) (p q : Properties) → IsHeader m p → IsHeader n q → header_spelling m p ≡ header_spelling n q → (m ≡ n) × (p ≡ q)
headers_one m n p q one two same =
    let both : (m, values_of p) ≡ (n, values_of q) = ok_is (m, values_of p) (n, values_of q) (sym (header_again m p one) ∙ ap header_at same ∙ header_again n q two) in
    (ap (λ (x : ℕ × List (Option Value)). x.0) both, one_properties p q (ap (λ (x : ℕ × List (Option Value)). x.1) both))

-- what reading found, as the clause says it
pub is_found : (octets : List ℕ) (r : Result (ℕ × Properties) PropsFault) → IsBytes octets → Gives (λ x. (x.0, values_of x.1)) r (header_at octets)
    → IfOk r (λ x. IsHeader x.0 x.1 × (octets ≡ header_spelling x.0 x.1))
is_found octets (Ok x) are given =
    let t = header_takes octets (x.0, values_of x.1) are given in
    (record { size_fits = t.size_fits; values_fit = t.fit }, t.spelled)
is_found octets (Err e) are given = tt

-- what is spelled is read
pub is_read : (octets : List ℕ) (r : Result (ℕ × Properties) PropsFault) (size : ℕ) (props : Properties) → IsHeader size props → octets ≡ header_spelling size props
    → Gives (λ x. (x.0, values_of x.1)) r (header_at octets) → Gives (λ x. x) r (Ok (size, props))
is_read octets (Ok x) size props is spelled given =
    let both : (size, values_of props) ≡ (x.0, values_of x.1) = ok_is (size, values_of props) (x.0, values_of x.1) (sym (header_again size props is) ∙ ap header_at (sym spelled) ∙ given) in
    λ i. Ok ((both i).0, one_properties props x.1 (ap (λ (y : ℕ × List (Option Value)). y.1) both) i)
is_read octets (Err Memory) size props is spelled given = tt
is_read octets (Err Short) size props is spelled given = absurd (cc (header_again size props is))
is_read octets (Err (Class n)) size props is spelled given = absurd (cc (header_again size props is))
is_read octets (Err (Weight n)) size props is spelled given = absurd (cc (header_again size props is))
is_read octets (Err (Flags n)) size props is spelled given = absurd (cc (header_again size props is))
is_read octets (Err (Field n)) size props is spelled given = absurd (cc (header_again size props is))
is_read octets (Err (Trailing n)) size props is spelled given = absurd (cc (header_again size props is))

-- what can be spelled is short

text_short : (o : Option (List ℕ)) → IfSome (option_map short_string o) HasSpelling → IsShort o
text_short None fits = tt
text_short (Some text) fits = fits.fits

table_short : (o : Option Pairs) → IfSome (option_map field_table o) HasSpelling → IfSome o IsTable
table_short None fits = tt
table_short (Some ps) fits = fits

short_header : (size : ℕ) (p : Properties) → IsHeader size p → AreShort p
unfolding values_of
short_header size p is = record {
  content_type = text_short p.content_type (is.values_fit.0);
  content_encoding = text_short p.content_encoding (is.values_fit.1.0);
  headers = table_short p.headers (is.values_fit.1.1.0);
  correlation_id = text_short p.correlation_id (is.values_fit.1.1.1.1.1.0);
  reply_to = text_short p.reply_to (is.values_fit.1.1.1.1.1.1.0);
  expiration = text_short p.expiration (is.values_fit.1.1.1.1.1.1.1.0);
  message_id = text_short p.message_id (is.values_fit.1.1.1.1.1.1.1.1.0);
  type_name = text_short p.type_name (is.values_fit.1.1.1.1.1.1.1.1.1.1.0);
  user_id = text_short p.user_id (is.values_fit.1.1.1.1.1.1.1.1.1.1.1.0);
  app_id = text_short p.app_id (is.values_fit.1.1.1.1.1.1.1.1.1.1.1.1.0);
  reserved = text_short p.reserved (is.values_fit.1.1.1.1.1.1.1.1.1.1.1.1.1.0);
}

pub is_short : (octets : List ℕ) (r : Result (ℕ × Properties) PropsFault) → IfOk r (λ x. IsHeader x.0 x.1 × (octets ≡ header_spelling x.0 x.1)) → IfOk r (λ x. AreShort x.1)
is_short octets (Ok x) found = short_header x.0 x.1 found.0
is_short octets (Err e) found = tt
