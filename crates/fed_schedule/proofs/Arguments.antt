-- Arguments and header fields whose names are not too long have a spelling.
use Rattle.std.proofs.Common.{◌≡◌, ℕ, ℤ, pos, negsuc, zero, suc, ◌+◌, ◌*◌, ◌<◌, ◌≤◌, ◌^◌, Bool, true, false, cond, eqb, leb, List, [], ◌∷◌, length, map, drop, Option, Some, None, refl, subst, ◌⊎◌, inl, inr, arith}
use Rattle.std.specs.Prelude.{IfSome, option_map, option_and_then, nat_eq, ◌&&◌, codes}
use Rattle.std.specs.Int.{Width, w32, w64, to_be_bytes}
use mir.Val.{hbits}
use Rattle.std.specs.Int.RustNames.{FitsSigned}
use Rattle.std.specs.List.{list_any, starts_with, sum_by}
use Rattle.std.specs.Option.{unwrap_or}
use Rattle.std.specs.Result.{result_ok}
use Rattle.std.specs.Str.{IsUtf8}
use Rattle.std.proofs.lemmas.Bool.{and_parts, or_parts, ltb-false, leb-true}
use Rattle.std.proofs.lemmas.List.{length-append, length-drop}
use Rattle.std.proofs.lemmas.List.Sums.{sum_by-cons}
use Rattle.std.proofs.lemmas.Str.{IsUtf8-nil}
use Rattle.hex.specs.Hex.{decode_of}
use Rattle.field_tables.specs.Fields.{Field, boolean, signed_long, signed_longlong, long_string, void}
use Rattle.field_tables.specs.Tables.{max_depth, value_spelling, depth, pairs_depth, IsName, HasSpelling, ArePairs, IsTable}
use Rattle.field_tables.specs.View.{pairs_of}
use Rattle.amqp_props.specs.ContentHeader.{AreShort}
use Rattle.fed_journal.specs.Names.{same_text}
use Rattle.fed_schedule.specs.declared.script.TheConstants.{MAX_SCHEDULE}
use Rattle.schedule_words.specs.Words.{word_at, with_space, spaced_length, octets_of, text_of}
use Rattle.schedule_words.specs.Numbers.{is_decimal, number_up_to, number_within, begins_with_minus, minus, signed_within, long_of, longlong_of}
use Rattle.schedule_words.specs.Fields.{is_long}
use Rattle.schedule_words.specs.Values.{cut_at, truth_of, void_of, spelled_value, raw_of, typed_value, value_of, value_from, named_value, is_bad_argument_name, pair_from, argument_of, arguments_of}
use Rattle.fed_schedule.specs.Options.{without, header_words}
use Rattle.fed_schedule.specs.Messages.{header_front, headers_of, props_of}
use Rattle.fed_schedule.specs.Reasons.{has_bad_binding_names, has_bad_publish_names}
use Rattle.schedule_words.proofs.Lengths.{spaced_drop, length_octets, length_text, length_cut, pair_length, length_pairs}
use Rattle.schedule_words.proofs.Spelled.{digits_write, spelled-is}
use Rattle.schedule_words.proofs.Utf8.{utf8_lossy-is_text}

-- ---- options

pub map_some : {A B : Type 0} (f : A → B) (o : Option A) (y : B) → option_map f o ≡ Some y → (x : A) × (o ≡ Some x) × (f x ≡ y)
map_some f None y e = absurd cc
map_some f (Some x) y e = (x, refl, cc)

pub some_is : {A : Type 0} (x y : A) → Some x ≡ Some y → x ≡ y
some_is x y e = cc

some_if : {A : Type 0} (b : Bool) (x y : A) → cond b (Some x) None ≡ Some y → (b ≡ true) × (x ≡ y)
some_if true x y e = (refl, cc)
some_if false x y e = absurd cc

either_some : {A : Type 0} (b : Bool) (x y : Option A) (z : A) → cond b x y ≡ Some z → (x ≡ Some z) ⊎ (y ≡ Some z)
either_some true x y z e = inl e
either_some false x y z e = inr e

-- ---- numbers

within : (least most : ℕ) (w : List ℕ) (n : ℕ) → number_within least most w ≡ Some n → (least ≤ n) × (n ≤ most)
unfolding number_within
within least most w n e =
    let x = number_up_to most w in
    let t = some_if (is_decimal w && leb least x && leb x most) x n e in
    let parts = and_parts (is_decimal w && leb least x) (leb x most) t.0 in
    let first = and_parts (is_decimal w) (leb least x) parts.0 in
    (subst (λ k. least ≤ k) t.1 (leb-true _ _ first.1), subst (λ k. k ≤ most) t.1 (leb-true _ _ parts.1))

-- how far a number is from the middle of those that a width holds
abbrev size : ℤ → ℕ
size (pos n) = n
size (negsuc n) = n

size-fits : (w : Width) (z : ℤ) → size z < 2 ^ hbits w → FitsSigned w z
size-fits w (pos n) h = record { sfits = h }
size-fits w (negsuc n) h = record { sfits = h }

minus-mag : (most n : ℕ) → 1 ≤ n → n ≤ most + 1 → size (minus n) ≤ most
minus-mag most zero low high = absurd (omega arith)
minus-mag most (suc n) low high = omega arith

signed-mag : (most : ℕ) (w : List ℕ) (z : ℤ) → signed_within most w ≡ Some z → size z ≤ most
unfolding signed_within
signed-mag most w z e = elim (either_some (begins_with_minus w) _ _ z e) [
  | inl below ↦
      let n = map_some minus _ z below in
      let t = within 1 (most + 1) _ n.0 n.1 in
      subst (λ y. size y ≤ most) n.2 (minus-mag most n.0 t.0 t.1)
  | inr above ↦
      let n = map_some pos _ z above in
      let t = within 0 most w n.0 n.1 in
      subst (λ y. size y ≤ most) n.2 t.1
]

-- ---- values

-- a value that a word of so many octets writes: it has a spelling of not many more, and nests no deeper than values may
pub record IsFit (n : ℕ) (v : Field) : Type 0 where
  pub fits : HasSpelling v
  pub nests : depth v ≤ max_depth
  pub short : length (value_spelling v) ≤ n + 9

text-fits : (w : List ℕ) → length w < 2 ^ 31 → IsFit (length w) (long_string (octets_of w))
text-fits w few =
    let octets = length_octets w in
    record {
      fits = omega arith;
      nests = omega arith;
      short = omega (arith, length-append (to_be_bytes w32 (length (octets_of w))) (octets_of w));
    }

long-fits : (w : List ℕ) (z : ℤ) → long_of w ≡ Some z → IsFit (length w) (signed_long z)
unfolding long_of
long-fits w z e = record { fits = size-fits w32 z (omega (arith, signed-mag 2147483647 w z e)); nests = omega arith; short = omega arith }

longlong-fits : (w : List ℕ) (z : ℤ) → longlong_of w ≡ Some z → IsFit (length w) (signed_longlong z)
unfolding longlong_of
longlong-fits w z e = record { fits = size-fits w64 z (omega (arith, signed-mag 9223372036854775807 w z e)); nests = omega arith; short = omega arith }

truth-fits : (w : List ℕ) (v : Field) → truth_of w ≡ Some v → IsFit (length w) v
unfolding truth_of
truth-fits w v e = elim (either_some (same_text w (codes "0")) (Some (boolean false)) (cond (same_text w (codes "1")) (Some (boolean true)) None) v e) [
  | inl off ↦ subst (IsFit (length w)) (some_is (boolean false) v off) (record { fits = tt; nests = omega arith; short = omega arith })
  | inr other ↦ subst (IsFit (length w)) (some_if (same_text w (codes "1")) (boolean true) v other).1 (record { fits = tt; nests = omega arith; short = omega arith })
]

void-fits : (n : ℕ) → IsFit n void
void-fits n = record { fits = tt; nests = omega arith; short = omega arith }

nothing-fits : (w : List ℕ) (v : Field) → void_of w ≡ Some v → IsFit (length w) v
unfolding void_of
nothing-fits w v e = subst (IsFit (length w)) (some_if (eqb (length w) 0) void v e).1 (void-fits (length w))

raw-from : (o : Option (List ℕ)) (w : List ℕ) (v : Field) → result_ok (decode_of w) ≡ o → option_and_then spelled_value o ≡ Some v → IsFit (length w) v
raw-from None w v is e = absurd cc
raw-from (Some h) w v is e =
    let t = spelled-is h v (digits_write w h is).1 e in
    record { fits = t.fits; nests = t.nests; short = omega (arith, t.takes, (digits_write w h is).0) }

raw-fits : (w : List ℕ) (v : Field) → raw_of w ≡ Some v → IsFit (length w) v
unfolding raw_of
raw-fits w v e = raw-from (result_ok (decode_of w)) w v refl e

typed-fits : (type w : List ℕ) (v : Field) → length w < 2 ^ 31 → typed_value type w ≡ Some v → IsFit (length w) v
unfolding typed_value
typed-fits type w v few e = elim (either_some (same_text type (codes "S")) _ _ v e) [
  | inl text ↦ subst (IsFit (length w)) (some_is (long_string (octets_of w)) v text) (text-fits w few)
  | inr e2 ↦ elim (either_some (same_text type (codes "I")) _ _ v e2) [
    | inl number ↦ let z = map_some signed_long _ v number in subst (IsFit (length w)) z.2 (long-fits w z.0 z.1)
    | inr e3 ↦ elim (either_some (same_text type (codes "l")) _ _ v e3) [
      | inl number ↦ let z = map_some signed_longlong _ v number in subst (IsFit (length w)) z.2 (longlong-fits w z.0 z.1)
      | inr e4 ↦ elim (either_some (same_text type (codes "t")) _ _ v e4) [
        | inl truth ↦ truth-fits w v truth
        | inr e5 ↦ elim (either_some (same_text type (codes "V")) _ _ v e5) [
          | inl nothing ↦ nothing-fits w v nothing
          | inr e6 ↦ elim (either_some (same_text type (codes "raw")) (raw_of w) None v e6) [
            | inl raw ↦ raw-fits w v raw
            | inr none ↦ absurd cc
          ]
        ]
      ]
    ]
  ]
]

wider : (n m : ℕ) (v : Field) → n ≤ m → IsFit n v → IsFit m v
wider n m v more t = record { fits = t.fits; nests = t.nests; short = omega (arith, more, t.short) }

from-fits : (n : ℕ) (parts : Option (List ℕ × List ℕ)) (v : Field) → IfSome parts (λ parts. length parts.1 ≤ n) → n < 2 ^ 31 → value_from parts ≡ Some v → IsFit n v
from-fits n None v shorter few e = absurd cc
from-fits n (Some parts) v shorter few e = wider (length parts.1) n v shorter (typed-fits parts.0 parts.1 v (omega arith) e)

cut-shorter : (s : ℕ) (w : List ℕ) (parts : Option (List ℕ × List ℕ)) → cut_at s w ≡ parts → IfSome parts (λ parts. length parts.1 ≤ length w)
cut-shorter s w None is = tt
cut-shorter s w (Some parts) is = omega (arith, length_cut s w parts is)

value-fits : (w : List ℕ) (v : Field) → length w < 2 ^ 31 → value_of w ≡ Some v → IsFit (length w) v
unfolding value_of
value-fits w v few e = from-fits (length w) (cut_at 58 w) v (cut-shorter 58 w (cut_at 58 w) refl) few e

-- ---- names and values

text-is : (w : List ℕ) → IsUtf8 (text_of w)
unfolding text_of
text-is w = utf8_lossy-is_text (octets_of w)

-- a name and a value that fit, of a word of so many octets
record IsArgument (n : ℕ) (p : List ℕ × Field) : Type 0 where
  name : IsName p.0
  fits : HasSpelling p.1
  nests : depth p.1 ≤ max_depth
  short : pair_length p ≤ 3 * n + 10

or_void : (w : List ℕ) (o : Option Field) → value_of w ≡ o → length w < 2 ^ 31 → IsFit (length w) (unwrap_or o void)
or_void w None is few = void-fits (length w)
or_void w (Some v) is few = value-fits w v few is

named-shorter : (b : Bool) (front w : List ℕ) (parts : List ℕ × List ℕ) → cond b (cut_at 61 (drop (length front) w)) None ≡ Some parts → length parts.0 + length parts.1 ≤ length w
named-shorter true front w parts e = omega (arith, length_cut 61 (drop (length front) w) parts e, length-drop (length front) w)
named-shorter false front w parts e = absurd cc

length_named : (front w : List ℕ) (parts : List ℕ × List ℕ) → named_value front w ≡ Some parts → length parts.0 + length parts.1 ≤ length w
unfolding named_value
length_named front w parts e = named-shorter (starts_with nat_eq w front) front w parts e

pair-is : (front w : List ℕ) (parts : Option (List ℕ × List ℕ)) → named_value front w ≡ parts → is_bad_argument_name front w ≡ false → length w < 2 ^ 31 → IsArgument (length w) (pair_from parts)
pair-is front w None is named few = record { name = record { text = IsUtf8-nil; fits = omega arith }; fits = tt; nests = omega arith; short = omega arith }
pair-is front w (Some parts) is named few =
    let good : is_long (text_of parts.0) ≡ false = rw is at named in
    let shorter = length_named front w parts is in
    let value = or_void parts.1 (value_of parts.1) refl (omega arith) in
    record {
      name = record { text = text-is parts.0; fits = omega (arith, ltb-false _ _ good) };
      fits = value.fits;
      nests = value.nests;
      short = omega (arith, value.short, length_text parts.0);
    }

argument-is : (front w : List ℕ) → is_bad_argument_name front w ≡ false → length w < 2 ^ 31 → IsArgument (length w) (argument_of front w)
unfolding argument_of
argument-is front w named few = pair-is front w (named_value front w) refl named few

-- ---- tables

record ArePlain (n : ℕ) (ps : List (List ℕ × Field)) : Type 0 where
  pairs : ArePairs (pairs_of ps)
  nests : pairs_depth (pairs_of ps) ≤ max_depth
  short : sum_by pair_length ps ≤ 16 * n

arguments-plain : (front : List ℕ) (ws : List (List ℕ)) → list_any (is_bad_argument_name front) ws ≡ false → spaced_length ws < 2 ^ 31 → ArePlain (spaced_length ws) (map (argument_of front) ws)
arguments-plain front [] named few = record { pairs = tt; nests = omega arith; short = omega arith }
arguments-plain front (w ∷ ws) named few =
    let parts = or_parts (is_bad_argument_name front w) (list_any (is_bad_argument_name front) ws) named in
    let spaced = sum_by-cons with_space w ws in
    let sum = sum_by-cons pair_length (argument_of front w) (map (argument_of front) ws) in
    let first = argument-is front w parts.0 (omega arith) in
    let others = arguments-plain front ws parts.1 (omega arith) in
    record {
      pairs = (first.name, first.fits, others.pairs);
      nests = omega (arith, first.nests, others.nests);
      short = omega (arith, first.short, others.short);
    }

-- arguments of which no name is too long, in a line of a schedule
pub arguments_spelled : (front : List ℕ) (ws : List (List ℕ)) → list_any (is_bad_argument_name front) ws ≡ false → spaced_length ws ≤ MAX_SCHEDULE + 1 → IsTable (arguments_of front ws)
unfolding arguments_of
arguments_spelled front ws named few =
    let plain = arguments-plain front ws named (omega arith) in
    record { pairs = plain.pairs; counted = omega (arith, plain.short, length_pairs (map (argument_of front) ws)); nests = plain.nests }

pub binding_names : (ws : List (List ℕ)) → has_bad_binding_names ws ≡ false → list_any (is_bad_argument_name []) (drop 7 ws) ≡ false
unfolding has_bad_binding_names
binding_names ws named = (or_parts _ (list_any (is_bad_argument_name []) (drop 7 ws)) named).1

-- ---- messages

drop_one : (p : List ℕ → Bool) (ws : List (List ℕ)) → list_any p ws ≡ false → list_any p (drop 1 ws) ≡ false
drop_one p [] none = none
drop_one p (w ∷ ws) none = (or_parts (p w) (list_any p ws) none).1

if_dropped : (p : List ℕ → Bool) (b : Bool) (ws : List (List ℕ)) → list_any p ws ≡ false → list_any p (cond b (drop 1 ws) ws) ≡ false
if_dropped p true ws none = drop_one p ws none
if_dropped p false ws none = none

fewer : (p : List ℕ → Bool) (ws : List (List ℕ)) → list_any p ws ≡ false → list_any p (header_words ws) ≡ false
unfolding header_words without
fewer p ws none = if_dropped p (same_text (word_at ws 0) (codes "persistent")) ws none

spaced_if : (b : Bool) (ws : List (List ℕ)) → spaced_length (cond b (drop 1 ws) ws) ≤ spaced_length ws
spaced_if true ws = spaced_drop 1 ws
spaced_if false ws = omega arith

spaced_header : (ws : List (List ℕ)) → spaced_length (header_words ws) ≤ spaced_length ws
unfolding header_words without
spaced_header ws = spaced_if (same_text (word_at ws 0) (codes "persistent")) ws

headers-spelled : (b : Bool) (ws : List (List ℕ)) → eqb (length ws) 0 ≡ b → list_any (is_bad_argument_name header_front) ws ≡ false → spaced_length ws ≤ MAX_SCHEDULE + 1 → IfSome (headers_of ws) IsTable
unfolding headers_of
headers-spelled true ws is named few = rw is tt
headers-spelled false ws is named few = rw is (arguments_spelled header_front ws named few)

pub publish_names : (ws : List (List ℕ)) → has_bad_publish_names ws ≡ false → list_any (is_bad_argument_name header_front) (drop 6 ws) ≡ false
unfolding has_bad_publish_names
publish_names ws named = (or_parts _ (list_any (is_bad_argument_name header_front) (drop 6 ws)) named).1

-- the properties of a message whose names are not too long have a spelling
pub props_short : (ws : List (List ℕ)) → list_any (is_bad_argument_name header_front) (drop 6 ws) ≡ false → spaced_length ws ≤ MAX_SCHEDULE + 1 → AreShort (props_of ws)
unfolding props_of
props_short ws named few =
    let hs = header_words (drop 6 ws) in
    record {
      content_type = tt;
      content_encoding = tt;
      headers = headers-spelled (eqb (length hs) 0) hs refl (fewer _ (drop 6 ws) named) (omega (arith, few, spaced_header (drop 6 ws), spaced_drop 6 ws));
      correlation_id = tt;
      reply_to = tt;
      expiration = tt;
      message_id = tt;
      type_name = tt;
      user_id = tt;
      app_id = tt;
      reserved = tt;
    }
