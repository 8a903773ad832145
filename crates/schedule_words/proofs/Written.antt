-- Words that are written are read back.
use Rattle.std.proofs.Common.{◌≡◌, ℕ, zero, suc, ◌+◌, ◌*◌, ◌/◌, ◌%◌, ◌<◌, ◌≤◌, ◌^◌, Bool, true, false, cond, ltb, eqb, List, [], ◌∷◌, ◌++◌, length, get_or, take, drop, All, Option, Some, None, refl, sym, ap, subst, ◌∙◌, ⊎_elim, append_assoc, add-one, eq-eqb, inl, inr, arith}
use Rattle.std.specs.Prelude.{IsUtf8, codes, flat_map, fold, not, ◌||◌, ◌&&◌}
use Rattle.std.specs.Char.{digit_value}
use Rattle.std.specs.Fmt.{decimal}
use Rattle.std.specs.List.{list_all, position, position_or_len}
use lib.Utf8.{scalar, scalars, next, encode, encodes, scalar_cases}
use Rattle.std.proofs.lemmas.Bool.{cases_Bool, cond_both, both_ways, and_parts, and_from, ne_eqb, eqb-true, eqb-false, not-true, cases_lt, ltb-true, le-leb, le-ltb, lt-ltb, and_right, not_from_false, false_from_ne_true, agree_below_at}
use Rattle.std.proofs.lemmas.Fmt.{decimal_digit, decimal_by_steps, first_decimal, decimal_nonempty}
use Rattle.std.proofs.lemmas.List.{append-nil, length-append}
use Rattle.std.proofs.lemmas.List.Elements.{All-nil, All-cons, All-head, All-tail, All-append, All-weaker}
use Rattle.std.proofs.lemmas.List.Folds.{list_all-append}
use Rattle.std.proofs.lemmas.List.Sums.{fold_push}
use Rattle.std.proofs.lemmas.Slice.Eq.{bytes_eq-Decides}
use Rattle.std.proofs.lemmas.Str.{IsUtf8-append, IsUtf8-from_ascii, is_utf8-from_IsUtf8, utf8_lossy-IsUtf8}
use Rattle.std.proofs.lemmas.Str.Ascii.{IsAscii-from_all}
use Rattle.std.proofs.Math.Seq.{take-append_seam, drop-append_seam}
use Rattle.percent_encoding.specs.Percent.{percent_decode}
use Rattle.percent_encoding.proofs.PercentLemmas.{percent_decode_escape, percent_decode_not_percent}
use Rattle.fed_journal.specs.declared.place.Place.{Place}
use Rattle.fed_journal.specs.Names.{same_text}
use Rattle.fed_journal.specs.Words.{is_plain, hex_digit, percent_octet, word, place_word}
use Rattle.schedule_words.specs.Words.{octets_of, text_of, is_text, is_hex_digit, is_well_escaped}
use Rattle.schedule_words.specs.Numbers.{is_digit, is_decimal, with_digit, number_up_to, number_within}
use Rattle.schedule_words.specs.Fields.{place_of}
use Rattle.schedule_words.specs.Laws.{IsOctet, IsVisible, IsOneWord, OctetsComeBack, TextComesBack, PlaceComesBack, NumberComesBack}

-- ---- the octets of a text

scalar_small : (c : ℕ) → scalar c ≡ true → c < 1114112
scalar_small c e = ⊎_elim (λ h. omega (arith, h)) (λ h. h.1) (scalar_cases c e)

one : (a : ℕ) → a < 256 → All IsOctet (a ∷ [])
one a h = All-cons IsOctet a [] h (All-nil IsOctet)

more : (a : ℕ) (bs : List ℕ) → a < 256 → All IsOctet bs → All IsOctet (a ∷ bs)
more a bs h t = All-cons IsOctet a bs h t

next_one : (c : ℕ) → All IsOctet (next c ∷ [])
next_one c = one (next c) (omega arith)

next_two : (c : ℕ) → All IsOctet (next (c / 64) ∷ next c ∷ [])
next_two c = more (next (c / 64)) (next c ∷ []) (omega arith) (next_one c)

encode_octets : (c : ℕ) → scalar c ≡ true → All IsOctet (encode c)
unfolding encode
encode_octets c e =
    let small = scalar_small c e in
    cond_both (ltb c 128) _ _ (All IsOctet) (λ l. one c (omega (arith, ltb-true _ _ l))) (λ _.
    cond_both (ltb c 2048) _ _ (All IsOctet) (λ l. more (192 + c / 64) (next c ∷ []) (omega (arith, ltb-true _ _ l)) (next_one c)) (λ _.
    cond_both (ltb c 65536) _ _ (All IsOctet) (λ l. more (224 + c / 4096) (next (c / 64) ∷ next c ∷ []) (omega (arith, ltb-true _ _ l)) (next_two c)) (λ _.
    more (240 + c / 262144) (next (c / 4096) ∷ next (c / 64) ∷ next c ∷ []) (omega (arith, small)) (more (next (c / 4096)) (next (c / 64) ∷ next c ∷ []) (omega arith) (next_two c)))))

encodes_octets : (cs : List ℕ) → scalars cs ≡ true → All IsOctet (encodes cs)
encodes_octets [] e = All-nil IsOctet
encodes_octets (c ∷ cs) e =
    let p = and_parts (scalar c) (scalars cs) e in
    All-append IsOctet (encode c) (encodes cs) (encode_octets c p.0) (encodes_octets cs p.1)

pub text_octets : (t : List ℕ) → IsUtf8 t → All IsOctet t
text_octets t u = subst (All IsOctet) u.1.1 (encodes_octets u.0 u.1.0)

-- ---- one octet

digit_read : (n : ℕ) → n < 16 → digit_value (hex_digit n) ≡ n
digit_read n small = eqb-true _ _ (agree_below_at (λ k. eqb (digit_value (hex_digit k)) k) (λ k. true) 16 n refl small)

digit_is : (n : ℕ) → n < 16 → is_hex_digit (hex_digit n) ≡ true
digit_is n small = agree_below_at (λ k. is_hex_digit (hex_digit k)) (λ k. true) 16 n refl small

digit_plain : (n : ℕ) → n < 16 → is_plain (hex_digit n) ≡ true
digit_plain n small = agree_below_at (λ k. is_plain (hex_digit k)) (λ k. true) 16 n refl small

plain_other : (s b : ℕ) → is_plain s ≡ false → is_plain b ≡ true → eqb b s ≡ false
plain_other s b unlike plain = ne_eqb b s (λ (same : b ≡ s). both_ways (is_plain b) (subst (λ k. is_plain k ≡ false) (sym same) unlike) plain)

escape_back : (b : ℕ) (rest : List ℕ) → b < 256 → percent_decode (37 ∷ hex_digit (b / 16) ∷ hex_digit (b % 16) ∷ rest) ≡ b ∷ percent_decode rest
escape_back b rest small =
    let high = digit_read (b / 16) (omega arith) in
    let low = digit_read (b % 16) (omega arith) in
    let value : 16 * digit_value (hex_digit (b / 16)) + digit_value (hex_digit (b % 16)) ≡ b = rw (high, low) (omega arith) in
    percent_decode_escape 37 _ _ rest refl (rw high (omega arith)) (rw low (omega arith)) ∙ ap (λ x. x ∷ percent_decode rest) value

plain_back : (b : ℕ) (rest : List ℕ) → is_plain b ≡ true → percent_decode (b ∷ rest) ≡ b ∷ percent_decode rest
plain_back b rest plain = percent_decode_not_percent b rest (λ (same : b ≡ 37). both_ways (is_plain b) (subst (λ k. is_plain k ≡ false) (sym same) refl) plain)

octet_back : (b : ℕ) (rest : List ℕ) → b < 256 → percent_decode (percent_octet b ++ rest) ≡ b ∷ percent_decode rest
octet_back b rest small =
    cond_both (is_plain b) (b ∷ []) (37 ∷ hex_digit (b / 16) ∷ hex_digit (b % 16) ∷ []) (λ w. percent_decode (w ++ rest) ≡ b ∷ percent_decode rest) (plain_back b rest) (λ _. escape_back b rest small)

not_percent : (b : ℕ) (rest : List ℕ) → is_plain b ≡ true → is_well_escaped (b ∷ rest) ≡ is_well_escaped rest
unfolding is_well_escaped
not_percent b rest plain = rw (plain_other 37 b refl plain) refl

escape_escaped : (b : ℕ) (rest : List ℕ) → b < 256 → is_well_escaped (37 ∷ hex_digit (b / 16) ∷ hex_digit (b % 16) ∷ rest) ≡ is_well_escaped rest
unfolding is_well_escaped
escape_escaped b rest small =
    let high = hex_digit (b / 16) in
    let low = hex_digit (b % 16) in
    rw (digit_is (b / 16) (omega arith), digit_is (b % 16) (omega arith))
    (not_percent high (low ∷ rest) (digit_plain (b / 16) (omega arith)) ∙ not_percent low rest (digit_plain (b % 16) (omega arith)))

octet_escaped : (b : ℕ) (rest : List ℕ) → b < 256 → is_well_escaped (percent_octet b ++ rest) ≡ is_well_escaped rest
octet_escaped b rest small =
    cond_both (is_plain b) (b ∷ []) (37 ∷ hex_digit (b / 16) ∷ hex_digit (b % 16) ∷ []) (λ w. is_well_escaped (w ++ rest) ≡ is_well_escaped rest) (not_percent b rest) (λ _. escape_escaped b rest small)

-- octets that a word may have: plain ones and `%`
abbrev pub is_written : ℕ → Bool
is_written b = is_plain b || eqb b 37

abbrev pub IsWritten : ℕ → Type 0
IsWritten b = is_written b ≡ true

plain_written : (b : ℕ) → is_plain b ≡ true → IsWritten b
plain_written b plain = rw plain refl

octet_written : (b : ℕ) → b < 256 → All IsWritten (percent_octet b)
octet_written b small =
    cond_both (is_plain b) (b ∷ []) (37 ∷ hex_digit (b / 16) ∷ hex_digit (b % 16) ∷ []) (All IsWritten)
    (λ plain. All-cons IsWritten b [] (plain_written b plain) (All-nil IsWritten))
    (λ _. All-cons IsWritten 37 (hex_digit (b / 16) ∷ hex_digit (b % 16) ∷ []) refl
    (All-cons IsWritten (hex_digit (b / 16)) (hex_digit (b % 16) ∷ []) (plain_written (hex_digit (b / 16)) (digit_plain (b / 16) (omega arith)))
    (All-cons IsWritten (hex_digit (b % 16)) [] (plain_written (hex_digit (b % 16)) (digit_plain (b % 16) (omega arith))) (All-nil IsWritten))))

-- the octet is not this one
abbrev pub IsOther : ℕ → ℕ → Type 0
IsOther s b = eqb b s ≡ false

pub written_other : (s b : ℕ) → is_written s ≡ false → IsWritten b → IsOther s b
written_other s b unlike written = ne_eqb b s (λ (same : b ≡ s). both_ways (is_written b) (subst (λ k. is_written k ≡ false) (sym same) unlike) written)

written_visible : (b : ℕ) → IsWritten b → IsVisible b
written_visible b written = elim (cases_lt 32 b) [
  | inl lt ↦ lt
  | inr le ↦ absurd (both_ways (is_written b) (agree_below_at is_written (λ k. false) 33 b refl (omega (arith, le))) written)
]

octet_some : (b : ℕ) → 0 < length (percent_octet b)
octet_some b = cond_both (is_plain b) (b ∷ []) (37 ∷ hex_digit (b / 16) ∷ hex_digit (b % 16) ∷ []) (λ w. 0 < length w) (λ _. omega arith) (λ _. omega arith)

-- ---- octets in a row

octets_back : (t rest : List ℕ) → All IsOctet t → percent_decode (flat_map percent_octet t ++ rest) ≡ t ++ percent_decode rest
octets_back [] rest small = refl
octets_back (b ∷ bs) rest small =
    rw (append_assoc (percent_octet b) (flat_map percent_octet bs) rest)
    (octet_back b (flat_map percent_octet bs ++ rest) (All-head IsOctet b bs small) ∙ ap (λ (x : List ℕ). b ∷ x) (octets_back bs rest (All-tail IsOctet b bs small)))

octets_escaped : (t rest : List ℕ) → All IsOctet t → is_well_escaped (flat_map percent_octet t ++ rest) ≡ is_well_escaped rest
octets_escaped [] rest small = refl
octets_escaped (b ∷ bs) rest small =
    rw (append_assoc (percent_octet b) (flat_map percent_octet bs) rest)
    (octet_escaped b (flat_map percent_octet bs ++ rest) (All-head IsOctet b bs small) ∙ octets_escaped bs rest (All-tail IsOctet b bs small))

octets_written : (t : List ℕ) → All IsOctet t → All IsWritten (flat_map percent_octet t)
octets_written [] small = All-nil IsWritten
octets_written (b ∷ bs) small =
    All-append IsWritten (percent_octet b) (flat_map percent_octet bs) (octet_written b (All-head IsOctet b bs small)) (octets_written bs (All-tail IsOctet b bs small))

-- ---- words

dash_is : (t : List ℕ) → same_text t (codes "-") ≡ true → t ≡ codes "-"
dash_is t e = (bytes_eq-Decides t (codes "-")).0 e

is_dash : (t : List ℕ) → t ≡ codes "-" → same_text t (codes "-") ≡ true
is_dash t e = (bytes_eq-Decides t (codes "-")).1 e

-- what a word's percent-decoding is: `-` stays
abbrev pub shown : List ℕ → List ℕ
shown [] = codes "-"
shown (b ∷ bs) = b ∷ bs

pub word_decodes : (t rest : List ℕ) → All IsOctet t → percent_decode (word t ++ rest) ≡ shown t ++ percent_decode rest
word_decodes [] rest small = plain_back 45 rest refl
word_decodes (b ∷ bs) rest small =
    cond_both (same_text (b ∷ bs) (codes "-")) (codes "%2D") (flat_map percent_octet (b ∷ bs)) (λ w. percent_decode (w ++ rest) ≡ (b ∷ bs) ++ percent_decode rest)
    (λ same. subst (λ (t : List ℕ). percent_decode (codes "%2D" ++ rest) ≡ t ++ percent_decode rest) (sym (dash_is (b ∷ bs) same)) (percent_decode_escape 37 50 68 rest refl (omega arith) (omega arith)))
    (λ _. octets_back (b ∷ bs) rest small)

dash_escaped : (rest : List ℕ) → is_well_escaped (codes "%2D" ++ rest) ≡ is_well_escaped rest
unfolding is_well_escaped
dash_escaped rest = refl

pub word_escaped : (t rest : List ℕ) → All IsOctet t → is_well_escaped (word t ++ rest) ≡ is_well_escaped rest
word_escaped [] rest small = not_percent 45 rest refl
word_escaped (b ∷ bs) rest small =
    cond_both (same_text (b ∷ bs) (codes "-")) (codes "%2D") (flat_map percent_octet (b ∷ bs)) (λ w. is_well_escaped (w ++ rest) ≡ is_well_escaped rest)
    (λ _. dash_escaped rest) (λ _. octets_escaped (b ∷ bs) rest small)

pub word_written : (t : List ℕ) → All IsOctet t → All IsWritten (word t)
word_written [] small = All-cons IsWritten 45 [] refl (All-nil IsWritten)
word_written (b ∷ bs) small =
    cond_both (same_text (b ∷ bs) (codes "-")) (codes "%2D") (flat_map percent_octet (b ∷ bs)) (All IsWritten)
    (λ _. All-cons IsWritten 37 (50 ∷ 68 ∷ []) refl (All-cons IsWritten 50 (68 ∷ []) refl (All-cons IsWritten 68 [] refl (All-nil IsWritten)))) (λ _. octets_written (b ∷ bs) small)

pub word_some : (t : List ℕ) → 0 < length (word t)
word_some [] = omega arith
word_some (b ∷ bs) =
    cond_both (same_text (b ∷ bs) (codes "-")) (codes "%2D") (flat_map percent_octet (b ∷ bs)) (λ w. 0 < length w)
    (λ _. omega arith) (λ _. omega (arith, octet_some b, length-append (percent_octet b) (flat_map percent_octet bs)))

nil_escaped : is_well_escaped [] ≡ true
unfolding is_well_escaped
nil_escaped = refl

nil_decodes : percent_decode [] ≡ []
unfolding percent_decode
nil_decodes = refl

word_alone : (t : List ℕ) → All IsOctet t → percent_decode (word t) ≡ shown t
word_alone t small = ap percent_decode (sym (append-nil (word t))) ∙ word_decodes t [] small ∙ ap (λ (x : List ℕ). shown t ++ x) nil_decodes ∙ append-nil (shown t)

-- no octets are written as `-` but none
not_dash : (b : ℕ) (bs : List ℕ) → All IsOctet (b ∷ bs) → same_text (word (b ∷ bs)) (codes "-") ≡ false
not_dash b bs small =
    false_from_ne_true _ (λ (e : same_text (word (b ∷ bs)) (codes "-") ≡ true).
    let we = dash_is (word (b ∷ bs)) e in
    let te : b ∷ bs ≡ codes "-" = sym (word_alone (b ∷ bs) small) ∙ ap percent_decode we ∙ plain_back 45 [] refl ∙ ap (λ (x : List ℕ). 45 ∷ x) nil_decodes in
    let wrong : codes "%2D" ≡ codes "-" = subst (λ (t : List ℕ). word t ≡ codes "-") te we in
    absurd cc)

word_read : (t : List ℕ) → All IsOctet t → octets_of (word t) ≡ t
unfolding octets_of
word_read [] small = refl
word_read (b ∷ bs) small = rw (not_dash b bs small) (word_alone (b ∷ bs) small)

pub one_word : (w : List ℕ) → 0 < length w → All IsWritten w → is_well_escaped w ≡ true → IsOneWord w
one_word w some written escaped = record { some = some; visible = All-weaker IsWritten IsVisible written_visible w written; escaped = escaped }

pub words-back : (t : List ℕ) → All IsOctet t → OctetsComeBack t
words-back t small =
    record {
      written = one_word (word t) (word_some t) (word_written t small) (ap is_well_escaped (sym (append-nil (word t))) ∙ word_escaped t [] small ∙ nil_escaped);
      read = word_read t small;
    }

pub texts-back : (t : List ℕ) → IsUtf8 t → TextComesBack t
unfolding is_text text_of
texts-back t u =
    let read = word_read t (text_octets t u) in
    record { valid = rw read (is_utf8-from_IsUtf8 t u); read = rw read (utf8_lossy-IsUtf8 t u) }

-- ---- places

passed : (s : ℕ) (w rest : List ℕ) → All (IsOther s) w → position_or_len (λ b. eqb b s) (w ++ rest) ≡ length w + position_or_len (λ b. eqb b s) rest
passed s [] rest others = omega arith
passed s (b ∷ bs) rest others =
    rw (All-head (IsOther s) b bs others) (omega (arith, passed s bs rest (All-tail (IsOther s) b bs others)))

at_once : (s : ℕ) (rest : List ℕ) → position_or_len (λ b. eqb b s) (s ∷ rest) ≡ 0
at_once s rest = rw (eq-eqb s s refl) refl

pub found_after : (s : ℕ) (w rest : List ℕ) → All (IsOther s) w → position (λ b. eqb b s) (w ++ s ∷ rest) ≡ Some (length w)
found_after s w rest others =
    let at : position_or_len (λ b. eqb b s) (w ++ s ∷ rest) ≡ length w = omega (arith, passed s w (s ∷ rest) others, at_once s rest) in
    rw (at, lt-ltb (length w) (length (w ++ s ∷ rest)) (omega (arith, length-append w (s ∷ rest)))) refl

none_passed : (s : ℕ) (w : List ℕ) → All (IsOther s) w → position_or_len (λ b. eqb b s) w ≡ length w
none_passed s [] others = refl
none_passed s (b ∷ bs) others = rw (All-head (IsOther s) b bs others) (omega (arith, none_passed s bs (All-tail (IsOther s) b bs others)))

pub found_not : (s : ℕ) (w : List ℕ) → All (IsOther s) w → position (λ b. eqb b s) w ≡ None
found_not s w others = rw (none_passed s w others, le-ltb (length w) (length w) (omega arith)) refl

drop_suc : (xs : List ℕ) (y : ℕ) (ys : List ℕ) → drop (suc (length xs)) (xs ++ y ∷ ys) ≡ ys
drop_suc [] y ys = refl
drop_suc (x ∷ xs) y ys = drop_suc xs y ys

pub drop_after : (xs : List ℕ) (y : ℕ) (ys : List ℕ) → drop (length xs + 1) (xs ++ y ∷ ys) ≡ ys
drop_after xs y ys = rw add-one (drop_suc xs y ys)

IsUtf8-one : (b : ℕ) → b < 128 → IsUtf8 (b ∷ [])
IsUtf8-one b small = IsUtf8-from_ascii (b ∷ []) (IsAscii-from_all (b ∷ []) (All-cons (λ k. k < 128) b [] small (All-nil (λ k. k < 128))))

pub shown_text : (t : List ℕ) → IsUtf8 t → IsUtf8 (shown t)
shown_text [] u = IsUtf8-one 45 (omega arith)
shown_text (b ∷ bs) u = u

colon_escaped : (w : List ℕ) → is_well_escaped (58 ∷ w) ≡ is_well_escaped w
unfolding is_well_escaped
colon_escaped w = refl

colon_decodes : (w : List ℕ) → percent_decode (58 ∷ w) ≡ 58 ∷ percent_decode w
colon_decodes w = percent_decode_not_percent 58 w (λ (same : 58 ≡ 37). absurd (omega (arith, same)))

word_others : (s : ℕ) (t : List ℕ) → is_written s ≡ false → All IsOctet t → All (IsOther s) (word t)
word_others s t unlike small = All-weaker IsWritten (IsOther s) (λ b. written_other s b unlike) (word t) (word_written t small)

long_not_dash : (w : List ℕ) → 1 < length w → same_text w (codes "-") ≡ false
long_not_dash w long = false_from_ne_true _ (λ (e : same_text w (codes "-") ≡ true). absurd (omega (arith, long, ap length (dash_is w e))))

-- what is known of the word of a place
record IsPlaceWord (p : Place) (w : List ℕ) : Type 0 where
  written : IsOneWord w
  valid : is_text w ≡ true
  read : place_of w ≡ p

broker_word : (p : Place) → IsUtf8 p.broker → same_text p.vhost (codes "/") ≡ true → IsPlaceWord p (word p.broker)
unfolding place_of
broker_word p ub default =
    let octets = words-back p.broker (text_octets p.broker ub) in
    let text = texts-back p.broker ub in
    let vhost : codes "/" ≡ p.vhost = sym ((bytes_eq-Decides p.vhost (codes "/")).0 default) in
    let broker = text.read in
    record {
      written = octets.written;
      valid = text.valid;
      read = rw (found_not 58 (word p.broker) (word_others 58 p.broker refl (text_octets p.broker ub))) (λ i. record { broker = broker i; vhost = vhost i });
    }

both_word : (p : Place) → IsUtf8 p.broker → IsUtf8 p.vhost → IsPlaceWord p (word p.broker ++ 58 ∷ word p.vhost)
unfolding place_of is_text octets_of
both_word p ub uv =
    let b = word p.broker in
    let v = word p.vhost in
    let small = text_octets p.broker ub in
    let smalls = text_octets p.vhost uv in
    let first = words-back p.broker small in
    let second = words-back p.vhost smalls in
    let long : 1 < length (b ++ 58 ∷ v) = omega (arith, word_some p.broker, word_some p.vhost, length-append b (58 ∷ v)) in
    let decoded : percent_decode (b ++ 58 ∷ v) ≡ shown p.broker ++ 58 ∷ shown p.vhost =
    word_decodes p.broker (58 ∷ v) small ∙ ap (λ (x : List ℕ). shown p.broker ++ x) (colon_decodes v ∙ ap (λ (x : List ℕ). 58 ∷ x) (word_alone p.vhost smalls)) in
    let utf8 : IsUtf8 (shown p.broker ++ 58 ∷ shown p.vhost) =
    IsUtf8-append (shown p.broker) (58 ∷ shown p.vhost) (shown_text p.broker ub) (IsUtf8-append (58 ∷ []) (shown p.vhost) (IsUtf8-one 58 (omega arith)) (shown_text p.vhost uv)) in
    let broker : text_of (take (length b) (b ++ 58 ∷ v)) ≡ p.broker = rw take-append_seam (texts-back p.broker ub).read in
    let vhost : text_of (drop (length b + 1) (b ++ 58 ∷ v)) ≡ p.vhost = rw drop_after (texts-back p.vhost uv).read in
    record {
      written = record {
        some = omega arith;
        visible = All-append IsVisible b (58 ∷ v) first.written.visible (All-cons IsVisible 58 v (omega arith) second.written.visible);
        escaped = word_escaped p.broker (58 ∷ v) small ∙ colon_escaped v ∙ second.written.escaped;
      };
      valid = rw (long_not_dash (b ++ 58 ∷ v) long, decoded) (is_utf8-from_IsUtf8 _ utf8);
      read = rw (found_after 58 b v (word_others 58 p.broker refl small)) (λ i. record { broker = broker i; vhost = vhost i });
    }

pair_word : (p : Place) → IsUtf8 p.broker → IsUtf8 p.vhost → IsPlaceWord p (word p.broker ++ codes ":" ++ word p.vhost)
pair_word p ub uv = rw (append_assoc (word p.broker) (codes ":") (word p.vhost)) (both_word p ub uv)

pub places-back : (p : Place) → IsUtf8 p.broker → IsUtf8 p.vhost → PlaceComesBack p
places-back p ub uv =
    let t = cond_both (same_text p.vhost (codes "/")) (word p.broker) (word p.broker ++ codes ":" ++ word p.vhost) (IsPlaceWord p) (broker_word p ub) (λ _. pair_word p ub uv) in
    record { written = t.written; valid = t.valid; read = t.read }

-- ---- words that stand for themselves

-- visible ASCII but `%`
abbrev pub is_bare : ℕ → Bool
is_bare b = ltb 32 b && ltb b 128 && not (eqb b 37)

abbrev pub AreBare : List ℕ → Type 0
AreBare w = list_all is_bare w ≡ true

record IsBare (b : ℕ) : Type 0 where
  visible : 32 < b
  ascii : b < 128
  plain : eqb b 37 ≡ false

bare_is : (b : ℕ) → is_bare b ≡ true → IsBare b
bare_is b e =
    let last = and_parts (ltb 32 b && ltb b 128) (not (eqb b 37)) e in
    let first = and_parts (ltb 32 b) (ltb b 128) last.0 in
    record { visible = ltb-true _ _ first.0; ascii = ltb-true _ _ first.1; plain = not-true _ last.1 }

pub bare_decodes : (w rest : List ℕ) → AreBare w → percent_decode (w ++ rest) ≡ w ++ percent_decode rest
bare_decodes [] rest bare = refl
bare_decodes (b ∷ bs) rest bare =
    let t = and_parts (is_bare b) (list_all is_bare bs) bare in
    percent_decode_not_percent b (bs ++ rest) (eqb-false b 37 (bare_is b t.0).plain) ∙ ap (λ (x : List ℕ). b ∷ x) (bare_decodes bs rest t.1)

octet_kept : (b : ℕ) (rest : List ℕ) → eqb b 37 ≡ false → is_well_escaped (b ∷ rest) ≡ is_well_escaped rest
unfolding is_well_escaped
octet_kept b rest other = rw other refl

pub bare_escaped : (w rest : List ℕ) → AreBare w → is_well_escaped (w ++ rest) ≡ is_well_escaped rest
bare_escaped [] rest bare = refl
bare_escaped (b ∷ bs) rest bare =
    let t = and_parts (is_bare b) (list_all is_bare bs) bare in
    octet_kept b (bs ++ rest) (bare_is b t.0).plain ∙ bare_escaped bs rest t.1

pub bare_visible : (w : List ℕ) → AreBare w → All IsVisible w
bare_visible [] bare = All-nil IsVisible
bare_visible (b ∷ bs) bare =
    let t = and_parts (is_bare b) (list_all is_bare bs) bare in
    All-cons IsVisible b bs (bare_is b t.0).visible (bare_visible bs t.1)

bare_ascii : (w : List ℕ) → AreBare w → All (λ b. b < 128) w
bare_ascii [] bare = All-nil (λ b. b < 128)
bare_ascii (b ∷ bs) bare =
    let t = and_parts (is_bare b) (list_all is_bare bs) bare in
    All-cons (λ k. k < 128) b bs (bare_is b t.0).ascii (bare_ascii bs t.1)

pub bare_text : (w : List ℕ) → AreBare w → IsUtf8 w
bare_text w bare = IsUtf8-from_ascii w (IsAscii-from_all w (bare_ascii w bare))

bare_read : (w : List ℕ) → AreBare w → same_text w (codes "-") ≡ false → octets_of w ≡ w
unfolding octets_of
bare_read w bare other =
    rw other (ap percent_decode (sym (append-nil w)) ∙ bare_decodes w [] bare ∙ ap (λ (x : List ℕ). w ++ x) nil_decodes ∙ append-nil w)

-- a word of a line that is UTF-8
pub record IsTextWord (w : List ℕ) : Type 0 where
  pub written : IsOneWord w
  pub valid : is_text w ≡ true

bare_valid : (w : List ℕ) → AreBare w → same_text w (codes "-") ≡ false → is_text w ≡ true
unfolding is_text
bare_valid w bare other = rw (bare_read w bare other) (is_utf8-from_IsUtf8 w (bare_text w bare))

pub bare_word : (w : List ℕ) → 0 < length w → AreBare w → same_text w (codes "-") ≡ false → IsTextWord w
bare_word w some bare other =
    record {
      written = record { some = some; visible = bare_visible w bare; escaped = ap is_well_escaped (sym (append-nil w)) ∙ bare_escaped w [] bare ∙ nil_escaped };
      valid = bare_valid w bare other;
    }

-- ---- numbers

digit_bare : (k : ℕ) → k < 10 → is_bare (48 + k) ≡ true
digit_bare k small = agree_below_at (λ n. is_bare (48 + n)) (λ n. true) 10 k refl small

digit : (k : ℕ) → k < 10 → is_digit (48 + k) ≡ true
digit k small = agree_below_at (λ n. is_digit (48 + n)) (λ n. true) 10 k refl small

-- digits that write a number
pub record Writes (most n : ℕ) (ds : List ℕ) : Type 0 where
  pub value : n ≤ most → fold (with_digit most) 0 ds ≡ n
  pub digits : list_all is_digit ds ≡ true
  pub bare : AreBare ds

one_digit : (most n : ℕ) → n < 10 → Writes most n ((48 + n) ∷ [])
one_digit most n small = record { value = λ within. omega (arith, within); digits = rw (digit n small) refl; bare = rw (digit_bare n small) refl }

more_digits : (most n : ℕ) (ds : List ℕ) → 10 ≤ n → Writes most (n / 10) ds → Writes most n (ds ++ (48 + n % 10) ∷ [])
more_digits most n ds large t =
    let last = 48 + n % 10 in
    record {
      value = λ within. rw (fold_push (with_digit most) 0 ds last, t.value (omega (arith, within))) (omega (arith, within));
      digits = rw (list_all-append is_digit ds (last ∷ []), t.digits, digit (n % 10) (omega arith)) refl;
      bare = rw (list_all-append is_bare ds (last ∷ []), t.bare, digit_bare (n % 10) (omega arith)) refl;
    }

pub decimal_writes : (most n : ℕ) → n < 2 ^ 64 → Writes most n (decimal n)
decimal_writes most n small = decimal_by_steps (Writes most) (one_digit most) (more_digits most) n small

no_zero : (n : ℕ) → n < 2 ^ 64 → is_decimal (decimal n) ≡ true
unfolding is_decimal
no_zero zero small = rw (decimal_digit 0 (omega arith)) refl
no_zero (suc n) small =
    let w = decimal (suc n) in
    let first : 48 < get_or w 0 0 = first_decimal (suc n) (omega arith) small in
    let zero_first : eqb (get_or w 0 0) 48 ≡ false = ne_eqb _ _ (omega (arith, first)) in
    let empty : eqb (length w) 0 ≡ false = ne_eqb _ _ (omega (arith, decimal_nonempty (suc n) small)) in
    and_from _ _ (and_from _ _ (not_from_false _ empty) (not_from_false _ (and_right (ltb 1 (length w)) _ zero_first))) (decimal_writes 0 (suc n) small).digits

digits_not_dash : (w : List ℕ) → list_all is_digit w ≡ true → same_text w (codes "-") ≡ false
digits_not_dash w digits =
    false_from_ne_true _ (λ (e : same_text w (codes "-") ≡ true). let wrong = subst (λ (x : List ℕ). list_all is_digit x ≡ true) (dash_is w e) digits in absurd cc)

pub decimal_word : (n : ℕ) → n < 2 ^ 64 → IsTextWord (decimal n)
decimal_word n small =
    let t = decimal_writes 0 n small in
    bare_word (decimal n) (decimal_nonempty n small) t.bare (digits_not_dash (decimal n) t.digits)

decimal_read : (least most n : ℕ) → least ≤ n → n ≤ most → n < 2 ^ 64 → number_within least most (decimal n) ≡ Some n
unfolding number_within number_up_to
decimal_read least most n low high small =
    rw (no_zero n small, (decimal_writes most n small).value high, le-leb least n low, le-leb n most high) refl

pub numbers-back : (least most n : ℕ) → least ≤ n → n ≤ most → most < 18446744073709551616 → NumberComesBack least most n
numbers-back least most n low high most_small =
    let small : n < 2 ^ 64 = omega arith in
    let word = decimal_word n small in
    record { written = word.written; valid = word.valid; read = decimal_read least most n low high small }
