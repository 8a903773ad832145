-- UTF-8 as a test, and texts that were made valid.
use Rattle.std.proofs.Common.{◌≡◌, ℕ, zero, suc, ◌+◌, ◌*◌, ◌<◌, ◌≤◌, List, [], ◌∷◌, ◌++◌, length, take, drop, slice_index, nat_lt, eqb, Option, Some, None, Bool, true, false, cond, refl, ap, subst, ◌∙◌, ⊎_elim, eq-eqb, arith}
use lib.Utf8.{encode}
use Rattle.std.specs.Str.{IsUtf8, is_utf8}
use Rattle.std.specs.Str.Lossy.{valid_len_up_to, utf8_valid_len, second_byte_min, second_byte_max, error_len_after_two, error_len_after_one, error_len_of_some, utf8_error_len, utf8_invalid_len, after_first_chunk, replacement_bytes, utf8_lossy_within, utf8_lossy}
use Rattle.std.proofs.lemmas.Bool.{cases_eq, ne_eqb}
use Rattle.std.specs.Option.{unwrap_or}
use Rattle.std.specs.Int.{is_in_range}
use Rattle.std.proofs.lemmas.List.{take_all, length-append, length-take, length-drop}
use Rattle.std.proofs.lemmas.Str.{IsUtf8-from_is_utf8, is_utf8-from_IsUtf8, IsUtf8-nil, IsUtf8-append, IsUtf8-encode, utf8_valid_len_le}

pub is_utf8_no : (bs : List ℕ) → ¬ (IsUtf8 bs) → is_utf8 bs ≡ false
is_utf8_no bs fails =
    let go : (v : Bool) → is_utf8 bs ≡ v → v ≡ false =
    λ v. elim v as (λ w. is_utf8 bs ≡ w → w ≡ false)
    [ true ↦ λ e. absurd (fails (IsUtf8-from_is_utf8 bs e)) | false ↦ λ e. refl ] in
    go (is_utf8 bs) refl

pub is_utf8_yes : (bs : List ℕ) → IsUtf8 bs → is_utf8 bs ≡ true
is_utf8_yes bs holds = is_utf8-from_IsUtf8 bs holds

front_cases : (bs : List ℕ) (m : ℕ) (b : Bool) → is_utf8 (take (suc m) bs) ≡ b → IsUtf8 (take (valid_len_up_to bs m) bs) → IsUtf8 (take (cond b (suc m) (valid_len_up_to bs m)) bs)
front_cases bs m true e front = IsUtf8-from_is_utf8 _ e
front_cases bs m false e front = front

valid_front : (bs : List ℕ) (m : ℕ) → IsUtf8 (take (valid_len_up_to bs m) bs)
valid_front bs zero = IsUtf8-nil
valid_front bs (suc m) = front_cases bs m (is_utf8 (take (suc m) bs)) refl (valid_front bs m)

front-IsUtf8 : (bs : List ℕ) → IsUtf8 (take (utf8_valid_len bs) bs)
unfolding utf8_valid_len
front-IsUtf8 bs = valid_front bs (length bs)

either : {A : Type 0} (P : A → Type 0) (b : Bool) (x y : A) → P x → P y → P (cond b x y)
either P true x y p q = p
either P false x y p q = q

-- what is not UTF-8 has an octet
invalid_pos : (bs : List ℕ) → 0 < length bs → 0 < utf8_invalid_len bs
unfolding utf8_error_len
invalid_pos bs some =
    let P : Option ℕ → Type 0 = λ o. 0 < unwrap_or o (length bs) in
    let one : P (Some 1) = omega arith in
    let two : P (Some 2) = omega arith in
    let three : P (Some 3) = omega arith in
    let after_three = either P (nat_lt (length bs) 4) None (Some 3) some three in
    let after_two : P (error_len_after_two bs) = either P (nat_lt (length bs) 3) None _ some (either P (is_in_range 0x80 0xBF (slice_index bs 2)) _ (Some 2) after_three two) in
    let after_one : P (error_len_after_one bs) =
    either P (nat_lt (length bs) 2) None _ some (either P (is_in_range (second_byte_min (slice_index bs 0)) (second_byte_max (slice_index bs 0)) (slice_index bs 1)) _ (Some 1) after_two one) in
    either P (eqb (length bs) 0) None (error_len_of_some bs) some (either P (is_in_range 0xC2 0xF4 (slice_index bs 0)) _ (Some 1) after_one one)

after-shorter : (bs : List ℕ) → ¬ (utf8_valid_len bs ≡ length bs) → utf8_valid_len bs + length (after_first_chunk bs) < length bs
after-shorter bs faulty =
    let n = utf8_valid_len bs in
    let within = utf8_valid_len_le bs in
    let invalid = invalid_pos (drop n bs) (omega (arith, length-drop n bs)) in
    omega (arith, length-drop (n + utf8_invalid_len (drop n bs)) bs)

no_octets : (bs : List ℕ) → length bs ≤ 0 → IsUtf8 bs
no_octets [] none = IsUtf8-nil
no_octets (b ∷ bs) none = absurd (omega arith)

replacement-IsUtf8 : IsUtf8 replacement_bytes
unfolding encode
replacement-IsUtf8 = IsUtf8-encode 65533 refl

within-IsUtf8 : (k : ℕ) (bs : List ℕ) → length bs ≤ k → IsUtf8 (utf8_lossy_within k bs)
within-IsUtf8 zero bs short = no_octets bs short
within-IsUtf8 (suc k) bs short = ⊎_elim
    (λ (whole : utf8_valid_len bs ≡ length bs). rw (eq-eqb _ _ whole) (subst IsUtf8 (ap (λ n. take n bs) whole ∙ take_all (length bs) bs (omega arith)) (front-IsUtf8 bs)))
    (λ (faulty : utf8_valid_len bs ≡ length bs → ⊥).
    let less = after-shorter bs faulty in
    rw (ne_eqb _ _ faulty) (IsUtf8-append _ _ (front-IsUtf8 bs) (IsUtf8-append _ _ replacement-IsUtf8 (within-IsUtf8 k (after_first_chunk bs) (omega arith)))))
    (cases_eq (utf8_valid_len bs) (length bs))

-- a text that was made valid is valid
pub utf8_lossy-is_text : (bs : List ℕ) → IsUtf8 (utf8_lossy bs)
unfolding utf8_lossy
utf8_lossy-is_text bs = within-IsUtf8 (length bs) bs (omega arith)

-- ---- U+FFFD has three octets, and stands for one at least

within-length : (k : ℕ) (bs : List ℕ) → length bs ≤ k → length (utf8_lossy_within k bs) ≤ 3 * length bs
within-length zero bs short = omega arith
within-length (suc k) bs short = ⊎_elim
    (λ (whole : utf8_valid_len bs ≡ length bs). rw (eq-eqb _ _ whole) (omega arith))
    (λ (faulty : utf8_valid_len bs ≡ length bs → ⊥).
    let n = utf8_valid_len bs in
    let less = after-shorter bs faulty in
    let rest = utf8_lossy_within k (after_first_chunk bs) in
    rw (ne_eqb _ _ faulty) (omega (arith, less, within-length k (after_first_chunk bs) (omega arith), length-take n bs, length-append (take n bs) (replacement_bytes ++ rest))))
    (cases_eq (utf8_valid_len bs) (length bs))

pub length_lossy : (bs : List ℕ) → length (utf8_lossy bs) ≤ 3 * length bs
unfolding utf8_lossy
length_lossy bs = within-length (length bs) bs (omega arith)
