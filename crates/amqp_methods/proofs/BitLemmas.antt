-- The bits of an octet are those that it was made of.
use Rattle.std.proofs.Common.{◌≡◌, ℕ, zero, suc, ◌+◌, ◌*◌, ◌/◌, ◌%◌, ◌^◌, ◌<◌, ◌≤◌, Bool, true, false, eqb, List, [], ◌∷◌, length, refl, ap, arith}
use Rattle.std.specs.Int.{from_bool}
use Rattle.std.proofs.Math.Nat.{pow-suc, pow-le-pow_right}
use Rattle.std.proofs.lemmas.Bool.{eq-eqb, eqb-true}
use Rattle.std.proofs.lemmas.Nat.Bits.{bit_at-suc}
use Rattle.amqp_methods.specs.Arguments.{has_bit, bits_from, bits_octet}

pub length-bits_from : (k n shared : ℕ) → length (bits_from k n shared) ≡ n
length-bits_from k zero shared = refl
length-bits_from k (suc n) shared = ap suc (length-bits_from (suc k) n shared)

-- a bit further up is that bit of the half
has_bit-suc : (k shared : ℕ) → has_bit (suc k) shared ≡ has_bit k (shared / 2)
unfolding has_bit
has_bit-suc k shared = ap (λ (n : ℕ). eqb n 1) (bit_at-suc shared k)

bits_from-suc : (k n shared : ℕ) → bits_from (suc k) n shared ≡ bits_from k n (shared / 2)
bits_from-suc k zero shared = refl
bits_from-suc k (suc n) shared = rw (has_bit-suc k shared, bits_from-suc (suc k) n shared) refl

never_true : (t : Bool) → (t ≡ true → ⊥) → t ≡ false
never_true true other = absurd (other refl)
never_true false other = refl

eqb-other : (a b : ℕ) → (a ≡ b → ⊥) → eqb a b ≡ false
eqb-other a b other = never_true (eqb a b) (λ e. other (eqb-true a b e))

first_bit : (b : Bool) (n : ℕ) → has_bit 0 (from_bool b + 2 * n) ≡ b
unfolding has_bit
first_bit true n = eq-eqb ((1 + 2 * n) / 2 ^ 0 % 2) 1 (omega arith)
first_bit false n = eqb-other ((0 + 2 * n) / 2 ^ 0 % 2) 1 (λ e. omega (arith, e))

half : (b : Bool) (n : ℕ) → (from_bool b + 2 * n) / 2 ≡ n
half true n = omega arith
half false n = omega arith

pub bits_back : (bs : List Bool) → bits_from 0 (length bs) (bits_octet bs) ≡ bs
bits_back [] = refl
bits_back (b ∷ bs) = rw (first_bit b (bits_octet bs), bits_from-suc 0 (length bs) (from_bool b + 2 * bits_octet bs), half b (bits_octet bs), bits_back bs) refl

bits_octet-below : (bs : List Bool) → bits_octet bs < 2 ^ length bs
bits_octet-below [] = omega arith
bits_octet-below (true ∷ bs) =
    let rest : bits_octet bs < 2 ^ length bs = bits_octet-below bs in
    rw (pow-suc 2 (length bs)) (omega arith)
bits_octet-below (false ∷ bs) =
    let rest : bits_octet bs < 2 ^ length bs = bits_octet-below bs in
    rw (pow-suc 2 (length bs)) (omega arith)

pub bits_octet-fits : (bs : List Bool) → length bs ≤ 8 → bits_octet bs < 256
bits_octet-fits bs le =
    let below : bits_octet bs < 2 ^ length bs = bits_octet-below bs in
    let most : 2 ^ length bs ≤ 2 ^ 8 = pow-le-pow_right {n = 2} (omega arith) {i = length bs} {j = 8} le in
    omega arith
