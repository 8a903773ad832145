-- What is read of octets is what was written, and what was written is read again.
use Rattle.std.proofs.Common.{◌≡◌, ℕ, ℤ, zero, suc, ◌+◌, ◌^◌, ◌<◌, ◌≤◌, Bool, true, false, cond, ltb, List, [], ◌∷◌, ◌++◌, length, get_or, take, drop, Result, Ok, Err, refl, sym, ap, subst, ◌∙◌, append_assoc, arith, inl, inr}
use Rattle.std.specs.Int.{Width, w16, w32, w64, byte_len, from_be_bytes, to_be_bytes, cast_unsigned, cast_signed, from_bool}
use Rattle.std.specs.Int.RustNames.{FitsSigned}
use Rattle.std.specs.Str.{is_utf8}
use Rattle.std.proofs.lemmas.Bool.{cases_lt, ltb-false, le-ltb}
use Rattle.std.proofs.lemmas.Int.{of_z-to_z, to_z-of_z}
use Rattle.std.proofs.lemmas.List.{take_at, drop_at, take-append-drop, length-append, length-take, get_or-drop, get_or-take, get_or_past}
use Rattle.std.proofs.lemmas.Nat.{be_bytes_2, be_bytes_4, be_bytes_8, from_be_bytes-to_be_bytes_2, from_be_bytes-to_be_bytes_4, from_be_bytes-to_be_bytes_8}
use Rattle.std.proofs.lemmas.Str.{IsUtf8-from_is_utf8, is_utf8-from_IsUtf8}
use mir.Val.{bits}
use mir.ValLaws.{of_z_fits}
use borrow.Author.Gap.{read_sfits}
use Rattle.field_tables.specs.declared.fault.TableFault.{TableFault}
use Rattle.field_tables.specs.declared.fault.TableFault.TheVariants.{Short, BadText}
use Rattle.field_tables.specs.Tables.{counted_spelling, name_spelling, IsCounted, IsName}
use Rattle.field_tables.specs.Reading.{◌>>=◌, octets_at, octet_at, number_at, signed, boolean_at, counted_at, text_at, name_at}

abbrev pub IsBytes : List ℕ → Type 0
IsBytes bytes = (i : ℕ) → get_or bytes i 0 < 256

IsBytes-drop : (n : ℕ) (bytes : List ℕ) → IsBytes bytes → IsBytes (drop n bytes)
IsBytes-drop n bytes h i = rw get_or-drop (h (n + i))

pub IsBytes-take : (n : ℕ) (bytes : List ℕ) → IsBytes bytes → IsBytes (take n bytes)
IsBytes-take n bytes h i =
    elim (cases_lt i n) [
      | inl lt ↦ rw (get_or-take n bytes i 0 lt) (h i)
      | inr le ↦ rw (get_or_past (take n bytes) i 0 (omega (arith, length-take n bytes))) (omega arith)
    ]

IsBytes-rest : (b : ℕ) (bytes : List ℕ) → IsBytes (b ∷ bytes) → IsBytes bytes
IsBytes-rest b bytes h i = h (suc i)

-- the value of a step that did not fail
pub bind_ok : {A B : Type 0} (r : Result A TableFault) (f : A → Result B TableFault) (y : B) → (r >>= f) ≡ Ok y → (x : A) × (r ≡ Ok x) × (f x ≡ Ok y)
bind_ok (Ok x) f y e = (x, refl, e)
bind_ok (Err d) f y e = absurd cc

-- a step behind which all fails
pub never_ok : {A B : Type 0} (r : Result A TableFault) (d : TableFault) (y : B) → (r >>= λ _. Err d) ≡ Ok y → ⊥
never_ok (Ok x) d y e = cc
never_ok (Err f) d y e = cc

-- a test that did not fail
guard_ok : {A : Type 0} (b : Bool) (d : TableFault) (x y : A) → cond b (Err d) (Ok x) ≡ Ok y → (b ≡ false) × (x ≡ y)
guard_ok true d x y e = absurd cc
guard_ok false d x y e = (refl, cc)

guard_true : {A : Type 0} (b : Bool) (d : TableFault) (x y : A) → cond b (Ok x) (Err d) ≡ Ok y → (b ≡ true) × (x ≡ y)
guard_true true d x y e = (refl, cc)
guard_true false d x y e = absurd cc

abbrev done : {A : Type 0} → A → Result A TableFault
done x = Ok x

pub ok_is : {A : Type 0} (x y : A) → done x ≡ done y → x ≡ y
ok_is x y e = cc

-- what a reader took from the front
pub record Takes (bytes text rest : List ℕ) : Type 0 where
  pub parts : bytes ≡ text ++ rest
  pub text_fits : IsBytes text
  pub rest_fits : IsBytes rest

IsBytes-append : (a b : List ℕ) → IsBytes a → IsBytes b → IsBytes (a ++ b)
IsBytes-append [] b p q i = q i
IsBytes-append (x ∷ a) b p q zero = p 0
IsBytes-append (x ∷ a) b p q (suc i) = IsBytes-append a b (λ k. p (suc k)) q i

pub Takes-then : (a x b y c : List ℕ) → Takes a x b → Takes b y c → Takes a (x ++ y) c
Takes-then a x b y c p q = record {
  parts = p.parts ∙ ap (λ (t : List ℕ). x ++ t) q.parts ∙ sym (append_assoc x y c);
  text_fits = IsBytes-append x y p.text_fits q.text_fits;
  rest_fits = q.rest_fits;
}

-- A reader reads what has a spelling from its spelling, and nothing else.
pub record Reads {A : Type 0} (fits : A → Type 0) (spelling : A → List ℕ) (read : List ℕ → Result (A × List ℕ) TableFault) : Type 0 where
  pub takes : (bytes : List ℕ) (x : A × List ℕ) → IsBytes bytes → read bytes ≡ Ok x → Takes bytes (spelling x.0) x.1 × fits x.0
  pub again : (x : A) (rest : List ℕ) → fits x → read (spelling x ++ rest) ≡ Ok (x, rest)

-- ---- octets and numbers

pub octets_read : (n : ℕ) → Reads (λ bytes. length bytes ≡ n) (λ bytes. bytes) (octets_at n)
unfolding octets_at
octets_read n = record {
  takes = λ bytes x fits e.
      let g = guard_ok (ltb (length bytes) n) Short (take n bytes, drop n bytes) x e in
      let long : n ≤ length bytes = ltb-false _ _ g.0 in
      subst (λ (p : List ℕ × List ℕ). Takes bytes p.0 p.1 × (length p.0 ≡ n)) g.1
      (record { parts = sym (take-append-drop n bytes); text_fits = IsBytes-take n bytes fits; rest_fits = IsBytes-drop n bytes fits }, omega (arith, length-take n bytes));
  again = λ text rest len.
      let long : ltb (length (text ++ rest)) n ≡ false = le-ltb _ _ (omega (arith, length-append text rest, len)) in
      rw (long, take_at text rest n len, drop_at text rest n len) refl;
}

octet_takes : (bytes : List ℕ) (x : ℕ × List ℕ) → IsBytes bytes → octet_at bytes ≡ Ok x → Takes bytes (x.0 ∷ []) x.1 × (x.0 < 256)
unfolding octet_at
octet_takes [] x fits e = absurd cc
octet_takes (b ∷ bytes) x fits e =
    subst (λ (p : ℕ × List ℕ). Takes (b ∷ bytes) (p.0 ∷ []) p.1 × (p.0 < 256)) (ok_is (b, bytes) x e)
    (record { parts = refl; text_fits = IsBytes-take 1 (b ∷ bytes) fits; rest_fits = IsBytes-rest b bytes fits }, fits 0)

pub octet_reads : Reads (λ n. n < 256) (λ n. n ∷ []) octet_at
unfolding octet_at
octet_reads = record { takes = octet_takes; again = λ n rest lt. refl }

-- the octets of a number, and the number of its octets
pub record IsWide (w : Width) (limit : ℕ) : Type 0 where
  pub len : (n : ℕ) → length (to_be_bytes w n) ≡ byte_len w
  pub back : (bytes : List ℕ) → length bytes ≡ byte_len w → IsBytes bytes → to_be_bytes w (from_be_bytes w bytes) ≡ bytes
  pub again : (n : ℕ) → n < limit → from_be_bytes w (to_be_bytes w n) ≡ n
  pub below : (bytes : List ℕ) → IsBytes bytes → from_be_bytes w bytes < limit

pub wide16 : IsWide w16 (2 ^ 16)
wide16 = record {
  len = λ n. refl;
  back = λ bytes len fits. be_bytes_2 bytes _ len fits refl;
  again = λ n lt. from_be_bytes-to_be_bytes_2 n lt;
  below = λ bytes fits. omega (arith, fits 0, fits 1);
}

pub wide32 : IsWide w32 (2 ^ 32)
wide32 = record {
  len = λ n. refl;
  back = λ bytes len fits. be_bytes_4 bytes _ len fits refl;
  again = λ n lt. from_be_bytes-to_be_bytes_4 n lt;
  below = λ bytes fits. omega (arith, fits 0, fits 1, fits 2, fits 3);
}

pub wide64 : IsWide w64 (2 ^ 64)
wide64 = record {
  len = λ n. refl;
  back = λ bytes len fits. be_bytes_8 bytes _ len fits refl;
  again = λ n lt. from_be_bytes-to_be_bytes_8 n lt;
  below = λ bytes fits. omega (arith, fits 0, fits 1, fits 2, fits 3, fits 4, fits 5, fits 6, fits 7);
}

pub number_reads : (w : Width) (limit : ℕ) → IsWide w limit → Reads (λ n. n < limit) (to_be_bytes w) (number_at w)
unfolding number_at
number_reads w limit wide = record {
  takes = λ bytes x fits e.
      let a = bind_ok (octets_at (byte_len w) bytes) (λ x. Ok (from_be_bytes w x.0, x.1)) x e in
      let t = (octets_read (byte_len w)).takes bytes a.0 fits a.1 in
      let front : a.0.0 ≡ to_be_bytes w (from_be_bytes w a.0.0) = sym (wide.back a.0.0 t.1 t.0.text_fits) in
      let taken : Takes bytes (to_be_bytes w (from_be_bytes w a.0.0)) a.0.1 = subst (λ (text : List ℕ). Takes bytes text a.0.1) front t.0 in
      subst (λ (p : ℕ × List ℕ). Takes bytes (to_be_bytes w p.0) p.1 × (p.0 < limit)) (ok_is (from_be_bytes w a.0.0, a.0.1) x a.2) (taken, wide.below a.0.0 t.0.text_fits);
  again = λ n rest lt. rw ((octets_read (byte_len w)).again (to_be_bytes w n) rest (wide.len n), wide.again n lt) refl;
}

pub signed_reads : (w : Width) (spelling : ℕ → List ℕ) (read : List ℕ → Result (ℕ × List ℕ) TableFault) → Reads (λ n. n < 2 ^ bits w) spelling read
    → Reads (FitsSigned w) (λ z. spelling (cast_unsigned w z)) (λ bytes. signed w (read bytes))
signed_reads w spelling read reads = record {
  takes = λ bytes x fits e.
      let a = bind_ok (read bytes) (λ x. Ok (cast_signed w x.0, x.1)) x e in
      let t = reads.takes bytes a.0 fits a.1 in
      let front : a.0.0 ≡ cast_unsigned w (cast_signed w a.0.0) = sym (of_z-to_z w a.0.0 t.1) in
      let taken : Takes bytes (spelling (cast_unsigned w (cast_signed w a.0.0))) a.0.1 = subst (λ (n : ℕ). Takes bytes (spelling n) a.0.1) front t.0 in
      subst (λ (p : ℤ × List ℕ). Takes bytes (spelling (cast_unsigned w p.0)) p.1 × FitsSigned w p.0) (ok_is (cast_signed w a.0.0, a.0.1) x a.2) (taken, read_sfits w a.0.0);
  again = λ z rest fits. rw (reads.again (cast_unsigned w z) rest ((of_z_fits w z fits).fits), to_z-of_z w z fits) refl;
}

boolean_takes : (bytes : List ℕ) (x : Bool × List ℕ) → IsBytes bytes → boolean_at bytes ≡ Ok x → Takes bytes (from_bool x.0 ∷ []) x.1 × Unit {0}
unfolding boolean_at
boolean_takes [] x fits e = absurd cc
boolean_takes (zero ∷ bytes) x fits e =
    subst (λ (p : Bool × List ℕ). Takes (0 ∷ bytes) (from_bool p.0 ∷ []) p.1 × Unit {0}) (ok_is (false, bytes) x e)
    (record { parts = refl; text_fits = IsBytes-take 1 (0 ∷ bytes) fits; rest_fits = IsBytes-rest 0 bytes fits }, tt)
boolean_takes (suc zero ∷ bytes) x fits e =
    subst (λ (p : Bool × List ℕ). Takes (1 ∷ bytes) (from_bool p.0 ∷ []) p.1 × Unit {0}) (ok_is (true, bytes) x e)
    (record { parts = refl; text_fits = IsBytes-take 1 (1 ∷ bytes) fits; rest_fits = IsBytes-rest 1 bytes fits }, tt)
boolean_takes (suc (suc b) ∷ bytes) x fits e = absurd cc

boolean_again : (b : Bool) (rest : List ℕ) → Unit {0} → boolean_at ((from_bool b ∷ []) ++ rest) ≡ Ok (b, rest)
unfolding boolean_at
boolean_again true rest h = refl
boolean_again false rest h = refl

pub boolean_reads : Reads (λ b. Unit {0}) (λ b. from_bool b ∷ []) boolean_at
boolean_reads = record { takes = boolean_takes; again = boolean_again }

-- ---- octets behind their number

pub counted_reads : Reads IsCounted counted_spelling counted_at
unfolding counted_at
counted_reads = record {
  takes = λ bytes x fits e.
      let a = bind_ok (number_at w32 bytes) (λ n. octets_at n.0 n.1) x e in
      let t = (number_reads w32 (2 ^ 32) wide32).takes bytes a.0 fits a.1 in
      let u = (octets_read a.0.0).takes a.0.1 x t.0.rest_fits a.2 in
      let both = Takes-then bytes (to_be_bytes w32 a.0.0) a.0.1 x.0 x.1 t.0 u.0 in
      (subst (λ (k : ℕ). Takes bytes (to_be_bytes w32 k ++ x.0) x.1) (sym u.1) both, omega (arith, t.1, u.1));
  again = λ text rest fits.
      let regrouped : counted_spelling text ++ rest ≡ to_be_bytes w32 (length text) ++ (text ++ rest) = append_assoc (to_be_bytes w32 (length text)) text rest in
      ap counted_at regrouped ∙ rw ((number_reads w32 (2 ^ 32) wide32).again (length text) (text ++ rest) fits) ((octets_read (length text)).again text rest refl);
}

pub name_reads : Reads IsName name_spelling name_at
unfolding name_at
name_reads = record {
  takes = λ bytes x fits e.
      let a = bind_ok (octet_at bytes) (λ n. octets_at n.0 n.1 >>= λ name. text_at name.0 >>= λ text. Ok (text, name.1)) x e in
      let b = bind_ok (octets_at a.0.0 a.0.1) (λ name. text_at name.0 >>= λ text. Ok (text, name.1)) x a.2 in
      let c = bind_ok (text_at b.0.0) (λ text. Ok (text, b.0.1)) x b.2 in
      let g = guard_true (is_utf8 b.0.0) BadText b.0.0 c.0 c.1 in
      let t = octet_reads.takes bytes a.0 fits a.1 in
      let u = (octets_read a.0.0).takes a.0.1 b.0 t.0.rest_fits b.1 in
      let both = Takes-then bytes (a.0.0 ∷ []) a.0.1 b.0.0 b.0.1 t.0 u.0 in
      let named : Takes bytes (name_spelling b.0.0) b.0.1 = subst (λ (k : ℕ). Takes bytes (k ∷ b.0.0) b.0.1) (sym u.1) both in
      let fit : IsName b.0.0 = record { text = IsUtf8-from_is_utf8 b.0.0 g.0; fits = omega (arith, t.1, u.1) } in
      subst (λ (p : List ℕ × List ℕ). Takes bytes (name_spelling p.0) p.1 × IsName p.0) (ap (λ (n : List ℕ). (n, b.0.1)) g.1 ∙ ok_is (c.0, b.0.1) x c.2) (named, fit);
  again = λ name rest fits.
      let first : octet_at (name_spelling name ++ rest) ≡ Ok (length name, name ++ rest) = octet_reads.again (length name) (name ++ rest) fits.fits in
      rw (first, (octets_read (length name)).again name rest refl, is_utf8-from_IsUtf8 name fits.text) refl;
}

-- octets behind others are octets
pub counted_text : (text front : List ℕ) → IsBytes (front ++ text) → IsBytes text
counted_text text [] h = h
counted_text text (x ∷ front) h = counted_text text front (λ i. h (suc i))
