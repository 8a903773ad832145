-- The tests of values decide whether they are one.
use Rattle.std.proofs.Common.{◌≡◌, ℕ, ℤ, Bool, true, false, true≢false, ◌&&◌, List, refl, sym, ap, subst, ◌∙◌}
use Rattle.std.specs.Cmp.{IsEquivalence, booleans_Decides, signed_Decides}
use Rattle.std.proofs.lemmas.Bool.Decides.{Decides-eqb}
use Rattle.std.proofs.lemmas.Slice.Eq.{bytes_eq-Decides}
use Rattle.field_tables.specs.Fields.{Field, boolean, signed_octet, octet, signed_short, short, signed_long, long, signed_longlong, float, double, decimal, long_string, array, timestamp, table, void, byte_array, Fields, no_fields, field, Pairs, no_pairs, pair}
use Rattle.field_tables.specs.Same.{same_field, same_fields, same_pairs}

pub both : (a b : Bool) → (a && b) ≡ true → (a ≡ true) × (b ≡ true)
both true b h = (refl, h)
both false b h = absurd (true≢false (sym h))

-- ---- one kind and the same octets: that is, one value

mutual
  unfolding same_field

  pub same_yes : (v w : Field) → same_field v w ≡ true → v ≡ w
  same_yes (boolean a) (boolean b) h = ap (λ (x : Bool). boolean x) ((booleans_Decides a b).0 h)
  same_yes (signed_octet a) (signed_octet b) h = ap (λ (x : ℤ). signed_octet x) ((signed_Decides a b).0 h)
  same_yes (octet a) (octet b) h = ap (λ (x : ℕ). octet x) ((Decides-eqb a b).0 h)
  same_yes (signed_short a) (signed_short b) h = ap (λ (x : ℤ). signed_short x) ((signed_Decides a b).0 h)
  same_yes (short a) (short b) h = ap (λ (x : ℕ). short x) ((Decides-eqb a b).0 h)
  same_yes (signed_long a) (signed_long b) h = ap (λ (x : ℤ). signed_long x) ((signed_Decides a b).0 h)
  same_yes (long a) (long b) h = ap (λ (x : ℕ). long x) ((Decides-eqb a b).0 h)
  same_yes (signed_longlong a) (signed_longlong b) h = ap (λ (x : ℤ). signed_longlong x) ((signed_Decides a b).0 h)
  same_yes (float a) (float b) h = ap (λ (x : List ℕ). float x) ((bytes_eq-Decides a b).0 h)
  same_yes (double a) (double b) h = ap (λ (x : List ℕ). double x) ((bytes_eq-Decides a b).0 h)
  same_yes (decimal a) (decimal b) h = ap (λ (x : List ℕ). decimal x) ((bytes_eq-Decides a b).0 h)
  same_yes (long_string a) (long_string b) h = ap (λ (x : List ℕ). long_string x) ((bytes_eq-Decides a b).0 h)
  same_yes (array a) (array b) h = ap (λ (x : Fields). array x) (same_fields_yes a b h)
  same_yes (timestamp a) (timestamp b) h = ap (λ (x : ℕ). timestamp x) ((Decides-eqb a b).0 h)
  same_yes (table a) (table b) h = ap (λ (x : Pairs). table x) (same_pairs_yes a b h)
  same_yes void void h = refl
  same_yes (byte_array a) (byte_array b) h = ap (λ (x : List ℕ). byte_array x) ((bytes_eq-Decides a b).0 h)
  same_yes _ _ h = absurd (true≢false (sym h))

  pub same_fields_yes : (vs ws : Fields) → same_fields vs ws ≡ true → vs ≡ ws
  same_fields_yes no_fields no_fields h = refl
  same_fields_yes (field v vs) (field w ws) h =
      let t = both _ _ h in ap (λ (x : Field). field x vs) (same_yes v w t.0) ∙ ap (λ (xs : Fields). field w xs) (same_fields_yes vs ws t.1)
  same_fields_yes _ _ h = absurd (true≢false (sym h))

  pub same_pairs_yes : (ps qs : Pairs) → same_pairs ps qs ≡ true → ps ≡ qs
  same_pairs_yes no_pairs no_pairs h = refl
  same_pairs_yes (pair name v ps) (pair key w qs) h =
      let t = both _ _ h in let u = both _ _ t.0 in
      ap (λ (x : List ℕ). pair x v ps) ((bytes_eq-Decides name key).0 u.0) ∙ ap (λ (x : Field). pair key x ps) (same_yes v w u.1) ∙ ap (λ (xs : Pairs). pair key w xs) (same_pairs_yes ps qs t.1)
  same_pairs_yes _ _ h = absurd (true≢false (sym h))

mutual
  unfolding same_field

  pub same_self : (v : Field) → same_field v v ≡ true
  same_self (boolean a) = (booleans_Decides a a).1 refl
  same_self (signed_octet a) = (signed_Decides a a).1 refl
  same_self (octet a) = (Decides-eqb a a).1 refl
  same_self (signed_short a) = (signed_Decides a a).1 refl
  same_self (short a) = (Decides-eqb a a).1 refl
  same_self (signed_long a) = (signed_Decides a a).1 refl
  same_self (long a) = (Decides-eqb a a).1 refl
  same_self (signed_longlong a) = (signed_Decides a a).1 refl
  same_self (float a) = (bytes_eq-Decides a a).1 refl
  same_self (double a) = (bytes_eq-Decides a a).1 refl
  same_self (decimal a) = (bytes_eq-Decides a a).1 refl
  same_self (long_string a) = (bytes_eq-Decides a a).1 refl
  same_self (array a) = same_fields_self a
  same_self (timestamp a) = (Decides-eqb a a).1 refl
  same_self (table a) = same_pairs_self a
  same_self void = refl
  same_self (byte_array a) = (bytes_eq-Decides a a).1 refl

  pub same_fields_self : (vs : Fields) → same_fields vs vs ≡ true
  same_fields_self no_fields = refl
  same_fields_self (field v vs) = ap (λ (b : Bool). b && same_fields vs vs) (same_self v) ∙ same_fields_self vs

  pub same_pairs_self : (ps : Pairs) → same_pairs ps ps ≡ true
  same_pairs_self no_pairs = refl
  same_pairs_self (pair name v ps) =
      ap (λ (b : Bool). b && same_field v v && same_pairs ps ps) ((bytes_eq-Decides name name).1 refl) ∙ ap (λ (b : Bool). b && same_pairs ps ps) (same_self v) ∙ same_pairs_self ps

-- ---- the laws of ==

-- tests that imply each other
alike : (a b : Bool) → (a ≡ true → b ≡ true) → (b ≡ true → a ≡ true) → a ≡ b
alike true b f g = sym (f refl)
alike false true f g = g refl
alike false false f g = refl

-- a test that says whether two values are one
pub equivalence : {A : Type 0} (same : A → A → Bool) → ((x y : A) → same x y ≡ true → x ≡ y) → ((x : A) → same x x ≡ true) → IsEquivalence same
equivalence {A} same one self = record {
  refl = self;
  symm = λ x y. alike (same x y) (same y x) (λ h. subst (λ (z : A). same z x ≡ true) (one x y h) (self x)) (λ h. subst (λ (z : A). same z y ≡ true) (one y x h) (self y));
  congr = λ x y z h. ap (λ (w : A). same w z) (one x y h);
}

-- what the test says of two values
pub tells : {A : Type 0} (same : A → A → Bool) → ((x y : A) → same x y ≡ true → x ≡ y) → ((x : A) → same x x ≡ true) → (answer : Bool) (x y : A) → answer ≡ same x y
    → (answer ≡ true → x ≡ y) × (x ≡ y → answer ≡ true)
tells {A} same one self answer x y is = (λ h. one x y (sym is ∙ h), λ e. is ∙ subst (λ (z : A). same x z ≡ true) e (self x))

pub one_field_laws : IsEquivalence same_field
one_field_laws = equivalence same_field same_yes same_self

pub one_table_laws : IsEquivalence same_pairs
one_table_laws = equivalence same_pairs same_pairs_yes same_pairs_self
