-- A code for field tables: a tree of numbers for each, by which a proof tells two of them apart.
use Rattle.std.specs.Prelude.{◌≡◌, ℕ, Bool, true, false, ◌==◌, List}
use Rattle.std.proofs.Common.{refl, sym, ap, true≢false}
use base.Stored.{Gv, gnil, gnum, gcons, Coded, coded_ℕ, coded_ℤ, coded_bool, coded_list}
use Rattle.field_tables.specs.Fields.{Field, boolean, signed_octet, octet, signed_short, short, signed_long, long, signed_longlong, float, double, decimal, long_string, array, timestamp, table, void, byte_array, Fields, no_fields, field, Pairs, no_pairs, pair}

abbrev pub coded_octets : Coded (List ℕ)
coded_octets = coded_list coded_ℕ

abbrev mutual
  -- the number of a value's field type, and its content
  pub field_code : Field → Gv
  field_code (boolean x) = gcons (gnum 0) (coded_bool.code x)
  field_code (signed_octet x) = gcons (gnum 1) (coded_ℤ.code x)
  field_code (octet x) = gcons (gnum 2) (coded_ℕ.code x)
  field_code (signed_short x) = gcons (gnum 3) (coded_ℤ.code x)
  field_code (short x) = gcons (gnum 4) (coded_ℕ.code x)
  field_code (signed_long x) = gcons (gnum 5) (coded_ℤ.code x)
  field_code (long x) = gcons (gnum 6) (coded_ℕ.code x)
  field_code (signed_longlong x) = gcons (gnum 7) (coded_ℤ.code x)
  field_code (float x) = gcons (gnum 8) (coded_octets.code x)
  field_code (double x) = gcons (gnum 9) (coded_octets.code x)
  field_code (decimal x) = gcons (gnum 10) (coded_octets.code x)
  field_code (long_string x) = gcons (gnum 11) (coded_octets.code x)
  field_code (array x) = gcons (gnum 12) (fields_code x)
  field_code (timestamp x) = gcons (gnum 13) (coded_ℕ.code x)
  field_code (table x) = gcons (gnum 14) (pairs_code x)
  field_code void = gcons (gnum 15) gnil
  field_code (byte_array x) = gcons (gnum 16) (coded_octets.code x)

  pub fields_code : Fields → Gv
  fields_code no_fields = gnil
  fields_code (field v vs) = gcons (field_code v) (fields_code vs)

  pub pairs_code : Pairs → Gv
  pairs_code no_pairs = gnil
  pairs_code (pair name v ps) = gcons (coded_octets.code name) (gcons (field_code v) (pairs_code ps))

abbrev number : Gv → ℕ
number (gnum n) = n
number _ = 0

abbrev front : Gv → Gv
front (gcons a b) = a
front _ = gnil

abbrev back : Gv → Gv
back (gcons a b) = b
back _ = gnil

abbrev is_type : ℕ → Gv → Bool
is_type n g = number (front g) == n

abbrev is_end : Gv → Bool
is_end gnil = true
is_end _ = false

mutual
  -- values of one code are one value
  pub one_field : (v w : Field) → field_code v ≡ field_code w → v ≡ w
  one_field (boolean x) (boolean y) e = ap boolean (coded_bool.inj x y (ap back e))
  one_field (boolean x) w e = absurd (true≢false (ap (is_type 0) e))
  one_field (signed_octet x) (signed_octet y) e = ap signed_octet (coded_ℤ.inj x y (ap back e))
  one_field (signed_octet x) w e = absurd (true≢false (ap (is_type 1) e))
  one_field (octet x) (octet y) e = ap octet (coded_ℕ.inj x y (ap back e))
  one_field (octet x) w e = absurd (true≢false (ap (is_type 2) e))
  one_field (signed_short x) (signed_short y) e = ap signed_short (coded_ℤ.inj x y (ap back e))
  one_field (signed_short x) w e = absurd (true≢false (ap (is_type 3) e))
  one_field (short x) (short y) e = ap short (coded_ℕ.inj x y (ap back e))
  one_field (short x) w e = absurd (true≢false (ap (is_type 4) e))
  one_field (signed_long x) (signed_long y) e = ap signed_long (coded_ℤ.inj x y (ap back e))
  one_field (signed_long x) w e = absurd (true≢false (ap (is_type 5) e))
  one_field (long x) (long y) e = ap long (coded_ℕ.inj x y (ap back e))
  one_field (long x) w e = absurd (true≢false (ap (is_type 6) e))
  one_field (signed_longlong x) (signed_longlong y) e = ap signed_longlong (coded_ℤ.inj x y (ap back e))
  one_field (signed_longlong x) w e = absurd (true≢false (ap (is_type 7) e))
  one_field (float x) (float y) e = ap float (coded_octets.inj x y (ap back e))
  one_field (float x) w e = absurd (true≢false (ap (is_type 8) e))
  one_field (double x) (double y) e = ap double (coded_octets.inj x y (ap back e))
  one_field (double x) w e = absurd (true≢false (ap (is_type 9) e))
  one_field (decimal x) (decimal y) e = ap decimal (coded_octets.inj x y (ap back e))
  one_field (decimal x) w e = absurd (true≢false (ap (is_type 10) e))
  one_field (long_string x) (long_string y) e = ap long_string (coded_octets.inj x y (ap back e))
  one_field (long_string x) w e = absurd (true≢false (ap (is_type 11) e))
  one_field (array x) (array y) e = ap array (one_fields x y (ap back e))
  one_field (array x) w e = absurd (true≢false (ap (is_type 12) e))
  one_field (timestamp x) (timestamp y) e = ap timestamp (coded_ℕ.inj x y (ap back e))
  one_field (timestamp x) w e = absurd (true≢false (ap (is_type 13) e))
  one_field (table x) (table y) e = ap table (one_table x y (ap back e))
  one_field (table x) w e = absurd (true≢false (ap (is_type 14) e))
  one_field void void e = refl
  one_field void w e = absurd (true≢false (ap (is_type 15) e))
  one_field (byte_array x) (byte_array y) e = ap byte_array (coded_octets.inj x y (ap back e))
  one_field (byte_array x) w e = absurd (true≢false (ap (is_type 16) e))

  pub one_fields : (vs ws : Fields) → fields_code vs ≡ fields_code ws → vs ≡ ws
  one_fields no_fields no_fields e = refl
  one_fields no_fields (field w ws) e = absurd (true≢false (ap is_end e))
  one_fields (field v vs) no_fields e = absurd (true≢false (ap is_end (sym e)))
  one_fields (field v vs) (field w ws) e = λ i. field (one_field v w (ap front e) i) (one_fields vs ws (ap back e) i)

  pub one_table : (ps qs : Pairs) → pairs_code ps ≡ pairs_code qs → ps ≡ qs
  one_table no_pairs no_pairs e = refl
  one_table no_pairs (pair key w qs) e = absurd (true≢false (ap is_end e))
  one_table (pair name v ps) no_pairs e = absurd (true≢false (ap is_end (sym e)))
  one_table (pair name v ps) (pair key w qs) e =
      λ i. pair (coded_octets.inj name key (ap front e) i) (one_field v w (ap (λ g. front (back g)) e) i) (one_table ps qs (ap (λ g. back (back g)) e) i)

abbrev pub coded_pairs : Coded Pairs
coded_pairs = record { code = pairs_code; inj = one_table }
