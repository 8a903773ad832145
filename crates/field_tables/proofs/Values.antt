-- A value that is read is the value that was written, and what was written is read again.
use Rattle.std.proofs.Common.{◌≡◌, ℕ, zero, suc, ◌+◌, ◌^◌, ◌<◌, ◌≤◌, Bool, true, false, cond, eqb, List, [], ◌∷◌, ◌++◌, length, take, Result, Ok, Err, refl, sym, ap, subst, ◌∙◌, ◌⊎◌, inl, inr, arith}
use Rattle.std.specs.Prelude.{IfOk}
use Rattle.std.specs.Int.{w8, w16, w32, w64, to_be_bytes, cast_unsigned}
use Rattle.std.specs.Int.RustNames.{FitsSigned}
use Rattle.std.proofs.lemmas.Bool.{eqb-true}
use Rattle.std.proofs.lemmas.List.{length-append, take_at}
use Rattle.field_tables.specs.declared.fault.TableFault.{TableFault}
use Rattle.field_tables.specs.declared.fault.TableFault.TheVariants as faults
use Rattle.field_tables.specs.declared.kind.Kind.{Kind}
use Rattle.field_tables.specs.declared.kind.Kind.TheVariants as kinds
use Rattle.field_tables.specs.declared.kind.Counted as counted_kind
use Rattle.field_tables.specs.declared.kind.Counted.TheVariants as counted
use Rattle.field_tables.specs.declared.kind.Fixed as fixed_kind
use Rattle.field_tables.specs.declared.kind.Fixed.TheVariants as fixed
use Rattle.field_tables.specs.Fields.{Field, boolean, signed_octet, octet, signed_short, short, signed_long, long, signed_longlong, float, double, decimal, long_string, array, timestamp, table, void, byte_array, Fields, no_fields, field, Pairs, no_pairs, pair}
use Rattle.field_tables.specs.View.{fields_of, pairs_of, table_view}
use Rattle.field_tables.specs.declared.value.Table.{Table}
use Rattle.field_tables.specs.Tables.{max_depth, kind_octet, kind_of, content_spelling, value_spelling, fields_spelling, pairs_spelling, table_spelling, name_spelling, counted_spelling, depth, fields_depth, pairs_depth, IsCounted, HasSpelling, HaveSpelling, ArePairs, IsTable}
use Rattle.field_tables.specs.Reading.{◌>>=◌, Gives, as_field, octet_at, number_at, signed, counted_at, name_at, named_kind, all_kinds, kind_at, fields_at, pairs_at, fixed_at, inside_at, content_at, value_at, table_at}
use Rattle.field_tables.proofs.Octets.{IsBytes, bind_ok, never_ok, ok_is, Takes, Takes-then, Reads, octets_read, octet_reads, wide16, wide32, wide64, number_reads, signed_reads, boolean_reads, counted_reads, counted_text, name_reads}

-- ---- numbers

short_reads : Reads (λ n. n < 2 ^ 16) (to_be_bytes w16) (number_at w16)
short_reads = number_reads w16 (2 ^ 16) wide16

long_reads : Reads (λ n. n < 2 ^ 32) (to_be_bytes w32) (number_at w32)
long_reads = number_reads w32 (2 ^ 32) wide32

longlong_reads : Reads (λ n. n < 2 ^ 64) (to_be_bytes w64) (number_at w64)
longlong_reads = number_reads w64 (2 ^ 64) wide64

signed_octet_reads : Reads (FitsSigned w8) (λ z. cast_unsigned w8 z ∷ []) (λ bytes. signed w8 (octet_at bytes))
signed_octet_reads = signed_reads w8 (λ n. n ∷ []) octet_at octet_reads

signed_short_reads : Reads (FitsSigned w16) (λ z. to_be_bytes w16 (cast_unsigned w16 z)) (λ bytes. signed w16 (number_at w16 bytes))
signed_short_reads = signed_reads w16 (to_be_bytes w16) (number_at w16) short_reads

signed_long_reads : Reads (FitsSigned w32) (λ z. to_be_bytes w32 (cast_unsigned w32 z)) (λ bytes. signed w32 (number_at w32 bytes))
signed_long_reads = signed_reads w32 (to_be_bytes w32) (number_at w32) long_reads

signed_longlong_reads : Reads (FitsSigned w64) (λ z. to_be_bytes w64 (cast_unsigned w64 z)) (λ bytes. signed w64 (number_at w64 bytes))
signed_longlong_reads = signed_reads w64 (to_be_bytes w64) (number_at w64) longlong_reads

-- ---- kinds

chosen : (t : Bool) (first k : Kind) (other : Result Kind TableFault) → cond t (Ok first) other ≡ Ok k → ((t ≡ true) × (first ≡ k)) ⊎ (other ≡ Ok k)
chosen true first k other e = inl (refl, ok_is first k e)
chosen false first k other e = inr e

named_takes : (ks : List Kind) (b : ℕ) (k : Kind) → named_kind ks b ≡ Ok k → b ≡ kind_octet k
named_takes [] b k e = absurd cc
named_takes (first ∷ ks) b k e = elim (chosen (eqb b (kind_octet first)) first k (named_kind ks b) e) [
  | inl h ↦ eqb-true _ _ h.0 ∙ ap kind_octet h.1
  | inr h ↦ named_takes ks b k h
]

kind_takes : (b : ℕ) (k : Kind) → kind_at b ≡ Ok k → b ≡ kind_octet k
unfolding kind_at
kind_takes b k e = named_takes all_kinds b k e

kind_again : (k : Kind) → kind_at (kind_octet k) ≡ Ok k
unfolding kind_at
kind_again (kinds.Fixed fixed.Boolean) = refl
kind_again (kinds.Fixed fixed.SignedOctet) = refl
kind_again (kinds.Fixed fixed.Octet) = refl
kind_again (kinds.Fixed fixed.SignedShort) = refl
kind_again (kinds.Fixed fixed.Short) = refl
kind_again (kinds.Fixed fixed.SignedLong) = refl
kind_again (kinds.Fixed fixed.Long) = refl
kind_again (kinds.Fixed fixed.SignedLongLong) = refl
kind_again (kinds.Fixed fixed.Float) = refl
kind_again (kinds.Fixed fixed.Double) = refl
kind_again (kinds.Fixed fixed.Decimal) = refl
kind_again (kinds.Fixed fixed.Timestamp) = refl
kind_again (kinds.Fixed fixed.Void) = refl
kind_again (kinds.Counted counted.LongString) = refl
kind_again (kinds.Counted counted.Array) = refl
kind_again (kinds.Counted counted.Table) = refl
kind_again (kinds.Counted counted.ByteArray) = refl

-- ---- values of a fixed size

-- what was read of a value behind its field type
pub record IsContent (kind : Kind) (levels : ℕ) (bytes : List ℕ) (x : Field × List ℕ) : Type 0 where
  pub takes : Takes bytes (content_spelling x.0) x.1
  pub kind_is : kind_of x.0 ≡ kind
  pub fits : HasSpelling x.0
  pub nests : depth x.0 ≤ levels

field_from : {A : Type 0} (f : A → Field) (fits : A → Type 0) (spelling : A → List ℕ) (read : List ℕ → Result (A × List ℕ) TableFault) → Reads fits spelling read
    → (bytes : List ℕ) (x : Field × List ℕ) → IsBytes bytes → as_field f (read bytes) ≡ Ok x → (a : A) × (f a ≡ x.0) × Takes bytes (spelling a) x.1 × fits a
field_from {A} f fits spelling read reads bytes x are e =
    let a = bind_ok (read bytes) (λ (y : A × List ℕ). Ok (f y.0, y.1)) x e in
    let t = reads.takes bytes a.0 are a.1 in
    let same : (f a.0.0, a.0.1) ≡ x = ok_is (f a.0.0, a.0.1) x a.2 in
    (a.0.0, ap (λ (p : Field × List ℕ). p.0) same, subst (λ (rest : List ℕ). Takes bytes (spelling a.0.0) rest) (ap (λ (p : Field × List ℕ). p.1) same) t.0, t.1)

fixed_takes : (kind : fixed_kind.Fixed) (bytes : List ℕ) (x : Field × List ℕ) → IsBytes bytes → fixed_at kind bytes ≡ Ok x → IsContent (kinds.Fixed kind) 1 bytes x
unfolding fixed_at
fixed_takes fixed.Boolean bytes x are e =
    let t = field_from boolean _ _ _ (boolean_reads) bytes x are e in
    subst (λ (v : Field). IsContent (kinds.Fixed fixed.Boolean) 1 bytes (v, x.1)) t.1 (record { takes = t.2; kind_is = refl; fits = t.3; nests = omega arith })
fixed_takes fixed.SignedOctet bytes x are e =
    let t = field_from signed_octet _ _ _ (signed_octet_reads) bytes x are e in
    subst (λ (v : Field). IsContent (kinds.Fixed fixed.SignedOctet) 1 bytes (v, x.1)) t.1 (record { takes = t.2; kind_is = refl; fits = t.3; nests = omega arith })
fixed_takes fixed.Octet bytes x are e =
    let t = field_from octet _ _ _ (octet_reads) bytes x are e in
    subst (λ (v : Field). IsContent (kinds.Fixed fixed.Octet) 1 bytes (v, x.1)) t.1 (record { takes = t.2; kind_is = refl; fits = t.3; nests = omega arith })
fixed_takes fixed.SignedShort bytes x are e =
    let t = field_from signed_short _ _ _ (signed_short_reads) bytes x are e in
    subst (λ (v : Field). IsContent (kinds.Fixed fixed.SignedShort) 1 bytes (v, x.1)) t.1 (record { takes = t.2; kind_is = refl; fits = t.3; nests = omega arith })
fixed_takes fixed.Short bytes x are e =
    let t = field_from short _ _ _ (short_reads) bytes x are e in
    subst (λ (v : Field). IsContent (kinds.Fixed fixed.Short) 1 bytes (v, x.1)) t.1 (record { takes = t.2; kind_is = refl; fits = t.3; nests = omega arith })
fixed_takes fixed.SignedLong bytes x are e =
    let t = field_from signed_long _ _ _ (signed_long_reads) bytes x are e in
    subst (λ (v : Field). IsContent (kinds.Fixed fixed.SignedLong) 1 bytes (v, x.1)) t.1 (record { takes = t.2; kind_is = refl; fits = t.3; nests = omega arith })
fixed_takes fixed.Long bytes x are e =
    let t = field_from long _ _ _ (long_reads) bytes x are e in
    subst (λ (v : Field). IsContent (kinds.Fixed fixed.Long) 1 bytes (v, x.1)) t.1 (record { takes = t.2; kind_is = refl; fits = t.3; nests = omega arith })
fixed_takes fixed.SignedLongLong bytes x are e =
    let t = field_from signed_longlong _ _ _ (signed_longlong_reads) bytes x are e in
    subst (λ (v : Field). IsContent (kinds.Fixed fixed.SignedLongLong) 1 bytes (v, x.1)) t.1 (record { takes = t.2; kind_is = refl; fits = t.3; nests = omega arith })
fixed_takes fixed.Float bytes x are e =
    let t = field_from float _ _ _ (octets_read 4) bytes x are e in
    subst (λ (v : Field). IsContent (kinds.Fixed fixed.Float) 1 bytes (v, x.1)) t.1 (record { takes = t.2; kind_is = refl; fits = t.3; nests = omega arith })
fixed_takes fixed.Double bytes x are e =
    let t = field_from double _ _ _ (octets_read 8) bytes x are e in
    subst (λ (v : Field). IsContent (kinds.Fixed fixed.Double) 1 bytes (v, x.1)) t.1 (record { takes = t.2; kind_is = refl; fits = t.3; nests = omega arith })
fixed_takes fixed.Decimal bytes x are e =
    let t = field_from decimal _ _ _ (octets_read 5) bytes x are e in
    subst (λ (v : Field). IsContent (kinds.Fixed fixed.Decimal) 1 bytes (v, x.1)) t.1 (record { takes = t.2; kind_is = refl; fits = t.3; nests = omega arith })
fixed_takes fixed.Timestamp bytes x are e =
    let t = field_from timestamp _ _ _ (longlong_reads) bytes x are e in
    subst (λ (v : Field). IsContent (kinds.Fixed fixed.Timestamp) 1 bytes (v, x.1)) t.1 (record { takes = t.2; kind_is = refl; fits = t.3; nests = omega arith })
fixed_takes fixed.Void bytes x are e =
    subst (IsContent (kinds.Fixed fixed.Void) 1 bytes) (ok_is (void, bytes) x e) (record { takes = record { parts = refl; text_fits = λ i. omega arith; rest_fits = are }; kind_is = refl; fits = tt; nests = omega arith })

-- ---- arrays and tables

-- what was read of a value
pub record IsValue (levels : ℕ) (bytes : List ℕ) (x : Field × List ℕ) : Type 0 where
  pub takes : Takes bytes (value_spelling x.0) x.1
  pub fits : HasSpelling x.0
  pub nests : depth x.0 ≤ levels

-- what a reader of values takes, to so many levels
abbrev pub TakesValues : (List ℕ → Result (Field × List ℕ) TableFault) → ℕ → Type 0
TakesValues value levels = (bytes : List ℕ) (x : Field × List ℕ) → IsBytes bytes → value bytes ≡ Ok x → IsValue levels bytes x

-- the values of an array that was read whole
record AreFields (levels : ℕ) (bytes : List ℕ) (vs : Fields) : Type 0 where
  spelled : bytes ≡ fields_spelling vs
  fit : HaveSpelling vs
  nest : fields_depth vs ≤ levels

fields_take : (value : List ℕ → Result (Field × List ℕ) TableFault) (levels : ℕ) → TakesValues value levels → (n : ℕ) (bytes : List ℕ) (vs : List Field) → length bytes ≤ n → IsBytes bytes
    → fields_at value n bytes ≡ Ok vs → AreFields levels bytes (fields_of vs)
unfolding fields_at
fields_take value levels take n [] vs le are e = subst (λ (ys : List Field). AreFields levels [] (fields_of ys)) (ok_is [] vs e) (record { spelled = refl; fit = tt; nest = omega arith })
fields_take value levels take zero (b ∷ bytes) vs le are e = absurd (omega arith)
fields_take value levels take (suc n) (b ∷ bytes) vs le are e =
    let first = bind_ok (value (b ∷ bytes)) (λ (v : Field × List ℕ). fields_at value n v.1 >>= λ ys. Ok (v.0 ∷ ys)) vs e in
    let others = bind_ok (fields_at value n first.0.1) (λ (ys : List Field). Ok (first.0.0 ∷ ys)) vs first.2 in
    let t = take (b ∷ bytes) first.0 are first.1 in
    let shorter : length first.0.1 ≤ n = omega (arith, le, ap length t.takes.parts, length-append (value_spelling first.0.0) first.0.1) in
    let u = fields_take value levels take n first.0.1 others.0 shorter t.takes.rest_fits others.1 in
    subst (λ (ys : List Field). AreFields levels (b ∷ bytes) (fields_of ys)) (ok_is (first.0.0 ∷ others.0) vs others.2) (record {
      spelled = t.takes.parts ∙ ap (λ (rest : List ℕ). value_spelling first.0.0 ++ rest) u.spelled;
      fit = (t.fits, u.fit);
      nest = omega (arith, t.nests, u.nest);
    })

-- the names and values of a table that was read whole
pub record IsRead (levels : ℕ) (bytes : List ℕ) (ps : Pairs) : Type 0 where
  pub spelled : bytes ≡ pairs_spelling ps
  pub fit : ArePairs ps
  pub nest : pairs_depth ps ≤ levels

pub pairs_take : (value : List ℕ → Result (Field × List ℕ) TableFault) (levels : ℕ) → TakesValues value levels → (n : ℕ) (bytes : List ℕ) (ps : List (List ℕ × Field)) → length bytes ≤ n → IsBytes bytes
    → pairs_at value n bytes ≡ Ok ps → IsRead levels bytes (pairs_of ps)
unfolding pairs_at
pairs_take value levels take n [] ps le are e = subst (λ (ys : List (List ℕ × Field)). IsRead levels [] (pairs_of ys)) (ok_is [] ps e) (record { spelled = refl; fit = tt; nest = omega arith })
pairs_take value levels take zero (b ∷ bytes) ps le are e = absurd (omega arith)
pairs_take value levels take (suc n) (b ∷ bytes) ps le are e =
    let name = bind_ok (name_at (b ∷ bytes)) (λ (name : List ℕ × List ℕ). value name.1 >>= λ v. pairs_at value n v.1 >>= λ ys. Ok ((name.0, v.0) ∷ ys)) ps e in
    let first = bind_ok (value name.0.1) (λ (v : Field × List ℕ). pairs_at value n v.1 >>= λ ys. Ok ((name.0.0, v.0) ∷ ys)) ps name.2 in
    let others = bind_ok (pairs_at value n first.0.1) (λ (ys : List (List ℕ × Field)). Ok ((name.0.0, first.0.0) ∷ ys)) ps first.2 in
    let s = name_reads.takes (b ∷ bytes) name.0 are name.1 in
    let t = take name.0.1 first.0 s.0.rest_fits first.1 in
    let both = Takes-then (b ∷ bytes) (name_spelling name.0.0) name.0.1 (value_spelling first.0.0) first.0.1 s.0 t.takes in
    let shorter : length first.0.1 ≤ n = omega (arith, le, ap length both.parts, length-append (name_spelling name.0.0 ++ value_spelling first.0.0) first.0.1, length-append (name_spelling name.0.0) (value_spelling first.0.0)) in
    let u = pairs_take value levels take n first.0.1 others.0 shorter t.takes.rest_fits others.1 in
    subst (λ (ys : List (List ℕ × Field)). IsRead levels (b ∷ bytes) (pairs_of ys)) (ok_is ((name.0.0, first.0.0) ∷ others.0) ps others.2) (record {
      spelled = s.0.parts ∙ ap (λ (rest : List ℕ). name_spelling name.0.0 ++ rest) (t.takes.parts ∙ ap (λ (rest : List ℕ). value_spelling first.0.0 ++ rest) u.spelled);
      fit = (s.1, t.fits, u.fit);
      nest = omega (arith, t.nests, u.nest);
    })

-- what was read inside octets that were counted
record IsInside (kind : counted_kind.Counted) (levels : ℕ) (bytes : List ℕ) (v : Field) : Type 0 where
  spelled : IsCounted bytes → content_spelling v ≡ counted_spelling bytes
  kind_is : kind_of v ≡ kinds.Counted kind
  fits : IsCounted bytes → HasSpelling v
  nests : depth v ≤ suc levels

inside_takes : (value : List ℕ → Result (Field × List ℕ) TableFault) (levels : ℕ) → TakesValues value levels → (kind : counted_kind.Counted) (bytes : List ℕ) (v : Field) → IsBytes bytes
    → inside_at value kind bytes ≡ Ok v → IsInside kind levels bytes v
unfolding inside_at
inside_takes value levels take counted.LongString bytes v are e = subst (IsInside counted.LongString levels bytes) (ok_is (long_string bytes) v e) (record { spelled = λ h. refl; kind_is = refl; fits = λ h. h; nests = omega arith })
inside_takes value levels take counted.ByteArray bytes v are e = subst (IsInside counted.ByteArray levels bytes) (ok_is (byte_array bytes) v e) (record { spelled = λ h. refl; kind_is = refl; fits = λ h. h; nests = omega arith })
inside_takes value levels take counted.Array bytes v are e =
    let a = bind_ok (fields_at value (length bytes) bytes) (λ (vs : List Field). Ok (array (fields_of vs))) v e in
    let t = fields_take value levels take (length bytes) bytes a.0 (omega arith) are a.1 in
    subst (IsInside counted.Array levels bytes) (ok_is (array (fields_of a.0)) v a.2) (record {
      spelled = λ h. ap counted_spelling (sym t.spelled);
      kind_is = refl;
      fits = λ h. (subst IsCounted t.spelled h, t.fit);
      nests = omega (arith, t.nest);
    })
inside_takes value levels take counted.Table bytes v are e =
    let a = bind_ok (pairs_at value (length bytes) bytes) (λ (ps : List (List ℕ × Field)). Ok (table (pairs_of ps))) v e in
    let t = pairs_take value levels take (length bytes) bytes a.0 (omega arith) are a.1 in
    subst (IsInside counted.Table levels bytes) (ok_is (table (pairs_of a.0)) v a.2) (record {
      spelled = λ h. ap counted_spelling (sym t.spelled);
      kind_is = refl;
      fits = λ h. (subst IsCounted t.spelled h, t.fit);
      nests = omega (arith, t.nest);
    })

content_takes : (value : List ℕ → Result (Field × List ℕ) TableFault) (levels : ℕ) → TakesValues value levels → (kind : Kind) (bytes : List ℕ) (x : Field × List ℕ) → IsBytes bytes
    → content_at value kind bytes ≡ Ok x → IsContent kind (suc levels) bytes x
unfolding content_at
content_takes value levels take (kinds.Fixed kind) bytes x are e =
    let t = fixed_takes kind bytes x are e in
    record { takes = t.takes; kind_is = t.kind_is; fits = t.fits; nests = omega (arith, t.nests) }
content_takes value levels take (kinds.Counted kind) bytes x are e =
    let a = bind_ok (counted_at bytes) (λ (y : List ℕ × List ℕ). inside_at value kind y.0 >>= λ v. Ok (v, y.1)) x e in
    let b = bind_ok (inside_at value kind a.0.0) (λ (v : Field). Ok (v, a.0.1)) x a.2 in
    let t = counted_reads.takes bytes a.0 are a.1 in
    let u = inside_takes value levels take kind a.0.0 b.0 (counted_text a.0.0 (to_be_bytes w32 (length a.0.0)) t.0.text_fits) b.1 in
    subst (IsContent (kinds.Counted kind) (suc levels) bytes) (ok_is (b.0, a.0.1) x b.2) (record {
      takes = subst (λ (text : List ℕ). Takes bytes text a.0.1) (sym (u.spelled t.1)) t.0;
      kind_is = u.kind_is;
      fits = u.fits t.1;
      nests = u.nests;
    })

pub value_takes : (d : ℕ) → TakesValues (value_at d) d
unfolding value_at
value_takes zero bytes x are e = absurd (never_ok (octet_at bytes) faults.Deep x e)
value_takes (suc d) bytes x are e =
    let a = bind_ok (octet_at bytes) (λ (y : ℕ × List ℕ). kind_at y.0 >>= λ kind. content_at (value_at d) kind y.1) x e in
    let b = bind_ok (kind_at a.0.0) (λ (kind : Kind). content_at (value_at d) kind a.0.1) x a.2 in
    let first = octet_reads.takes bytes a.0 are a.1 in
    let t = content_takes (value_at d) d (value_takes d) b.0 a.0.1 x first.0.rest_fits b.2 in
    let named : a.0.0 ≡ kind_octet (kind_of x.0) = kind_takes a.0.0 b.0 b.1 ∙ ap kind_octet (sym t.kind_is) in
    let both = Takes-then bytes (a.0.0 ∷ []) a.0.1 (content_spelling x.0) x.1 first.0 t.takes in
    record { takes = subst (λ (b : ℕ). Takes bytes (b ∷ content_spelling x.0) x.1) named both; fits = t.fits; nests = t.nests }

-- ---- what was written is read again

-- what a reader of values reads again, to so many levels
abbrev pub ReadsAgain : (List ℕ → Result (Field × List ℕ) TableFault) → ℕ → Type 0
ReadsAgain value levels = (v : Field) (rest : List ℕ) → HasSpelling v → depth v ≤ levels → value (value_spelling v ++ rest) ≡ Ok (v, rest)

list_of : Fields → List Field
list_of no_fields = []
list_of (field v vs) = v ∷ list_of vs

fields_of-list_of : (vs : Fields) → fields_of (list_of vs) ≡ vs
unfolding list_of
fields_of-list_of no_fields = refl
fields_of-list_of (field v vs) = ap (field v) (fields_of-list_of vs)

fields_again : (value : List ℕ → Result (Field × List ℕ) TableFault) (levels : ℕ) → ReadsAgain value levels → (n : ℕ) (vs : Fields) → length (fields_spelling vs) ≤ n → HaveSpelling vs → fields_depth vs ≤ levels
    → fields_at value n (fields_spelling vs) ≡ Ok (list_of vs)
unfolding fields_at list_of
fields_again value levels again n no_fields le fit nest = refl
fields_again value levels again zero (field v vs) le fit nest = absurd (omega arith)
fields_again value levels again (suc n) (field v vs) le fit nest =
    let shorter : length (fields_spelling vs) ≤ n = omega (arith, le, length-append (value_spelling v) (fields_spelling vs)) in
    rw (again v (fields_spelling vs) fit.0 (omega (arith, nest)), fields_again value levels again n vs shorter fit.1 (omega (arith, nest))) refl

pub pair_list_of : Pairs → List (List ℕ × Field)
pair_list_of no_pairs = []
pair_list_of (pair name v ps) = (name, v) ∷ pair_list_of ps

pub pairs_of-list_of : (ps : Pairs) → pairs_of (pair_list_of ps) ≡ ps
unfolding pair_list_of
pairs_of-list_of no_pairs = refl
pairs_of-list_of (pair name v ps) = ap (pair name v) (pairs_of-list_of ps)

pub pairs_again : (value : List ℕ → Result (Field × List ℕ) TableFault) (levels : ℕ) → ReadsAgain value levels → (n : ℕ) (ps : Pairs) → length (pairs_spelling ps) ≤ n → ArePairs ps → pairs_depth ps ≤ levels
    → pairs_at value n (pairs_spelling ps) ≡ Ok (pair_list_of ps)
unfolding pairs_at pair_list_of
pairs_again value levels again n no_pairs le fit nest = refl
pairs_again value levels again zero (pair name v ps) le fit nest = absurd (omega arith)
pairs_again value levels again (suc n) (pair name v ps) le fit nest =
    let shorter : length (pairs_spelling ps) ≤ n = omega (arith, le, length-append (name_spelling name) (value_spelling v ++ pairs_spelling ps), length-append (value_spelling v) (pairs_spelling ps)) in
    rw (name_reads.again name (value_spelling v ++ pairs_spelling ps) fit.0, again v (pairs_spelling ps) fit.1 (omega (arith, nest)), pairs_again value levels again n ps shorter fit.2 (omega (arith, nest))) refl

content_again : (value : List ℕ → Result (Field × List ℕ) TableFault) (levels : ℕ) → ReadsAgain value levels → (v : Field) (rest : List ℕ) → HasSpelling v → depth v ≤ suc levels
    → content_at value (kind_of v) (content_spelling v ++ rest) ≡ Ok (v, rest)
unfolding content_at fixed_at inside_at
content_again value levels again (boolean a) rest fits nest = ap (as_field boolean) (boolean_reads.again a rest fits)
content_again value levels again (signed_octet a) rest fits nest = ap (as_field signed_octet) (signed_octet_reads.again a rest fits)
content_again value levels again (octet a) rest fits nest = ap (as_field octet) (octet_reads.again a rest fits)
content_again value levels again (signed_short a) rest fits nest = ap (as_field signed_short) (signed_short_reads.again a rest fits)
content_again value levels again (short a) rest fits nest = ap (as_field short) (short_reads.again a rest fits)
content_again value levels again (signed_long a) rest fits nest = ap (as_field signed_long) (signed_long_reads.again a rest fits)
content_again value levels again (long a) rest fits nest = ap (as_field long) (long_reads.again a rest fits)
content_again value levels again (signed_longlong a) rest fits nest = ap (as_field signed_longlong) (signed_longlong_reads.again a rest fits)
content_again value levels again (float a) rest fits nest = ap (as_field float) ((octets_read 4).again a rest fits)
content_again value levels again (double a) rest fits nest = ap (as_field double) ((octets_read 8).again a rest fits)
content_again value levels again (decimal a) rest fits nest = ap (as_field decimal) ((octets_read 5).again a rest fits)
content_again value levels again (timestamp a) rest fits nest = ap (as_field timestamp) (longlong_reads.again a rest fits)
content_again value levels again void rest fits nest = refl
content_again value levels again (long_string bytes) rest fits nest = rw (counted_reads.again bytes rest fits) refl
content_again value levels again (byte_array bytes) rest fits nest = rw (counted_reads.again bytes rest fits) refl
content_again value levels again (array vs) rest fits nest =
    rw (counted_reads.again (fields_spelling vs) rest fits.0, fields_again value levels again (length (fields_spelling vs)) vs (omega arith) fits.1 (omega (arith, nest)), fields_of-list_of vs) refl
content_again value levels again (table ps) rest fits nest =
    rw (counted_reads.again (pairs_spelling ps) rest fits.0, pairs_again value levels again (length (pairs_spelling ps)) ps (omega arith) fits.1 (omega (arith, nest)), pairs_of-list_of ps) refl

depth-pos : (v : Field) → 0 < depth v
depth-pos (boolean a) = omega arith
depth-pos (signed_octet a) = omega arith
depth-pos (octet a) = omega arith
depth-pos (signed_short a) = omega arith
depth-pos (short a) = omega arith
depth-pos (signed_long a) = omega arith
depth-pos (long a) = omega arith
depth-pos (signed_longlong a) = omega arith
depth-pos (float a) = omega arith
depth-pos (double a) = omega arith
depth-pos (decimal a) = omega arith
depth-pos (timestamp a) = omega arith
depth-pos (long_string a) = omega arith
depth-pos (byte_array a) = omega arith
depth-pos (array a) = omega arith
depth-pos (table a) = omega arith
depth-pos void = omega arith

value_is : (d b : ℕ) (bytes : List ℕ) → value_at (suc d) (b ∷ bytes) ≡ (kind_at b >>= λ kind. content_at (value_at d) kind bytes)
unfolding value_at octet_at
value_is d b bytes = refl

pub value_again : (d : ℕ) → ReadsAgain (value_at d) d
value_again zero v rest fits nest = absurd (omega (arith, depth-pos v, nest))
value_again (suc d) v rest fits nest =
    value_is d (kind_octet (kind_of v)) (content_spelling v ++ rest) ∙ ap (λ (k : Result Kind TableFault). k >>= λ kind. content_at (value_at d) kind (content_spelling v ++ rest)) (kind_again (kind_of v))
    ∙ content_again (value_at d) d (value_again d) v rest fits nest

-- ---- whole tables

-- a table that was read, and the number of its octets
pub record IsTableRead (bytes : List ℕ) (x : Pairs × ℕ) : Type 0 where
  pub table : IsTable x.0
  pub len : x.1 ≡ length (table_spelling x.0)
  pub parts : (rest : List ℕ) × (bytes ≡ table_spelling x.0 ++ rest)

pub table_takes : (bytes : List ℕ) (x : Pairs × ℕ) → IsBytes bytes → table_at bytes ≡ Ok x → IsTableRead bytes x
unfolding table_at
table_takes bytes x are e =
    let a = bind_ok (counted_at bytes) (λ (y : List ℕ × List ℕ). pairs_at (value_at max_depth) (length y.0) y.0 >>= λ ps. Ok (pairs_of ps, 4 + length y.0)) x e in
    let b = bind_ok (pairs_at (value_at max_depth) (length a.0.0) a.0.0) (λ (ps : List (List ℕ × Field)). Ok (pairs_of ps, 4 + length a.0.0)) x a.2 in
    let t = counted_reads.takes bytes a.0 are a.1 in
    let u = pairs_take (value_at max_depth) max_depth (value_takes max_depth) (length a.0.0) a.0.0 b.0 (omega arith) (counted_text a.0.0 (to_be_bytes w32 (length a.0.0)) t.0.text_fits) b.1 in
    let same : counted_spelling a.0.0 ≡ table_spelling (pairs_of b.0) = ap counted_spelling u.spelled in
    subst (IsTableRead bytes) (ok_is (pairs_of b.0, 4 + length a.0.0) x b.2) (record {
      table = record { pairs = u.fit; counted = subst IsCounted u.spelled t.1; nests = u.nest };
      len = omega (arith, ap length u.spelled, length-append (to_be_bytes w32 (length (pairs_spelling (pairs_of b.0)))) (pairs_spelling (pairs_of b.0)));
      parts = (a.0.1, t.0.parts ∙ ap (λ (text : List ℕ). text ++ a.0.1) same);
    })

pub table_again : (ps : Pairs) (rest : List ℕ) → IsTable ps → table_at (table_spelling ps ++ rest) ≡ Ok (ps, length (table_spelling ps))
unfolding table_at
table_again ps rest is =
    let len : 4 + length (pairs_spelling ps) ≡ length (table_spelling ps) = omega (arith, length-append (to_be_bytes w32 (length (pairs_spelling ps))) (pairs_spelling ps)) in
    rw (counted_reads.again (pairs_spelling ps) rest is.counted, pairs_again (value_at max_depth) max_depth (value_again max_depth) (length (pairs_spelling ps)) ps (omega arith) is.pairs is.nests, pairs_of-list_of ps, len) refl

-- ---- each value takes an octet at least

pub value_after : (d : ℕ) (bytes : List ℕ) (v : Field) (after : List ℕ) → IsBytes bytes → value_at d bytes ≡ Ok (v, after) → (length after < length bytes) × IsBytes after
value_after d bytes v after are e =
    let t = value_takes d bytes (v, after) are e in
    (omega (arith, ap length t.takes.parts, length-append (value_spelling v) after), t.takes.rest_fits)

pub pair_after : (d : ℕ) (bytes name behind : List ℕ) (v : Field) (after : List ℕ) → IsBytes bytes → name_at bytes ≡ Ok (name, behind) → value_at d behind ≡ Ok (v, after) → (length after < length bytes) × IsBytes after
pair_after d bytes name behind v after are named e =
    let s = name_reads.takes bytes (name, behind) are named in
    let t = value_after d behind v after s.0.rest_fits e in
    (omega (arith, t.0, ap length s.0.parts, length-append (name_spelling name) behind), t.1)

-- what reading found, as the clause says it
pub is_found : (bytes : List ℕ) (r : Result (Table × ℕ) TableFault) → IsBytes bytes → Gives (λ x. (table_view x.0, x.1)) r (table_at bytes)
    → IfOk r (λ x. IsTable (table_view x.0) × (x.1 ≤ length bytes) × (take x.1 bytes ≡ table_spelling (table_view x.0)))
is_found bytes (Ok x) are given =
    let t = table_takes bytes (table_view x.0, x.1) are given in
    let len : length (table_spelling (table_view x.0)) ≡ x.1 = sym t.len in
    (t.table, omega (arith, t.len, ap length t.parts.1, length-append (table_spelling (table_view x.0)) t.parts.0), ap (take x.1) t.parts.1 ∙ take_at (table_spelling (table_view x.0)) t.parts.0 x.1 len)
is_found bytes (Err e) are given = tt
