-- One value, read as a table of it under the empty name.
use Rattle.std.proofs.Common.{◌≡◌, ℕ, zero, suc, ◌+◌, ◌<◌, ◌≤◌, Bool, true, false, cond, eqb, ltb, List, [], ◌∷◌, length, Option, Some, None, Result, Ok, Err, refl, sym, ap, ◌∙◌, arith}
use Rattle.std.specs.Prelude.{option_and_then}
use Rattle.std.proofs.lemmas.Bool.{le-ltb, ne_eqb}
use Rattle.std.proofs.lemmas.List.{append-nil, length-append}
use Rattle.std.proofs.lemmas.Str.{IsUtf8-nil}
use Rattle.std.specs.Result.{result_ok}
use Rattle.hex.specs.Hex.{decode_of}
use Rattle.hex.specs.declared.error.FromHexError.{FromHexError}
use Rattle.hex.proofs.HexLemmas.{decode_of-ok}
use Rattle.field_tables.specs.Fields.{Field, Pairs}
use Rattle.field_tables.specs.Tables.{max_depth, value_spelling, counted_spelling, HasSpelling, depth}
use Rattle.field_tables.specs.Reading.{◌>>=◌, name_at, counted_at, pairs_at, value_at, octet_at, table_at}
use Rattle.field_tables.specs.View.{pairs_of}
use Rattle.field_tables.specs.declared.fault.TableFault.{TableFault}
use Rattle.field_tables.proofs.Octets.{IsBytes, bind_ok, counted_reads, name_reads}
use Rattle.field_tables.proofs.Values.{value_takes}
use Rattle.schedule_words.specs.Values.{max_header, table_in, only_value, whole_value, spelled_value}

abbrev Reader : Type 0
Reader = List ℕ → Result (Field × List ℕ) TableFault

-- the one value of the pairs that were read
abbrev only_read : Result (List (List ℕ × Field)) TableFault → Option Field
only_read (Ok ps) = only_value (pairs_of ps)
only_read (Err fault) = None

-- the same of a table
abbrev only_in : Result (Pairs × ℕ) TableFault → Option Field
only_in r = option_and_then only_value (table_in r)

-- the empty name is read first
empty_name : (h : List ℕ) → name_at (0 ∷ h) ≡ Ok ([], h)
empty_name h = name_reads.again [] h (record { text = IsUtf8-nil; fits = omega arith })

-- where octets are left, so is a pair
pairs-some : (value : Reader) (m b : ℕ) (rest : List ℕ) → pairs_at value (suc m) (b ∷ rest) ≡ Ok [] → ⊥
unfolding pairs_at
pairs-some value m b rest e =
    let name = bind_ok (name_at (b ∷ rest)) (λ (name : List ℕ × List ℕ). value name.1 >>= λ v. pairs_at value m v.1 >>= λ ys. Ok ((name.0, v.0) ∷ ys)) [] e in
    let first = bind_ok (value name.0.1) (λ (v : Field × List ℕ). pairs_at value m v.1 >>= λ ys. Ok ((name.0.0, v.0) ∷ ys)) [] name.2 in
    let others = bind_ok (pairs_at value m first.0.1) (λ (ys : List (List ℕ × Field)). Ok ((name.0.0, first.0.0) ∷ ys)) [] first.2 in
    let wrong : Ok ((name.0.0, first.0.0) ∷ others.0) ≡ Ok [] = others.2 in
    cc

not_empty : (b : ℕ) (rest : List ℕ) → eqb (length (b ∷ rest)) 0 ≡ false
not_empty b rest = ne_eqb _ _ (omega arith)

more_pairs : (v : Field) (b : ℕ) (rest : List ℕ) (r : Result (List (List ℕ × Field)) TableFault) → (r ≡ Ok [] → ⊥)
    → only_read (r >>= λ ps. Ok (([], v) ∷ ps)) ≡ whole_value (Ok (v, b ∷ rest))
more_pairs v b rest (Ok []) some = absurd (some refl)
more_pairs v b rest (Ok (q ∷ qs)) some = rw (not_empty b rest) refl
more_pairs v b rest (Err fault) some = rw (not_empty b rest) refl

after_value : (value : Reader) (n : ℕ) (v : Field) (rest : List ℕ) → 0 < n
    → only_read (pairs_at value n rest >>= λ ps. Ok (([], v) ∷ ps)) ≡ whole_value (Ok (v, rest))
unfolding pairs_at
after_value value n v [] pos = refl
after_value value zero v (b ∷ rest) pos = absurd (omega arith)
after_value value (suc m) v (b ∷ rest) pos = more_pairs v b rest (pairs_at value (suc m) (b ∷ rest)) (pairs-some value m b rest)

after_read : (value : Reader) (h : List ℕ) → ((x : Field × List ℕ) → value [] ≡ Ok x → ⊥) → (r : Result (Field × List ℕ) TableFault) → value h ≡ r
    → only_read (r >>= λ v. pairs_at value (length h) v.1 >>= λ ps. Ok (([], v.0) ∷ ps)) ≡ whole_value r
after_read value h faulty (Err fault) is = refl
after_read value [] faulty (Ok x) is = absurd (faulty x is)
after_read value (y ∷ h) faulty (Ok x) is = after_value value (length (y ∷ h)) x.0 x.1 (omega arith)

one_read : (value : Reader) (h : List ℕ) → ((x : Field × List ℕ) → value [] ≡ Ok x → ⊥) → only_read (pairs_at value (suc (length h)) (0 ∷ h)) ≡ whole_value (value h)
unfolding pairs_at
one_read value h faulty = rw (empty_name h) (after_read value h faulty (value h) refl)

in_table : (r : Result (List (List ℕ × Field)) TableFault) (n : ℕ) → only_in (r >>= λ ps. Ok (pairs_of ps, n)) ≡ only_read r
in_table (Ok ps) n = refl
in_table (Err fault) n = refl

no_value : (x : Field × List ℕ) → value_at max_depth [] ≡ Ok x → ⊥
unfolding value_at octet_at
no_value x e = cc

-- the table of the value alone says the value, or that there is none
pub spelled_from : (h : List ℕ) → length h ≤ max_header → option_and_then only_value (table_in (table_at (counted_spelling (0 ∷ h)))) ≡ spelled_value h
unfolding table_at spelled_value
spelled_from h short =
    let counted : counted_at (counted_spelling (0 ∷ h)) ≡ Ok (0 ∷ h, []) =
    ap counted_at (sym (append-nil (counted_spelling (0 ∷ h)))) ∙ counted_reads.again (0 ∷ h) [] (omega arith) in
    let within : ltb max_header (length h) ≡ false = le-ltb _ _ short in
    rw (counted, within) (in_table (pairs_at (value_at max_depth) (suc (length h)) (0 ∷ h)) (4 + suc (length h)) ∙ one_read (value_at max_depth) h no_value)

-- what is known of a value that was read so
pub record IsSpelled (v : Field) (h : List ℕ) : Type 0 where
  pub takes : length (value_spelling v) ≡ length h
  pub fits : HasSpelling v
  pub nests : depth v ≤ max_depth

some_else : (b : Bool) (o : Option Field) (v : Field) → cond b None o ≡ Some v → o ≡ Some v
some_else true o v e = absurd cc
some_else false o v e = e

whole_parts : (u : Field) (rest : List ℕ) (v : Field) → cond (eqb (length rest) 0) (Some u) None ≡ Some v → (rest ≡ []) × (u ≡ v)
whole_parts u [] v e = (refl, cc)
whole_parts u (b ∷ rest) v e = let f = rw (not_empty b rest) at e in absurd cc

whole_is : (r : Result (Field × List ℕ) TableFault) (v : Field) → whole_value r ≡ Some v → r ≡ Ok (v, [])
whole_is (Ok x) v e = let parts = whole_parts x.0 x.1 v e in ap (λ (y : Field × List ℕ). Ok y) (λ i. (parts.1 i, parts.0 i))
whole_is (Err fault) v e = absurd cc

pub spelled-is : (h : List ℕ) (v : Field) → IsBytes h → spelled_value h ≡ Some v → IsSpelled v h
unfolding spelled_value
spelled-is h v are e =
    let read = whole_is (value_at max_depth h) v (some_else (ltb max_header (length h)) (whole_value (value_at max_depth h)) v e) in
    let t = value_takes max_depth h (v, []) are read in
    record {
      takes = omega (arith, ap length t.takes.parts, length-append (value_spelling v) []);
      fits = t.fits;
      nests = t.nests;
    }

ok_from : (r : Result (List ℕ) FromHexError) (h : List ℕ) → result_ok r ≡ Some h → r ≡ Ok h
ok_from (Ok octets) h e = cc
ok_from (Err fault) h e = absurd cc

-- digits write octets, two each
pub digits_write : (w h : List ℕ) → result_ok (decode_of w) ≡ Some h → (length h ≤ length w) × IsBytes h
digits_write w h e = let t = decode_of-ok w h (ok_from (decode_of w) h e) in (omega (arith, t.2), t.3)
