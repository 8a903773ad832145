-- No spelling begins another: both are read from the same octets.
use Rattle.std.proofs.Common.{◌≡◌, ℕ, max, List, [], ◌++◌, length, Ok, sym, ap, ◌∙◌, arith}
use Rattle.std.proofs.lemmas.List.{append-nil}
use Rattle.field_tables.specs.Fields.{Field, Pairs}
use Rattle.field_tables.specs.Tables.{depth, IsTable, HasSpelling, value_spelling, pairs_spelling, table_spelling, max_depth}
use Rattle.field_tables.specs.Reading.{counted_at, pairs_at, value_at}
use Rattle.field_tables.proofs.Octets.{ok_is, counted_reads}
use Rattle.field_tables.proofs.Values.{value_again, pairs_again, pairs_of-list_of, pair_list_of}
use Rattle.field_tables.specs.View.{pairs_of}

pub values_apart : (v w : Field) (x y : List ℕ) → HasSpelling v → HasSpelling w → value_spelling v ++ x ≡ value_spelling w ++ y → (v ≡ w) × (x ≡ y)
values_apart v w x y one two same =
    let d = max (depth v) (depth w) in
    let first : value_at d (value_spelling v ++ x) ≡ Ok (v, x) = value_again d v x one (omega arith) in
    let second : value_at d (value_spelling w ++ y) ≡ Ok (w, y) = value_again d w y two (omega arith) in
    let both : (v, x) ≡ (w, y) = ok_is (v, x) (w, y) (sym first ∙ ap (value_at d) same ∙ second) in
    (ap (λ (p : Field × List ℕ). p.0) both, ap (λ (p : Field × List ℕ). p.1) both)

pub tables_apart : (ps qs : Pairs) (x y : List ℕ) → IsTable ps → IsTable qs → table_spelling ps ++ x ≡ table_spelling qs ++ y → (ps ≡ qs) × (x ≡ y)
tables_apart ps qs x y one two same =
    let both : (pairs_spelling ps, x) ≡ (pairs_spelling qs, y) = ok_is (pairs_spelling ps, x) (pairs_spelling qs, y) (sym (counted_reads.again (pairs_spelling ps) x one.counted) ∙ ap counted_at same ∙ counted_reads.again (pairs_spelling qs) y two.counted) in
    let text : pairs_spelling ps ≡ pairs_spelling qs = ap (λ (p : List ℕ × List ℕ). p.0) both in
    let n = max (length (pairs_spelling ps)) (length (pairs_spelling qs)) in
    let first = pairs_again (value_at max_depth) max_depth (value_again max_depth) n ps (omega arith) one.pairs one.nests in
    let second = pairs_again (value_at max_depth) max_depth (value_again max_depth) n qs (omega arith) two.pairs two.nests in
    let lists : pair_list_of ps ≡ pair_list_of qs = ok_is (pair_list_of ps) (pair_list_of qs) (sym first ∙ ap (pairs_at (value_at max_depth) n) text ∙ second) in
    (sym (pairs_of-list_of ps) ∙ ap pairs_of lists ∙ pairs_of-list_of qs, ap (λ (p : List ℕ × List ℕ). p.1) both)

pub tables_prefix : (ps qs : Pairs) (rest : List ℕ) → IsTable ps → IsTable qs → table_spelling qs ≡ table_spelling ps ++ rest → (ps ≡ qs) × (rest ≡ [])
tables_prefix ps qs rest one two same = tables_apart ps qs rest [] one two (sym same ∙ sym (append-nil (table_spelling qs)))
