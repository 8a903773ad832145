-- What a binding that is propagated says.
use Rattle.std.proofs.Common.{◌≡◌, ◌≢◌, ℕ, ℤ, pos, negsuc, ◌-◌, ◌<◌, ◌≤◌, min, Bool, true, false, cond, List, [], ◌∷◌, length, Option, Some, None, refl, sym, ap, subst, ◌∙◌, arith}
use Rattle.std.specs.Prelude.{◌<ℤ◌, All, option_map, option_and_then, is_some, unwrap_or, nat_le}
use Rattle.std.specs.List.{filter_map}
use Rattle.std.specs.Str.{is_utf8}
use Rattle.std.proofs.lemmas.Str.{is_utf8-from_IsUtf8}
use Rattle.std.proofs.lemmas.Bool.{leb-true}
use Rattle.std.proofs.lemmas.Int.{ints}
use Rattle.std.proofs.Math.Nat.{min-le_left, min-le_right}
use Rattle.field_tables.specs.Fields.{Field, array, table, Pairs, first_of}
use Rattle.field_tables.specs.View.{fields_of}
use Rattle.field_tables.specs.Tables.{table_spelling}
use Rattle.hop_headers.specs.declared.entry.PlaceName.{PlaceName}
use Rattle.hop_headers.specs.Names.{bound_from_name, cluster_name, vhost_name, exchange_name, hops_name}
use Rattle.hop_headers.specs.Hops.{named_values, array_at, text_at, place_at, same_place}
use Rattle.hop_headers.specs.Propagation.{BoundEntry, bound_at, bound_of, is_bound, chain, bound_from, kept_chain, bound_entries, one_less, first_hops, hops_left, if_left, new_hops, has_passed, bound_entry, bound_on, is_short, if_short, propagated, max_arguments}
use Rattle.hop_headers.specs.Laws.{AreNames, downstream_entry, GoesOn, KeepsArguments}
use Rattle.hop_headers.proofs.Views.{values_of-fields_of}
use Rattle.hop_headers.proofs.HopLemmas.{none_any, same_no}
use Rattle.hop_headers.proofs.TableLemmas.{first_last, other_last, pairs_of-named_values}
use Rattle.hop_headers.proofs.PropagationLemmas.{kept_bound}

-- what was propagated is the arguments with a new entry of so many hops
pub record Went (args new : Pairs) (upstream downstream : PlaceName) (exchange : List ℕ) (most : ℕ) : Type 0 where
  pub hops : ℕ
  pub left : new_hops (bound_entries args) most ≡ Some hops
  pub apart : has_passed upstream (bound_entries args) ≡ false
  pub made : new ≡ bound_on args downstream exchange hops
  pub short : is_short new ≡ true

short_went : (x new : Pairs) (t : Bool) → is_short x ≡ t → cond t (Some x) None ≡ Some new → (new ≡ x) × (is_short new ≡ true)
short_went x new true e h =
    let same : x ≡ new = cc in
    (sym same, subst (λ (y : Pairs). is_short y ≡ true) same e)
short_went x new false e h = absurd cc

went_from : (args new : Pairs) (upstream downstream : PlaceName) (exchange : List ℕ) (most : ℕ) (t : Bool) (o : Option ℕ)
    → has_passed upstream (bound_entries args) ≡ t → new_hops (bound_entries args) most ≡ o
    → cond t None (option_and_then (λ hops. if_short (bound_on args downstream exchange hops)) o) ≡ Some new → Went args new upstream downstream exchange most
went_from args new up down x most true o e f h = absurd cc
went_from args new up down x most false None e f h = absurd cc
went_from args new up down x most false (Some n) e f h =
    let t = short_went (bound_on args down x n) new (is_short (bound_on args down x n)) refl h in
    record { hops = n; left = f; apart = e; made = t.0; short = t.1 }

pub went : (args new : Pairs) (upstream downstream : PlaceName) (exchange : List ℕ) (most : ℕ) → propagated args upstream downstream exchange most ≡ Some new → Went args new upstream downstream exchange most
unfolding propagated
went args new up down x most h = went_from args new up down x most _ _ refl refl h

-- ---- the new entry, and those behind it

pub entry_is : (downstream : PlaceName) (exchange : List ℕ) (hops : ℕ) → is_utf8 downstream.cluster ≡ true → is_utf8 downstream.vhost ≡ true → is_utf8 exchange ≡ true
    → bound_of (table (bound_entry downstream exchange hops)) ≡ Some (downstream_entry downstream exchange hops)
unfolding bound_at place_at text_at bound_entry cluster_name vhost_name exchange_name hops_name
entry_is down x n c v e = rw (c, v, e) refl

chain_on : (args : Pairs) (downstream : PlaceName) (exchange : List ℕ) (hops : ℕ) → is_bound (table (bound_entry downstream exchange hops)) ≡ true
    → chain (bound_on args downstream exchange hops) ≡ Some (table (bound_entry downstream exchange hops) ∷ kept_chain args)
unfolding chain array_at bound_on
chain_on args down x n entry =
    let v : Field = array (fields_of (table (bound_entry down x n) ∷ kept_chain args)) in
    rw (first_last bound_from_name v (named_values args), values_of-fields_of (kept_chain args), entry, kept_bound args) refl

pub entries_on : (args : Pairs) (downstream : PlaceName) (exchange : List ℕ) (hops : ℕ) → AreNames downstream exchange
    → bound_from (bound_on args downstream exchange hops) ≡ Some (downstream_entry downstream exchange hops ∷ bound_entries args)
unfolding is_bound
entries_on args down x n names =
    let is = entry_is down x n (is_utf8-from_IsUtf8 _ names.cluster) (is_utf8-from_IsUtf8 _ names.vhost) (is_utf8-from_IsUtf8 _ names.object) in
    ap (option_map (filter_map bound_of)) (chain_on args down x n (ap is_some is)) ∙ rw is refl

-- ---- hops

left_is : (k n : ℕ) (t : Bool) → nat_le 1 k ≡ t → cond t (Some k) None ≡ Some n → (n ≡ k) × (1 ≤ k)
left_is k n true e h = (cc, leb-true 1 k e)
left_is k n false e h = absurd cc

pub hops_are : (o : Option ℤ) (most n : ℕ) → if_left (hops_left o most) ≡ Some n → (n ≡ hops_left o most) × (1 ≤ hops_left o most)
hops_are o most n h = left_is (hops_left o most) n (nat_le 1 (hops_left o most)) refl h

pub fewer : (h : ℤ) (most n : ℕ) → n ≡ min (one_less h) most → 1 ≤ min (one_less h) most → pos n <ℤ h
fewer (pos k) most n is some =
    let below : n < k = omega (arith, min-le_left (k - 1) most, is) in
    omega (arith, ints)
fewer (negsuc k) most n is some = absurd (omega (arith, min-le_left 0 most))

entries_some : (o : Option (List Field)) (es : List BoundEntry) → option_map (filter_map bound_of) o ≡ Some es → filter_map bound_of (unwrap_or o []) ≡ es
entries_some None es h = absurd cc
entries_some (Some vs) es h = cc

entries_none : (o : Option (List Field)) → option_map (filter_map bound_of) o ≡ None → filter_map bound_of (unwrap_or o []) ≡ []
entries_none None h = refl
entries_none (Some vs) h = absurd cc

pub elsewhere : (p : PlaceName) (es : List BoundEntry) → has_passed p es ≡ false → All (λ (e : BoundEntry). e.place ≢ p) es
unfolding has_passed
elsewhere p es h = λ k d lt. same_no p _ (none_any (λ (e : BoundEntry). same_place p e.place) es h k d lt)

-- ---- the laws

pub goes_on : (args new : Pairs) (upstream downstream : PlaceName) (exchange : List ℕ) (most : ℕ) (first : BoundEntry) (rest : List BoundEntry) → AreNames downstream exchange
    → bound_from args ≡ Some (first ∷ rest) → propagated args upstream downstream exchange most ≡ Some new → GoesOn upstream downstream exchange most first rest new
unfolding new_hops
goes_on args new up down x most first rest names read h =
    let w = went args new up down x most h in
    let es : bound_entries args ≡ first ∷ rest = entries_some (chain args) (first ∷ rest) read in
    let left : if_left (hops_left (Some first.hops) most) ≡ Some w.hops = ap (λ (l : List BoundEntry). if_left (hops_left (first_hops l) most)) (sym es) ∙ w.left in
    let t = hops_are (Some first.hops) most w.hops left in
    record {
      hops = w.hops;
      entries = ap bound_from w.made ∙ entries_on args down x w.hops names ∙ ap (λ (l : List BoundEntry). Some (downstream_entry down x w.hops ∷ l)) es;
      some_left = omega (arith, t.0, t.1);
      within = omega (arith, t.0, min-le_right (one_less first.hops) most);
      fewer = fewer first.hops most w.hops t.0 t.1;
      elsewhere = elsewhere up (first ∷ rest) (ap (has_passed up) (sym es) ∙ w.apart);
    }

pub begins : (args new : Pairs) (upstream downstream : PlaceName) (exchange : List ℕ) (most : ℕ) → AreNames downstream exchange
    → bound_from args ≡ None → propagated args upstream downstream exchange most ≡ Some new → bound_from new ≡ Some (downstream_entry downstream exchange most ∷ [])
unfolding new_hops
begins args new up down x most names read h =
    let w = went args new up down x most h in
    let es : bound_entries args ≡ [] = entries_none (chain args) read in
    let left : if_left (hops_left None most) ≡ Some w.hops = ap (λ (l : List BoundEntry). if_left (hops_left (first_hops l) most)) (sym es) ∙ w.left in
    let t = hops_are None most w.hops left in
    ap bound_from w.made ∙ entries_on args down x w.hops names ∙ rw (es, t.0) refl

others_on : (args : Pairs) (downstream : PlaceName) (exchange : List ℕ) (hops : ℕ) (name : List ℕ) → name ≢ bound_from_name → first_of name (bound_on args downstream exchange hops) ≡ first_of name args
unfolding bound_on
others_on args down x n name other = other_last bound_from_name name _ (named_values args) other ∙ ap (first_of name) (pairs_of-named_values args)

pub short_length : (args : Pairs) → is_short args ≡ true → length (table_spelling args) ≤ max_arguments
unfolding is_short
short_length args h = leb-true (length (table_spelling args)) max_arguments h

pub keeps : (args new : Pairs) (upstream downstream : PlaceName) (exchange : List ℕ) (most : ℕ) → propagated args upstream downstream exchange most ≡ Some new → KeepsArguments args new
keeps args new up down x most h =
    let w = went args new up down x most h in
    record { others = λ name other. ap (first_of name) w.made ∙ others_on args down x w.hops name other; short = short_length new w.short }
