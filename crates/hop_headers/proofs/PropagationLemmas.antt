-- The entries of an `x-bound-from`, and the values that they are read from.
use Rattle.std.proofs.Common.{◌≡◌, ℕ, ℤ, ◌<◌, ◌≤◌, Bool, true, false, cond, ◌||◌, List, [], ◌∷◌, length, get_or, Option, Some, None, refl, sym, arith}
use Rattle.std.specs.Prelude.{option_map, option_and_then, is_some, unwrap_or}
use Rattle.std.specs.Option.{option_map_or}
use Rattle.std.specs.List.{list_all, list_any, filter_map, cons_option}
use Rattle.field_tables.specs.Fields.{Field, Pairs}
use Rattle.field_tables.specs.View.{field_view, fields_view}
use Rattle.field_tables.specs.declared.value.FieldValue.{FieldValue}
use Rattle.hop_headers.specs.declared.entry.PlaceName.{PlaceName}
use Rattle.hop_headers.specs.Names.{bound_from_name, exchange_name}
use Rattle.hop_headers.specs.Hops.{table_of, array_at, text_at, place_at, place_of, same_place}
use Rattle.hop_headers.specs.Gate.{is_at}
use Rattle.hop_headers.specs.Propagation.{BoundEntry, hops_at, bound_with, bound_at, bound_of, is_bound, is_chain, if_chain, chain, kept_chain, first_hops, has_passed}
use Rattle.hop_headers.proofs.HopLemmas.{both}

chain_bound : (vs : List Field) → is_chain vs ≡ true → list_all is_bound vs ≡ true
chain_bound [] h = refl
chain_bound (v ∷ vs) h = h

if_chain_bound : (vs : List Field) (b : Bool) → is_chain vs ≡ b → list_all is_bound (unwrap_or (cond b (Some vs) None) []) ≡ true
if_chain_bound vs true e = chain_bound vs e
if_chain_bound vs false e = refl

-- each value that is kept is an entry
pub kept_bound : (args : Pairs) → list_all is_bound (kept_chain args) ≡ true
unfolding chain
kept_bound args = elim (array_at bound_from_name args) as (λ o. list_all is_bound (unwrap_or (option_and_then if_chain o) []) ≡ true) [
  | None ↦ refl
  | Some vs ↦ if_chain_bound vs (is_chain vs) refl
]

first_of_some : (o : Option BoundEntry) (es : List BoundEntry) → is_some o ≡ true → option_map (λ (e : BoundEntry). e.hops) o ≡ first_hops (cons_option o es)
first_of_some None es h = absurd cc
first_of_some (Some e) es h = refl

pub first_is : (vs : List FieldValue) (v : FieldValue) → list_all is_bound (fields_view vs) ≡ true → 1 ≤ length vs → v ≡ get_or vs 0 v
    → option_map (λ (e : BoundEntry). e.hops) (bound_of (field_view v)) ≡ first_hops (filter_map bound_of (fields_view vs))
unfolding is_bound
first_is [] v h len e = absurd (omega arith)
first_is (w ∷ vs) v h len e =
    rw e (first_of_some (bound_of (field_view w)) (filter_map bound_of (fields_view vs)) (both (is_some (bound_of (field_view w))) (list_all is_bound (fields_view vs)) h).0)

pub first_none : (vs : List FieldValue) → length vs < 1 → None ≡ first_hops (filter_map bound_of (fields_view vs))
first_none [] len = refl
first_none (v ∷ vs) len = absurd (omega arith)

-- an entry's place is the one that its value names
with_place : (p : Option PlaceName) (x : Option (List ℕ)) (h : Option ℤ) → is_some (bound_with p x h) ≡ true → option_map (λ (e : BoundEntry). e.place) (bound_with p x h) ≡ p
with_place (Some p) (Some x) (Some h) some = refl
with_place (Some p) (Some x) None some = absurd cc
with_place (Some p) None h some = absurd cc
with_place None x h some = absurd cc

of_table : (o : Option Pairs) → is_some (option_and_then bound_at o) ≡ true → option_map (λ (e : BoundEntry). e.place) (option_and_then bound_at o) ≡ option_and_then place_at o
unfolding bound_at
of_table None h = refl
of_table (Some ps) h = with_place (place_at ps) (text_at exchange_name ps) (hops_at ps) h

pub bound_place : (v : Field) → is_bound v ≡ true → option_map (λ (e : BoundEntry). e.place) (bound_of v) ≡ place_of v
unfolding is_bound
bound_place v h = of_table (table_of v) h

passed_step : (p : PlaceName) (o : Option BoundEntry) (q : Option PlaceName) (es : List BoundEntry) (rest : Bool) → option_map (λ (e : BoundEntry). e.place) o ≡ q → list_any (λ e. same_place p e.place) es ≡ rest
    → (option_map_or (same_place p) q false || rest) ≡ list_any (λ e. same_place p e.place) (cons_option o es)
passed_step p None q es rest e h = rw (← e) (sym h)
passed_step p (Some x) q es rest e h = rw (← e, h) refl

pub passed_is : (p : PlaceName) (vs : List Field) → list_all is_bound vs ≡ true → list_any (is_at p) vs ≡ has_passed p (filter_map bound_of vs)
unfolding is_at has_passed
passed_is p [] h = refl
passed_is p (v ∷ vs) h =
    let t = both (is_bound v) (list_all is_bound vs) h in
    passed_step p (bound_of v) (place_of v) (filter_map bound_of vs) (list_any (is_at p) vs) (bound_place v t.0) (sym (passed_is p vs t.1))
