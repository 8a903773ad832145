-- The entries of a header, and the values that they are read from.
use Rattle.std.proofs.Common.{◌≡◌, ◌≢◌, ℕ, suc, Bool, true, false, true≢false, cond, not, ◌&&◌, ◌||◌, List, [], ◌∷◌, length, Option, Some, None, refl, sym, ap, subst, ◌∙◌}
use Rattle.std.specs.Prelude.{option_map, option_and_then, is_some, nat_lt, unwrap_or, All}
use Rattle.std.specs.Option.{option_map_or}
use Rattle.std.specs.List.{list_all, list_any, filter_map, cons_option}
use Rattle.std.specs.Str.{bytes_eq}
use Rattle.std.proofs.lemmas.Bool.{ltb-true, lt-ltb}
use Rattle.std.proofs.lemmas.List.Elements.{All-cons, All-nil}
use Rattle.std.proofs.lemmas.List.Folds.{list_any_none}
use Rattle.std.proofs.lemmas.List.{length-map}
use Rattle.std.proofs.lemmas.Slice.Eq.{bytes_eq-Decides}
use Rattle.field_tables.specs.Fields.{Field, Pairs}
use Rattle.field_tables.specs.View.{field_view, fields_view}
use Rattle.field_tables.specs.declared.value.FieldValue.{FieldValue}
use Rattle.hop_headers.specs.declared.entry.PlaceName.{PlaceName}
use Rattle.hop_headers.specs.declared.entry.HopEntry.{HopEntry}
use Rattle.hop_headers.specs.Names.{received_from_name}
use Rattle.hop_headers.specs.Hops.{table_of, array_at, place_at, place_of, names_place, same_place, entry_with, entry_at, entry_of, if_hops, hops, kept_hops, hop_entries}
use Rattle.hop_headers.specs.Gate.{place, is_from, is_at, GatePasses, gate_passes}

-- an entry's place is the one that its value names
place_kept : (o : Option Pairs) → option_map (λ (e : HopEntry). e.place) (option_and_then entry_at o) ≡ option_and_then place_at o
unfolding entry_at
place_kept None = refl
place_kept (Some ps) = elim (place_at ps) as (λ p. option_map (λ (e : HopEntry). e.place) (option_map (entry_with ps) p) ≡ p) [ None ↦ refl | Some p ↦ refl ]

pub entry_place : (v : Field) → option_map (λ (e : HopEntry). e.place) (entry_of v) ≡ place_of v
entry_place v = place_kept (table_of v)

if_hops_named : (vs : List Field) (b : Bool) → list_all names_place vs ≡ b → list_all names_place (unwrap_or (cond b (Some vs) None) []) ≡ true
if_hops_named vs true e = e
if_hops_named vs false e = refl

-- each value that is kept names a place
pub kept_named : (headers : Pairs) → list_all names_place (kept_hops headers) ≡ true
unfolding hops
kept_named headers = elim (array_at received_from_name headers) as (λ o. list_all names_place (unwrap_or (option_and_then if_hops o) []) ≡ true) [
  | None ↦ refl
  | Some vs ↦ if_hops_named vs (list_all names_place vs) refl
]

pub both : (a b : Bool) → (a && b) ≡ true → (a ≡ true) × (b ≡ true)
both true b h = (refl, h)
both false b h = absurd cc

one_more : (o : Option HopEntry) (q : Option PlaceName) (es : List HopEntry) (n : ℕ) → option_map (λ (e : HopEntry). e.place) o ≡ q → is_some q ≡ true → length es ≡ n → length (cons_option o es) ≡ suc n
one_more None q es n e h len = absurd cc
one_more (Some x) q es n e h len = ap suc len

pub counted : (vs : List Field) → list_all names_place vs ≡ true → length (filter_map entry_of vs) ≡ length vs
unfolding names_place
counted [] h = refl
counted (v ∷ vs) h =
    let t = both (is_some (place_of v)) (list_all names_place vs) h in
    one_more (entry_of v) (place_of v) (filter_map entry_of vs) (length vs) (entry_place v) t.0 (counted vs t.1)

any_step : (p : PlaceName) (o : Option HopEntry) (q : Option PlaceName) (es : List HopEntry) (rest : Bool) → option_map (λ (e : HopEntry). e.place) o ≡ q → list_any (is_from p) es ≡ rest
    → list_any (is_from p) (cons_option o es) ≡ (option_map_or (same_place p) q false || rest)
any_step p None q es rest e h = rw (← e) h
any_step p (Some x) q es rest e h = rw (← e, h) refl

pub any_same : (p : PlaceName) (vs : List Field) → list_any (is_from p) (filter_map entry_of vs) ≡ list_any (is_at p) vs
unfolding is_at
any_same p [] = refl
any_same p (v ∷ vs) = any_step p (entry_of v) (place_of v) (filter_map entry_of vs) (list_any (is_at p) vs) (entry_place v) (any_same p vs)

pub gate_is : (limit : ℕ) (cluster vhost : List ℕ) (headers : Pairs) (vs : List FieldValue) → fields_view vs ≡ kept_hops headers
    → (nat_lt (length vs) limit && not (list_any (is_at (place cluster vhost)) (fields_view vs))) ≡ gate_passes limit cluster vhost headers
unfolding gate_passes
gate_is limit cluster vhost headers vs e =
    let len : length vs ≡ length (kept_hops headers) = sym (length-map vs field_view) ∙ ap length e in
    rw (len, e, counted (kept_hops headers) (kept_named headers), any_same (place cluster vhost) (kept_hops headers)) refl

-- ---- the gate's test, and what it decides

pub same_yes : (a b : PlaceName) → same_place a b ≡ true → a ≡ b
same_yes a b h =
    let t = both (bytes_eq a.cluster b.cluster) (bytes_eq a.vhost b.vhost) h in
    ap (λ (x : List ℕ). place x a.vhost) ((bytes_eq-Decides a.cluster b.cluster).0 t.0) ∙ ap (λ (y : List ℕ). place b.cluster y) ((bytes_eq-Decides a.vhost b.vhost).0 t.1)

pub bytes_self : (x : List ℕ) → bytes_eq x x ≡ true
bytes_self x = (bytes_eq-Decides x x).1 refl

pub same_self : (a : PlaceName) → same_place a a ≡ true
same_self a = rw (bytes_self a.cluster, bytes_self a.vhost) refl

pub same_no : (a b : PlaceName) → same_place a b ≡ false → b ≢ a
same_no a b h e = true≢false (sym (subst (λ (x : PlaceName). same_place a x ≡ true) (sym e) (same_self a)) ∙ h)

pub not_same : (a b : PlaceName) (t : Bool) → same_place a b ≡ t → b ≢ a → t ≡ false
not_same a b true e other = absurd (other (sym (same_yes a b e)))
not_same a b false e other = refl

no_more : (a b : Bool) → (a || b) ≡ false → (a ≡ false) × (b ≡ false)
no_more true b h = absurd cc
no_more false b h = (refl, h)

pub none_any : {X : Type 0} (p : X → Bool) (xs : List X) → list_any p xs ≡ false → All (λ x. p x ≡ false) xs
none_any p [] h = All-nil (λ x. p x ≡ false)
none_any p (x ∷ xs) h =
    let t = no_more (p x) (list_any p xs) h in
    All-cons (λ x. p x ≡ false) x xs t.0 (none_any p xs t.1)

pub elsewhere : (p : PlaceName) (es : List HopEntry) → list_any (is_from p) es ≡ false → All (λ e. e.place ≢ p) es
elsewhere p es h = λ k d lt. same_no p _ (none_any (is_from p) es h k d lt)

pub none_from : (p : PlaceName) (es : List HopEntry) → All (λ e. e.place ≢ p) es → list_any (is_from p) es ≡ false
none_from p es h = list_any_none (is_from p) es (λ k d lt. not_same p _ _ refl (h k d lt))

not_true : (b : Bool) → not b ≡ true → b ≡ false
not_true true h = absurd cc
not_true false h = refl

pub gate_yes : (limit : ℕ) (cluster vhost : List ℕ) (headers : Pairs) → gate_passes limit cluster vhost headers ≡ true → GatePasses limit cluster vhost headers
unfolding gate_passes
gate_yes limit cluster vhost headers h =
    let es = hop_entries headers in
    let t = both (nat_lt (length es) limit) (not (list_any (is_from (place cluster vhost)) es)) h in
    record { fewer = ltb-true _ _ t.0; elsewhere = elsewhere (place cluster vhost) es (not_true _ t.1) }

pub gate_back : (limit : ℕ) (cluster vhost : List ℕ) (headers : Pairs) → GatePasses limit cluster vhost headers → gate_passes limit cluster vhost headers ≡ true
unfolding gate_passes
gate_back limit cluster vhost headers h =
    rw (lt-ltb _ _ h.fewer, none_from (place cluster vhost) (hop_entries headers) h.elsewhere) refl
