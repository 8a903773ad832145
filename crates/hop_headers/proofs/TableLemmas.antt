-- Tables of which one name was set, or set anew.
use Rattle.std.proofs.Common.{◌≡◌, ◌≢◌, ℕ, Bool, true, false, cond, not, List, [], ◌∷◌, ◌++◌, Option, Some, refl, sym, ap, ◌∙◌}
use Rattle.std.specs.Prelude.{filter}
use Rattle.std.specs.Str.{bytes_eq}
use Rattle.std.proofs.lemmas.Slice.Eq.{bytes_eq-Decides}
use Rattle.field_tables.specs.Fields.{Field, Pairs, no_pairs, pair, first_of}
use Rattle.field_tables.specs.View.{pairs_of}
use Rattle.hop_headers.specs.Hops.{named_values}
use Rattle.hop_headers.specs.Stamps.{set_first, with_header}
use Rattle.hop_headers.specs.Propagation.{is_other}
use Rattle.hop_headers.proofs.HopLemmas.{bytes_self}
use Rattle.hop_headers.proofs.Views.{listed}

-- different names don't pass the test
pub apart : (a b : List ℕ) (t : Bool) → bytes_eq a b ≡ t → a ≢ b → t ≡ false
apart a b true e other = absurd (other ((bytes_eq-Decides a b).0 e))
apart a b false e other = refl

pub pairs_of-named_values : (ps : Pairs) → pairs_of (named_values ps) ≡ ps
pairs_of-named_values no_pairs = refl
pairs_of-named_values (pair name v ps) = ap (λ (qs : Pairs). pair name v qs) (pairs_of-named_values ps)

set_step : (name : List ℕ) (v : Field) (p : List ℕ × Field) (ps : List (List ℕ × Field)) (t : Bool) → bytes_eq p.0 name ≡ t
    → first_of name (pairs_of (set_first name v ps)) ≡ Some v → first_of name (pairs_of (cond t ((name, v) ∷ ps) (p ∷ set_first name v ps))) ≡ Some v
set_step name v p ps true e h = rw (bytes_self name) refl
set_step name v p ps false e h = rw e h

pub first_set : (name : List ℕ) (v : Field) (ps : List (List ℕ × Field)) → first_of name (pairs_of (set_first name v ps)) ≡ Some v
first_set name v [] = rw (bytes_self name) refl
first_set name v (p ∷ ps) = set_step name v p ps (bytes_eq p.0 name) refl (first_set name v ps)

other_step : (name key : List ℕ) (v : Field) (p : List ℕ × Field) (ps : List (List ℕ × Field)) (t : Bool) → bytes_eq p.0 name ≡ t → key ≢ name
    → first_of key (pairs_of (set_first name v ps)) ≡ first_of key (pairs_of ps)
    → first_of key (pairs_of (cond t ((name, v) ∷ ps) (p ∷ set_first name v ps))) ≡ first_of key (pairs_of (p ∷ ps))
other_step name key v p ps true e other h =
    let same : p.0 ≡ name = (bytes_eq-Decides p.0 name).0 e in
    rw (same, apart name key _ refl (λ q. other (sym q))) refl
other_step name key v p ps false e other h = rw h refl

pub other_set : (name key : List ℕ) (v : Field) (ps : List (List ℕ × Field)) → key ≢ name → first_of key (pairs_of (set_first name v ps)) ≡ first_of key (pairs_of ps)
other_set name key v [] other = rw (apart name key _ refl (λ q. other (sym q))) refl
other_set name key v (p ∷ ps) other = other_step name key v p ps (bytes_eq p.0 name) refl other (other_set name key v ps other)

pub first_with : (name : List ℕ) (v : Field) (headers : Pairs) → first_of name (with_header name v headers) ≡ Some v
unfolding with_header
first_with name v headers = first_set name v (named_values headers)

pub other_with : (name key : List ℕ) (v : Field) (headers : Pairs) → key ≢ name → first_of key (with_header name v headers) ≡ first_of key headers
unfolding with_header
other_with name key v headers other = other_set name key v (named_values headers) other ∙ ap (first_of key) (pairs_of-named_values headers)

-- the pairs of other names stay, in their order
order_step : (name : List ℕ) (v : Field) (p : List ℕ × Field) (ps : List (List ℕ × Field)) (t : Bool) → bytes_eq p.0 name ≡ t
    → filter (is_other name) (set_first name v ps) ≡ filter (is_other name) ps
    → filter (is_other name) (cond t ((name, v) ∷ ps) (p ∷ set_first name v ps)) ≡ filter (is_other name) (p ∷ ps)
order_step name v p ps true e h = rw (bytes_self name, e) refl
order_step name v p ps false e h = rw (e, h) refl

pub order_set : (name : List ℕ) (v : Field) (ps : List (List ℕ × Field)) → filter (is_other name) (set_first name v ps) ≡ filter (is_other name) ps
order_set name v [] = rw (bytes_self name) refl
order_set name v (p ∷ ps) = order_step name v p ps (bytes_eq p.0 name) refl (order_set name v ps)

pub order_with : (name : List ℕ) (v : Field) (headers : Pairs) → filter (is_other name) (named_values (with_header name v headers)) ≡ filter (is_other name) (named_values headers)
unfolding with_header
order_with name v headers = ap (filter (is_other name)) (listed (set_first name v (named_values headers))) ∙ order_set name v (named_values headers)

-- a name put last, where it was taken out before
last_step : (name : List ℕ) (p : List ℕ × Field) (ps qs : List (List ℕ × Field)) (t : Bool) (o : Option Field) → bytes_eq p.0 name ≡ t
    → first_of name (pairs_of (filter (is_other name) ps ++ qs)) ≡ o → first_of name (pairs_of (cond (not t) (p ∷ filter (is_other name) ps) (filter (is_other name) ps) ++ qs)) ≡ o
last_step name p ps qs true o e h = h
last_step name p ps qs false o e h = rw e h

pub first_last : (name : List ℕ) (v : Field) (ps : List (List ℕ × Field)) → first_of name (pairs_of (filter (is_other name) ps ++ (name, v) ∷ [])) ≡ Some v
first_last name v [] = rw (bytes_self name) refl
first_last name v (p ∷ ps) = last_step name p ps ((name, v) ∷ []) (bytes_eq p.0 name) (Some v) refl (first_last name v ps)

keep_step : (name key : List ℕ) (p : List ℕ × Field) (ps qs : List (List ℕ × Field)) (t : Bool) → bytes_eq p.0 name ≡ t → key ≢ name
    → first_of key (pairs_of (filter (is_other name) ps ++ qs)) ≡ first_of key (pairs_of ps)
    → first_of key (pairs_of (cond (not t) (p ∷ filter (is_other name) ps) (filter (is_other name) ps) ++ qs)) ≡ first_of key (pairs_of (p ∷ ps))
keep_step name key p ps qs true e other h =
    let same : p.0 ≡ name = (bytes_eq-Decides p.0 name).0 e in
    h ∙ sym (rw (same, apart name key _ refl (λ q. other (sym q))) refl)
keep_step name key p ps qs false e other h = rw h refl

pub other_last : (name key : List ℕ) (v : Field) (ps : List (List ℕ × Field)) → key ≢ name → first_of key (pairs_of (filter (is_other name) ps ++ (name, v) ∷ [])) ≡ first_of key (pairs_of ps)
other_last name key v [] other = rw (apart name key _ refl (λ q. other (sym q))) refl
other_last name key v (p ∷ ps) other = keep_step name key p ps ((name, v) ∷ []) (bytes_eq p.0 name) refl other (other_last name key v ps other)
