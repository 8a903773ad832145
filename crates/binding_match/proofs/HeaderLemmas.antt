-- The tests of a headers binding, and what they decide.
use Rattle.std.proofs.Common.{◌≡◌, inl, inr, Bool, true, false, true≢false, ◌||◌, List, [], ◌∷◌, Option, Some, None, String, string_bytes, Global, refl, sym, ap, ◌∙◌}
use Rattle.field_tables.specs.Fields.{Field, void, Pairs, no_pairs, pair, first_of}
use Rattle.field_tables.specs.View.{pairs_of, field_view, pairs_view}
use Rattle.field_tables.specs.declared.value.FieldValue.{FieldValue}
use Rattle.binding_match.proofs.Bools.{either, or_true, none_missed, missed_none, some_hit, hit, hit_later, chosen, chosen_back}
use Rattle.binding_match.proofs.ValueLemmas.{value_yes, value_back}
use Rattle.binding_match.specs.Values.{same_value}
use Rattle.binding_match.specs.Headers.{is_compared, asks_any, is_void, Agrees, present, same, AllAgree, SomeAgrees, HeadersMatch, agrees, fits, misses, all_agree, some_agrees, headers_agree}

void_is : (v : Field) → is_void v ≡ true → v ≡ void
void_is void h = refl
void_is _ h = absurd (true≢false (sym h))

agrees_yes : (v : Field) (found : Option Field) → agrees v found ≡ true → Agrees v found
agrees_yes v None h = absurd (true≢false (sym h))
agrees_yes v (Some w) h =
    elim (either (is_void v) (same_value v w) h) [ inl e ↦ present w refl (void_is v e) | inr s ↦ same w refl (value_yes v w s) ]

agrees_back : (v : Field) (found : Option Field) → Agrees v found → agrees v found ≡ true
agrees_back v found (present w e s) = ap (λ (o : Option Field). agrees v o) e ∙ ap (λ (x : Field). is_void x || same_value v w) s
agrees_back v found (same w e s) = ap (λ (o : Option Field). agrees v o) e ∙ ap (λ (b : Bool). is_void v || b) (value_back v w s) ∙ or_true (is_void v)

all_yes : (args headers : Pairs) → all_agree args headers ≡ true → AllAgree args headers
unfolding all_agree
all_yes no_pairs headers h = tt
all_yes (pair name v args) headers h =
    let t = none_missed (is_compared name) (agrees v (first_of name headers)) (all_agree args headers) h in
    (λ e. agrees_yes v (first_of name headers) (t.0 e), all_yes args headers t.1)

all_back : (args headers : Pairs) → AllAgree args headers → all_agree args headers ≡ true
unfolding all_agree
all_back no_pairs headers h = refl
all_back (pair name v args) headers h =
    missed_none (is_compared name) (agrees v (first_of name headers)) (all_agree args headers) (λ e. agrees_back v (first_of name headers) (h.0 e)) (all_back args headers h.1)

some_yes : (args headers : Pairs) → some_agrees args headers ≡ true → SomeAgrees args headers
unfolding some_agrees
some_yes no_pairs headers h = absurd (true≢false (sym h))
some_yes (pair name v args) headers h =
    elim (some_hit (is_compared name) (agrees v (first_of name headers)) (some_agrees args headers) h)
    [ inl t ↦ inl (t.0, agrees_yes v (first_of name headers) t.1) | inr rest ↦ inr (some_yes args headers rest) ]

some_back : (args headers : Pairs) → SomeAgrees args headers → some_agrees args headers ≡ true
unfolding some_agrees
some_back no_pairs headers h = absurd h
some_back (pair name v args) headers (inl t) = hit (is_compared name) (agrees v (first_of name headers)) (some_agrees args headers) t.0 (agrees_back v (first_of name headers) t.1)
some_back (pair name v args) headers (inr rest) = hit_later (is_compared name) (agrees v (first_of name headers)) (some_agrees args headers) (some_back args headers rest)

pub headers_yes : (args headers : Pairs) → headers_agree args headers ≡ true → HeadersMatch args headers
headers_yes args headers h = chosen (asks_any args) (some_agrees args headers) (all_agree args headers) (some_yes args headers) (all_yes args headers) h

pub headers_back : (args headers : Pairs) → HeadersMatch args headers → headers_agree args headers ≡ true
headers_back args headers h = chosen_back (asks_any args) (some_agrees args headers) (all_agree args headers) (some_back args headers) (all_back args headers) h

-- ---- the arguments one after the other, as a loop goes over them

pub all_go : (ps qs : List (String Global × FieldValue)) (p : String Global × FieldValue) (headers : Pairs) → ps ≡ p ∷ qs → misses (string_bytes p.0) (field_view p.1) headers ≡ false
    → all_agree (pairs_of (pairs_view qs)) headers ≡ all_agree (pairs_of (pairs_view ps)) headers
unfolding all_agree
all_go ps qs p headers e h = rw (e, h) refl

pub all_stop : (ps qs : List (String Global × FieldValue)) (p : String Global × FieldValue) (headers : Pairs) → ps ≡ p ∷ qs → misses (string_bytes p.0) (field_view p.1) headers ≡ true
    → false ≡ all_agree (pairs_of (pairs_view ps)) headers
unfolding all_agree
all_stop ps qs p headers e h = rw (e, h) refl

pub all_end : (ps : List (String Global × FieldValue)) (headers : Pairs) → ps ≡ [] → true ≡ all_agree (pairs_of (pairs_view ps)) headers
unfolding all_agree
all_end ps headers e = rw e refl

pub some_go : (ps qs : List (String Global × FieldValue)) (p : String Global × FieldValue) (headers : Pairs) → ps ≡ p ∷ qs → fits (string_bytes p.0) (field_view p.1) headers ≡ false
    → some_agrees (pairs_of (pairs_view qs)) headers ≡ some_agrees (pairs_of (pairs_view ps)) headers
unfolding some_agrees
some_go ps qs p headers e h = rw (e, h) refl

pub some_stop : (ps qs : List (String Global × FieldValue)) (p : String Global × FieldValue) (headers : Pairs) → ps ≡ p ∷ qs → fits (string_bytes p.0) (field_view p.1) headers ≡ true
    → true ≡ some_agrees (pairs_of (pairs_view ps)) headers
unfolding some_agrees
some_stop ps qs p headers e h = rw (e, h) refl

pub some_end : (ps : List (String Global × FieldValue)) (headers : Pairs) → ps ≡ [] → false ≡ some_agrees (pairs_of (pairs_view ps)) headers
unfolding some_agrees
some_end ps headers e = rw e refl
