-- The rounds of the search are the walks.
use Rattle.std.proofs.Common.{◌≡◌, ℕ, zero, suc, ◌+◌, ◌<◌, ◌≤◌, ◌⊎◌, inl, inr, Bool, true, false, cond, not, ◌&&◌, List, [], ◌∷◌, ◌++◌, length, map, get_or, refl, ap, sym, ◌∙◌, subst, arith}
use Rattle.std.specs.Prelude.{All, filter}
use Rattle.std.specs.List.{list_any, Contains}
use Rattle.std.specs.Str.{bytes_eq}
use Rattle.std.proofs.lemmas.Bool.{true≢false, false≢true, or_cases, or_left, or_right, and_parts, and_from, not-true, not_from_false, not_from_true, both_ways, cases_Bool, cond-true, cond-false, false_from_ne_true}
use Rattle.std.proofs.lemmas.List.Elements.{All-nil, All-cons, All-append}
use Rattle.std.proofs.lemmas.List.Filters.{length-filter_both}
use Rattle.std.proofs.lemmas.List.Folds.{list_any-append, list_any_at, Any-from_list_any}
use Rattle.std.proofs.lemmas.Slice.Eq.{bytes_eq-Decides}
use Rattle.route_core.specs.declared.object.Sort.{Sort}
use Rattle.route_core.specs.declared.object.Sort.TheVariants as sorts
use Rattle.route_core.specs.declared.binding.Binding.{Binding}
use Rattle.route_core.specs.Routing.{Routing}
use Rattle.route_core.specs.Walks.{Publish, Stop, stop, exchange_stop, source_of, dest_of, IsWalk, IsReached, Reaches, by_name, by_walk}
use Rattle.client_rules.specs.Names.{is_reserved}
use Rattle.route_core.specs.Spreading.{is_at, is_among, left, AreStops}
use Rattle.route_core.specs.Routes.{matches, is_followed, followed_from, stops_after, stops, is_reached}
use Rattle.route_core.proofs.Lists.{filter_less}
use Rattle.route_core.proofs.StopLemmas.{among_all, at_self, reached_more}
use Rattle.route_core.proofs.TakingLemmas.{matches_yes, matches_back}

-- ---- where the bindings lead that pass a test

abbrev dests : (Binding → Bool) → List Binding → List Stop
dests test bindings = map dest_of (filter test bindings)

dest_kept : (P : Stop → Type 0) (b : Binding) (bs : List Binding) (t : Bool) → (t ≡ true → P (dest_of b)) → All P (map dest_of bs) → All P (map dest_of (cond t (b ∷ bs) bs))
dest_kept P b bs true h rest = All-cons P (dest_of b) (map dest_of bs) (h refl) rest
dest_kept P b bs false h rest = rest

dests_all : (P : Stop → Type 0) (test : Binding → Bool) (bindings : List Binding) → ((b : Binding) → Contains bindings b → test b ≡ true → P (dest_of b)) → All P (dests test bindings)
dests_all P test [] h = All-nil P
dests_all P test (b ∷ bindings) h =
    dest_kept P b (filter test bindings) (test b) (λ e. h b (0, omega arith, refl) e) (dests_all P test bindings (λ x c e. h x (suc c.0, omega (arith, c.1), c.2) e))

dest_here : (b : Binding) (bs : List Binding) (t : Bool) → t ≡ true → is_among (map dest_of (cond t (b ∷ bs) bs)) b.sort b.dest ≡ true
dest_here b bs true e = or_left (is_at b.sort b.dest (dest_of b)) (is_among (map dest_of bs) b.sort b.dest) (at_self b.sort b.dest)
dest_here b bs false e = absurd (false≢true e)

dest_there : (b : Binding) (bs : List Binding) (t : Bool) (sort : Sort) (name : List ℕ) → is_among (map dest_of bs) sort name ≡ true → is_among (map dest_of (cond t (b ∷ bs) bs)) sort name ≡ true
dest_there b bs true sort name h = or_right (is_at sort name (dest_of b)) (is_among (map dest_of bs) sort name) h
dest_there b bs false sort name h = h

dests_at : (test : Binding → Bool) (bindings : List Binding) (k : ℕ) (b : Binding) → k < length bindings → get_or bindings k b ≡ b → test b ≡ true → is_among (dests test bindings) b.sort b.dest ≡ true
dests_at test [] k b lt e on = absurd (omega arith)
dests_at test (x ∷ bindings) zero b lt e on =
    subst (λ (y : Binding). is_among (dests test (x ∷ bindings)) y.sort y.dest ≡ true) e (dest_here x (filter test bindings) (test x) (ap test e ∙ on))
dests_at test (x ∷ bindings) (suc k) b lt e on =
    dest_there x (filter test bindings) (test x) b.sort b.dest (dests_at test bindings k b (omega arith) e on)

-- ---- one round

-- every binding that is followed leads to what is reached already
record IsClosed (r : Routing) (p : Publish) (stops : List Stop) : Type 0 where
  closed : (b : Binding) → Contains r.bindings b → is_followed r p stops b ≡ true → is_among stops b.sort b.dest ≡ true

abbrev on_from : Routing → Publish → List Stop → List Stop
on_from r p ss = ss ++ followed_from r p ss

stays : (r : Routing) (p : Publish) (ss : List Stop) (sort : Sort) (name : List ℕ) → is_among ss sort name ≡ true → is_among (on_from r p ss) sort name ≡ true
stays r p ss sort name h =
    list_any-append (is_at sort name) ss (followed_from r p ss) ∙ or_left (is_among ss sort name) (is_among (followed_from r p ss) sort name) h

comes : (r : Routing) (p : Publish) (ss : List Stop) (b : Binding) → Contains r.bindings b → is_followed r p ss b ≡ true → is_among (on_from r p ss) b.sort b.dest ≡ true
comes r p ss b c h =
    list_any-append (is_at b.sort b.dest) ss (followed_from r p ss)
    ∙ or_right (is_among ss b.sort b.dest) (is_among (followed_from r p ss) b.sort b.dest) (dests_at (is_followed r p ss) r.bindings c.0 b c.1 c.2 h)

round_sound : (r : Routing) (p : Publish) (ss : List Stop) → All (IsReached r p) ss → All (IsReached r p) (on_from r p ss)
round_sound r p ss h =
    All-append (IsReached r p) ss (followed_from r p ss) h
    (dests_all (IsReached r p) (is_followed r p ss) r.bindings
    (λ b c e. let t = and_parts (is_among ss sorts.Exchange b.source) (matches r.objects p b) e in
    reached_more r p (source_of b) b (among_all (IsReached r p) ss sorts.Exchange b.source h t.0) refl c (matches_yes r.objects p b t.1)))

-- where nothing further is reached, what is reached stays the same
nothing_new : (r : Routing) (p : Publish) (ss : List Stop) → IsClosed r p ss → (sort : Sort) (name : List ℕ) → is_among (on_from r p ss) sort name ≡ true → is_among ss sort name ≡ true
nothing_new r p ss h sort name e =
    elim (or_cases (is_among ss sort name) (is_among (followed_from r p ss) sort name) (sym (list_any-append (is_at sort name) ss (followed_from r p ss)) ∙ e)) [
      | inl old ↦ old
      | inr new ↦ among_all (λ (s : Stop). is_among ss s.sort s.name ≡ true) (followed_from r p ss) sort name
          (dests_all (λ (s : Stop). is_among ss s.sort s.name ≡ true) (is_followed r p ss) r.bindings h.closed) new
    ]

closed_more : (r : Routing) (p : Publish) (ss : List Stop) → IsClosed r p ss → IsClosed r p (on_from r p ss)
closed_more r p ss h = record {
  closed = λ b c e.
      let t = and_parts (is_among (on_from r p ss) sorts.Exchange b.source) (matches r.objects p b) e in
      let there = nothing_new r p ss h sorts.Exchange b.source t.0 in
      stays r p ss b.sort b.dest (h.closed b c (and_from (is_among ss sorts.Exchange b.source) (matches r.objects p b) there t.1));
}

-- ---- a round that reaches something new leaves fewer bindings

abbrev is_new : Routing → Publish → List Stop → Binding → Bool
is_new r p ss b = is_followed r p ss b && not (is_among ss b.sort b.dest)

-- among false, if it isn't true
old_from : (a b : Bool) → (a && not b) ≡ false → a ≡ true → b ≡ true
old_from a true h e = refl
old_from a false h e = absurd (true≢false (sym (and_from a true e refl) ∙ h))

none_new : (r : Routing) (p : Publish) (ss : List Stop) → list_any (is_new r p ss) r.bindings ≡ false → IsClosed r p ss
none_new r p ss h = record {
  closed = λ b c e. old_from (is_followed r p ss b) (is_among ss b.sort b.dest)
      (false_from_ne_true (is_new r p ss b) (λ new. both_ways (list_any (is_new r p ss) r.bindings) h (list_any_at (is_new r p ss) r.bindings c.0 b c.1 (ap (is_new r p ss) c.2 ∙ new)))) e;
}

still_left : (r : Routing) (p : Publish) (ss : List Stop) (b : Binding) → not (is_among (on_from r p ss) b.sort b.dest) ≡ true → not (is_among ss b.sort b.dest) ≡ true
still_left r p ss b h =
    not_from_false (is_among ss b.sort b.dest) (false_from_ne_true (is_among ss b.sort b.dest)
    (λ e. both_ways (is_among (on_from r p ss) b.sort b.dest) (not-true (is_among (on_from r p ss) b.sort b.dest) h) (stays r p ss b.sort b.dest e)))

some_new : (r : Routing) (p : Publish) (ss : List Stop) → list_any (is_new r p ss) r.bindings ≡ true → left (on_from r p ss) r.bindings + 1 ≤ left ss r.bindings
some_new r p ss h =
    let a = Any-from_list_any (is_new r p ss) r.bindings h in
    let t = and_parts (is_followed r p ss a.1) (not (is_among ss a.1.sort a.1.dest)) a.4 in
    filter_less (λ (x : Binding). not (is_among (on_from r p ss) x.sort x.dest)) (λ (x : Binding). not (is_among ss x.sort x.dest)) (λ x e. still_left r p ss x e) r.bindings a.1 (a.0, a.2, a.3)
    (not_from_true (is_among (on_from r p ss) a.1.sort a.1.dest) (comes r p ss a.1 (a.0, a.2, a.3) t.0)) t.1

-- ---- the rounds

after_none : (r : Routing) (p : Publish) → stops_after r p zero ≡ exchange_stop p.exchange ∷ []
unfolding stops_after
after_none r p = refl

after_more : (r : Routing) (p : Publish) (n : ℕ) → stops_after r p (suc n) ≡ on_from r p (stops_after r p n)
unfolding stops_after
after_more r p n = refl

rounds_sound : (r : Routing) (p : Publish) (n : ℕ) → All (IsReached r p) (stops_after r p n)
rounds_sound r p zero =
    subst (λ (ss : List Stop). All (IsReached r p) ss) (sym (after_none r p)) (All-cons (IsReached r p) (exchange_stop p.exchange) [] ([], refl) (All-nil (IsReached r p)))
rounds_sound r p (suc n) =
    subst (λ (ss : List Stop). All (IsReached r p) ss) (sym (after_more r p n)) (round_sound r p (stops_after r p n) (rounds_sound r p n))

rounds_start : (r : Routing) (p : Publish) (n : ℕ) → is_among (stops_after r p n) sorts.Exchange p.exchange ≡ true
rounds_start r p zero =
    ap (λ (ss : List Stop). is_among ss sorts.Exchange p.exchange) (after_none r p) ∙ or_left (is_at sorts.Exchange p.exchange (exchange_stop p.exchange)) false (at_self sorts.Exchange p.exchange)
rounds_start r p (suc n) =
    ap (λ (ss : List Stop). is_among ss sorts.Exchange p.exchange) (after_more r p n) ∙ stays r p (stops_after r p n) sorts.Exchange p.exchange (rounds_start r p n)

-- nothing further is reached, or in each round the bindings became fewer that lead on
abbrev IsOn : Routing → Publish → ℕ → List Stop → Type 0
IsOn r p n ss = IsClosed r p ss ⊎ (left ss r.bindings + n ≤ length r.bindings)

round_on : (r : Routing) (p : Publish) (n : ℕ) (ss : List Stop) → IsOn r p n ss → IsOn r p (suc n) (on_from r p ss)
round_on r p n ss (inl h) = inl (closed_more r p ss h)
round_on r p n ss (inr h) =
    elim (cases_Bool (list_any (is_new r p ss) r.bindings)) [
      | inl some ↦ inr (omega (arith, some_new r p ss some, h))
      | inr none ↦ inl (closed_more r p ss (none_new r p ss none))
    ]

rounds_on : (r : Routing) (p : Publish) (n : ℕ) → IsOn r p n (stops_after r p n)
rounds_on r p zero =
    inr (omega (arith, length-filter_both (λ (b : Binding). not (is_among (stops_after r p zero) b.sort b.dest)) (λ (b : Binding). not (not (is_among (stops_after r p zero) b.sort b.dest))) (λ _. refl) r.bindings))
rounds_on r p (suc n) = subst (λ (ss : List Stop). IsOn r p (suc n) ss) (sym (after_more r p n)) (round_on r p n (stops_after r p n) (rounds_on r p n))

-- where no binding is left, nothing further is reached
none_left : (r : Routing) (p : Publish) (ss : List Stop) → left ss r.bindings ≤ 0 → IsClosed r p ss
none_left r p ss h = record {
  closed = λ b c e. elim (cases_Bool (is_among ss b.sort b.dest)) [
    | inl there ↦ there
    | inr not_there ↦ absurd (omega (arith, h, filter_less (λ (x : Binding). false) (λ (x : Binding). not (is_among ss x.sort x.dest)) (λ x f. absurd (false≢true f)) r.bindings b c refl (not_from_false (is_among ss b.sort b.dest) not_there)))
  ];
}

rounds_end : (r : Routing) (p : Publish) → IsClosed r p (stops r p)
rounds_end r p =
    elim (rounds_on r p (length r.bindings)) [
      | inl h ↦ h
      | inr h ↦ none_left r p (stops r p) (omega (arith, h))
    ]

walk_in : (r : Routing) (p : Publish) (ss : List Stop) → IsClosed r p ss → (walk : List Binding) (at to : Stop) → is_among ss at.sort at.name ≡ true → IsWalk r p at walk to → is_among ss to.sort to.name ≡ true
walk_in r p ss h [] at to there w = subst (λ (s : Stop). is_among ss s.sort s.name ≡ true) w there
walk_in r p ss h (b ∷ walk) at to there w =
    let here = subst (λ (s : Stop). is_among ss s.sort s.name ≡ true) w.0 there in
    walk_in r p ss h walk (dest_of b) to (h.closed b w.1 (and_from (is_among ss sorts.Exchange b.source) (matches r.objects p b) here (matches_back r.objects p b w.2))) w.3

pub stops_are : (r : Routing) (p : Publish) → AreStops r p (stops r p)
stops_are r p = record {
  sound = rounds_sound r p (length r.bindings);
  whole = λ sort name reached. walk_in r p (stops r p) (rounds_end r p) reached.0 (exchange_stop p.exchange) (stop sort name) (rounds_start r p (length r.bindings)) reached.1;
}

-- ---- the queues that are reached

other_yes : (r : Routing) (p : Publish) (name : List ℕ) (t : Bool) → bytes_eq p.exchange [] ≡ t → cond t (bytes_eq p.key name && not (is_reserved name)) (is_among (stops r p) sorts.Queue name) ≡ true → Reaches r p name
other_yes r p name true e h =
    let t = and_parts (bytes_eq p.key name) (not (is_reserved name)) h in
    by_name ((bytes_eq-Decides p.exchange []).0 e) ((bytes_eq-Decides p.key name).0 t.0) (not-true (is_reserved name) t.1)
other_yes r p name false e h =
    by_walk (λ d. both_ways (bytes_eq p.exchange []) e ((bytes_eq-Decides p.exchange []).1 d)) (among_all (IsReached r p) (stops r p) sorts.Queue name (stops_are r p).sound h)

pub reached_yes : (r : Routing) (p : Publish) (name : List ℕ) → is_reached r p name ≡ true → Reaches r p name
reached_yes r p name h = other_yes r p name (bytes_eq p.exchange []) refl h

pub reached_back : (r : Routing) (p : Publish) (name : List ℕ) → Reaches r p name → is_reached r p name ≡ true
reached_back r p name (by_name d key off) =
    cond-true (bytes_eq p.exchange []) (bytes_eq p.key name && not (is_reserved name)) (is_among (stops r p) sorts.Queue name) ((bytes_eq-Decides p.exchange []).1 d)
    ∙ and_from (bytes_eq p.key name) (not (is_reserved name)) ((bytes_eq-Decides p.key name).1 key) (not_from_false (is_reserved name) off)
reached_back r p name (by_walk other reached) =
    cond-false (bytes_eq p.exchange []) (bytes_eq p.key name && not (is_reserved name)) (is_among (stops r p) sorts.Queue name)
    (false_from_ne_true (bytes_eq p.exchange []) (λ e. other ((bytes_eq-Decides p.exchange []).0 e)))
    ∙ (stops_are r p).whole sorts.Queue name reached
