-- The walk limit as a function is the greatest limit of a gate that is passed.
use Rattle.std.proofs.Common.{◌≡◌, ◌≢◌, ℕ, zero, suc, ◌<◌, ◌≤◌, inl, inr, Bool, true, false, cond, List, [], ◌∷◌, length, map, get_or, Option, Some, None, refl, ap, ◌∙◌, subst, arith}
use Rattle.std.specs.Prelude.{filter}
use Rattle.std.specs.List.{Contains}
use Rattle.std.specs.Option.{option_map_or}
use Rattle.std.specs.Str.{bytes_eq}
use Rattle.std.proofs.lemmas.Bool.{false≢true, and_parts, and_from, cases_lt, both_ways}
use Rattle.std.proofs.lemmas.Slice.Eq.{bytes_eq-Decides}
use Rattle.route_core.specs.declared.object.Sort.TheVariants as sorts
use Rattle.route_core.specs.declared.object.Node.{Node}
use Rattle.route_core.specs.declared.object.Node.TheVariants as nodes
use Rattle.route_core.specs.declared.binding.Binding.{Binding}
use Rattle.route_core.specs.Routing.{Routing}
use Rattle.route_core.specs.Walks.{Publish, exchange_node, IsReached, IsWalkLimit}
use Rattle.route_core.specs.Spreading.{is_among, gate_limit}
use Rattle.route_core.specs.Routes.{matches, stops, is_followed, limit_from, greatest, walk_limit}
use Rattle.route_core.proofs.StopLemmas.{among_all}
use Rattle.route_core.proofs.TakingLemmas.{matches_yes, matches_back}
use Rattle.route_core.proofs.RoundLemmas.{stops_are}

-- ---- the greatest over the bindings that pass a test

greatest_kept : (f : Binding → ℕ) (b : Binding) (bs : List Binding) (t : Bool) (n : ℕ) → (t ≡ true → f b ≤ n) → greatest (map f bs) ≤ n → greatest (map f (cond t (b ∷ bs) bs)) ≤ n
greatest_kept f b bs true n h rest = omega (arith, h refl, rest)
greatest_kept f b bs false n h rest = rest

none_greater : (f : Binding → ℕ) (test : Binding → Bool) (bs : List Binding) (n : ℕ) → ((b : Binding) → Contains bs b → test b ≡ true → f b ≤ n) → greatest (map f (filter test bs)) ≤ n
none_greater f test [] n h = omega arith
none_greater f test (b ∷ bs) n h =
    greatest_kept f b (filter test bs) (test b) n (λ e. h b (0, omega arith, refl) e) (none_greater f test bs n (λ x c e. h x (suc c.0, omega (arith, c.1), c.2) e))

here_within : (f : Binding → ℕ) (b : Binding) (bs : List Binding) (t : Bool) → t ≡ true → f b ≤ greatest (map f (cond t (b ∷ bs) bs))
here_within f b bs true e = omega arith
here_within f b bs false e = absurd (false≢true e)

there_within : (f : Binding → ℕ) (b : Binding) (bs : List Binding) (t : Bool) (n : ℕ) → n ≤ greatest (map f bs) → n ≤ greatest (map f (cond t (b ∷ bs) bs))
there_within f b bs true n h = omega (arith, h)
there_within f b bs false n h = h

one_within : (f : Binding → ℕ) (test : Binding → Bool) (bs : List Binding) (k : ℕ) (b : Binding) → k < length bs → get_or bs k b ≡ b → test b ≡ true → f b ≤ greatest (map f (filter test bs))
one_within f test [] k b lt e on = absurd (omega arith)
one_within f test (x ∷ bs) zero b lt e on =
    subst (λ (y : Binding). f y ≤ greatest (map f (filter test (x ∷ bs)))) e (here_within f x (filter test bs) (test x) (ap test e ∙ on))
one_within f test (x ∷ bs) (suc k) b lt e on =
    there_within f x (filter test bs) (test x) (f b) (one_within f test bs k b (omega arith) e on)

-- ---- the limit

abbrev over_followed : Routing → Publish → ℕ
over_followed r p = greatest (map (limit_from r.objects) (filter (is_followed r p (stops r p)) r.bindings))

passed_within : (r : Routing) (p : Publish) (n : ℕ) (b : Binding) (o : Option Node) → IsWalkLimit r p n → p.exchange ≢ [] → Contains r.bindings b → is_followed r p (stops r p) b ≡ true
    → exchange_node b.source r.objects ≡ o → option_map_or gate_limit o 0 ≤ n
passed_within r p n b None h named bound on is = omega arith
passed_within r p n b (Some (nodes.Queue number)) h named bound on is = omega arith
passed_within r p n b (Some (nodes.Exchange kind)) h named bound on is = omega arith
passed_within r p n b (Some (nodes.Gate limit cluster vhost)) h named bound on is =
    let t = and_parts (is_among (stops r p) sorts.Exchange b.source) (matches r.objects p b) on in
    h.greatest limit record {
      named = named;
      gate = b;
      there = among_all (IsReached r p) (stops r p) sorts.Exchange b.source (stops_are r p).sound t.0;
      bound = bound;
      matches = matches_yes r.objects p b t.1;
      cluster = cluster;
      vhost = vhost;
      is = is;
    }

limit_most : (r : Routing) (p : Publish) (n : ℕ) → IsWalkLimit r p n → p.exchange ≢ [] → over_followed r p ≤ n
limit_most r p n h named =
    none_greater (limit_from r.objects) (is_followed r p (stops r p)) r.bindings n (λ b c e. passed_within r p n b (exchange_node b.source r.objects) h named c e refl)

limit_least : (r : Routing) (p : Publish) (n : ℕ) → IsWalkLimit r p n → 0 < n → n ≤ over_followed r p
limit_least r p n h some =
    let g = h.some some in
    let reached : is_among (stops r p) sorts.Exchange g.gate.source ≡ true = (stops_are r p).whole sorts.Exchange g.gate.source g.there in
    let on : is_followed r p (stops r p) g.gate ≡ true = and_from (is_among (stops r p) sorts.Exchange g.gate.source) (matches r.objects p g.gate) reached (matches_back r.objects p g.gate g.matches) in
    let is : limit_from r.objects g.gate ≡ n = ap (λ (o : Option Node). option_map_or gate_limit o 0) g.is in
    omega (arith, is, one_within (limit_from r.objects) (is_followed r p (stops r p)) r.bindings g.bound.0 g.gate g.bound.1 g.bound.2 on)

limit_other : (r : Routing) (p : Publish) (n : ℕ) → IsWalkLimit r p n → p.exchange ≢ [] → n ≡ over_followed r p
limit_other r p n h named =
    elim (cases_lt 0 n) [
      | inl some ↦ omega (arith, limit_most r p n h named, limit_least r p n h some)
      | inr none ↦ omega (arith, limit_most r p n h named, none)
    ]

pub empty_is : (name : List ℕ) → length name ≡ 0 → name ≡ []
empty_is [] h = refl
empty_is (c ∷ name) h = absurd (omega arith)

limit_default : (r : Routing) (p : Publish) (n : ℕ) → IsWalkLimit r p n → p.exchange ≡ [] → n ≡ 0
limit_default r p n h d =
    elim (cases_lt 0 n) [
      | inl some ↦ absurd ((h.some some).named d)
      | inr none ↦ omega (arith, none)
    ]

limit_by : (r : Routing) (p : Publish) (n : ℕ) (t : Bool) → bytes_eq p.exchange [] ≡ t → IsWalkLimit r p n → n ≡ cond t 0 (over_followed r p)
limit_by r p n true e h = limit_default r p n h ((bytes_eq-Decides p.exchange []).0 e)
limit_by r p n false e h = limit_other r p n h (λ d. both_ways (bytes_eq p.exchange []) e ((bytes_eq-Decides p.exchange []).1 d))

pub limit_value : (r : Routing) (p : Publish) (n : ℕ) → IsWalkLimit r p n → n ≡ walk_limit r p
unfolding walk_limit
limit_value r p n h = limit_by r p n (bytes_eq p.exchange []) refl h
