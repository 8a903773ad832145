-- From what is reached to the routes of a message.
use Rattle.std.proofs.Common.{◌≡◌, ◌≢◌, ℕ, ◌<◌, ◌≤◌, ◌++◌, inl, inr, Bool, true, false, cond, not, ◌&&◌, List, [], ◌∷◌, Option, Some, None, get_or, refl, ap, sym, ◌∙◌, subst, arith}
use Rattle.std.specs.Prelude.{All, nat_lt, max}
use Rattle.std.specs.List.{Contains, Any, AllPairs, filter_map, list_any}
use Rattle.std.proofs.lemmas.Bool.{true≢false, false≢true, and_parts, ltb-true, cases_lt}
use Rattle.std.proofs.lemmas.List.Elements.{All-nil, All-push, All-weaker, All-contains, All-contains_itself}
use Rattle.std.proofs.lemmas.List.{get_or_default}
use Rattle.std.proofs.lemmas.List.Folds.{list_any_at}
use Rattle.std.proofs.lemmas.Slice.Eq.{bytes_eq-Decides}
use Rattle.route_core.specs.declared.object.Sort.TheVariants as sorts
use Rattle.route_core.specs.declared.object.Node.{Node}
use Rattle.route_core.specs.declared.object.Node.TheVariants as nodes
use Rattle.route_core.specs.declared.object.Object.{Object}
use Rattle.route_core.specs.declared.binding.Binding.{Binding}
use Rattle.route_core.specs.Bindings.{leaves}
use Rattle.route_core.specs.Objects.{sort_of, number_of, is_named, is_after, rises}
use Rattle.route_core.specs.Routing.{Routing, object_named}
use Rattle.route_core.specs.Walks.{Publish, Stop, exchange_stop, queue_stop, source_of, exchange_node, TakesFrom, Matches, IsReached, Reaches, by_name, by_walk, IsQueue, AreRoutes, IsWalkLimit}
use Rattle.client_rules.specs.Names.{is_reserved}
use Rattle.route_core.specs.Spreading.{is_among, is_at, exchange_of, AreStops, number_at, GateAt, IsGate, IsOver, IsLimitFrom, IsLimitAt}
use Rattle.route_core.proofs.Lists.{All-filter_map, Contains-filter_map, rising-filter_map}
use Rattle.route_core.proofs.StopLemmas.{among_all, among_last, at_self, exchange_is, stop_is}

-- ---- an object that has a number is a queue, and is reached

record Numbered (stops : List Stop) (o : Object) (n : ℕ) : Type 0 where
  pub is : o ≡ object_named o.name (nodes.Queue n)
  pub reached : is_among stops sorts.Queue o.name ≡ true

number_some : (name : List ℕ) (node : Node) (n : ℕ) → number_of node ≡ Some n → node ≡ nodes.Queue n
number_some name (nodes.Queue number) n e = let f : number ≡ n = cc in ap nodes.Queue f
number_some name (nodes.Exchange kind) n e = cc
number_some name (nodes.Gate limit cluster vhost) n e = cc

chosen : (b : Bool) (o : Option ℕ) (n : ℕ) → cond b o None ≡ Some n → (b ≡ true) × (o ≡ Some n)
chosen true o n e = (refl, e)
chosen false o n e = cc

numbered : (stops : List Stop) (o : Object) (n : ℕ) → number_at stops o ≡ Some n → Numbered stops o n
numbered stops o n e =
    let t = chosen (is_among stops (sort_of o.node) o.name) (number_of o.node) n e in
    let f = number_some o.name o.node n t.1 in
    record {
      is = ap (λ (node : Node). object_named o.name node) f;
      reached = subst (λ (node : Node). is_among stops (sort_of node) o.name ≡ true) f t.0;
    }

number_given : (stops : List Stop) (name : List ℕ) (n : ℕ) → is_among stops sorts.Queue name ≡ true → number_at stops (object_named name (nodes.Queue n)) ≡ Some n
number_given stops name n h = ap (λ b. cond b (Some n) None) h

numbers_rise : (stops : List Stop) (x y : Object) (m n : ℕ) → is_after x y ≡ true → number_at stops x ≡ Some m → number_at stops y ≡ Some n → m < n
numbers_rise stops x y m n after e f =
    let a = (chosen (is_among stops (sort_of x.node) x.name) (number_of x.node) m e).1 in
    let b = (chosen (is_among stops (sort_of y.node) y.name) (number_of y.node) n f).1 in
    let t = (and_parts (not (is_named (sort_of y.node) y.name x)) (rises (number_of x.node) (number_of y.node)) after).1 in
    ltb-true m n (ap (λ o. rises o (Some n)) (sym a) ∙ ap (λ o. rises (number_of x.node) o) (sym b) ∙ t)

-- ---- the routes

pub routes_from : (r : Routing) (p : Publish) (stops : List Stop) → AllPairs (λ earlier later. is_after earlier later ≡ true) r.objects → ((name : List ℕ) → is_among stops sorts.Queue name ≡ true → Reaches r p name) → ((name : List ℕ) → Reaches r p name → is_among stops sorts.Queue name ≡ true) → AreRoutes r p (filter_map (number_at stops) r.objects)
routes_from r p stops order sound whole = record {
  reached = All-filter_map (λ n. (name : List ℕ) × IsQueue r name n × Reaches r p name) (number_at stops) r.objects
      (All-weaker (Contains r.objects) (λ o. (n : ℕ) → number_at stops o ≡ Some n → (name : List ℕ) × IsQueue r name n × Reaches r p name)
      (λ o c n e. let q = numbered stops o n e in (o.name, subst (λ (x : Object). Contains r.objects x) q.is c, sound o.name q.reached))
      r.objects (All-contains_itself r.objects));
  whole = λ name n is reached. Contains-filter_map (number_at stops) r.objects (object_named name (nodes.Queue n)) n is (number_given stops name n (whole name reached));
  rising = rising-filter_map (λ earlier later. is_after earlier later ≡ true) (number_at stops) (numbers_rise stops) r.objects order;
}

pub walked : (r : Routing) (p : Publish) (stops : List Stop) → p.exchange ≢ [] → AreStops r p stops → (name : List ℕ) → Reaches r p name → is_among stops sorts.Queue name ≡ true
walked r p stops other h name (by_name e k f) = absurd (other e)
walked r p stops other h name (by_walk e reached) = h.whole sorts.Queue name reached

pub routes_walked : (r : Routing) (p : Publish) (stops : List Stop) → AllPairs (λ earlier later. is_after earlier later ≡ true) r.objects → p.exchange ≢ [] → AreStops r p stops → AreRoutes r p (filter_map (number_at stops) r.objects)
routes_walked r p stops order other h =
    routes_from r p stops order
    (λ name t. by_walk other (among_all (IsReached r p) stops sorts.Queue name h.sound t))
    (walked r p stops other h)

-- the default exchange
abbrev pub named_stops : Publish → List Stop
named_stops p = cond (is_reserved p.key) [] (queue_stop p.key ∷ [])

pub named_sound : (r : Routing) (p : Publish) (b : Bool) → is_reserved p.key ≡ b → p.exchange ≡ [] → (name : List ℕ) → is_among (cond b [] (queue_stop p.key ∷ [])) sorts.Queue name ≡ true → Reaches r p name
named_sound r p true e d name h = absurd (false≢true h)
named_sound r p false e d name h =
    let same : queue_stop p.key ≡ queue_stop name = stop_is p.key name h in
    let key : p.key ≡ name = ap (λ (s : Stop). s.name) same in
    by_name d key (subst (λ (n : List ℕ). is_reserved n ≡ false) key e)

pub named_whole : (r : Routing) (p : Publish) (b : Bool) → is_reserved p.key ≡ b → p.exchange ≡ [] → (name : List ℕ) → Reaches r p name → is_among (cond b [] (queue_stop p.key ∷ [])) sorts.Queue name ≡ true
named_whole r p b e d name (by_walk other reached) = absurd (other d)
named_whole r p true e d name (by_name d' key off) =
    absurd (true≢false (sym e ∙ ap is_reserved key ∙ off))
named_whole r p false e d name (by_name d' key off) =
    subst (λ (n : List ℕ). is_among (queue_stop p.key ∷ []) sorts.Queue n ≡ true) key (among_last [] sorts.Queue p.key)

pub routes_named : (r : Routing) (p : Publish) → AllPairs (λ earlier later. is_after earlier later ≡ true) r.objects → p.exchange ≡ [] → AreRoutes r p (filter_map (number_at (named_stops p)) r.objects)
routes_named r p order d =
    routes_from r p (named_stops p) order (named_sound r p (is_reserved p.key) refl d) (named_whole r p (is_reserved p.key) refl d)

-- ---- the limit

-- ---- a gate is passed over one of its bindings where it is over any

pub over_yes : (objects : List Object) (p : Publish) (bindings : List Binding) (name : List ℕ) (node : Node) (b : Binding) → exchange_node name objects ≡ Some node → Contains bindings b → b.source ≡ name → TakesFrom node p b → Any (IsOver objects p name) bindings
over_yes objects p bindings name node b is c e takes =
    (c.0, b, c.1, c.2, record { leaves = e; matches = record { node = node; stands = ap (λ n. exchange_node n objects) e ∙ is; takes = takes } })

abbrev pub NoneOver : List Object → Publish → List Binding → List ℕ → Type 0
NoneOver objects p bindings name = All (λ b. IsOver objects p name b → ⊥) bindings

pub over_nowhere : (objects : List Object) (p : Publish) (bindings : List Binding) (name : List ℕ) (limit : ℕ) → exchange_node name objects ≡ None → IsGate objects name limit → NoneOver objects p bindings name
over_nowhere objects p bindings name limit e gate = λ k d lt over.
    let f : Some (nodes.Gate limit gate.cluster gate.vhost) ≡ None = sym gate.is ∙ e in absurd cc

pub over_empty : (objects : List Object) (p : Publish) (bindings : List Binding) (name : List ℕ) → list_any (leaves name) bindings ≡ false → NoneOver objects p bindings name
over_empty objects p bindings name e = λ k d lt over.
    false≢true (sym e ∙ list_any_at (leaves name) bindings k d lt ((bytes_eq-Decides (get_or bindings k d).source name).1 over.leaves))

some_is : (x y : Node) → Some x ≡ Some y → x ≡ y
some_is x y e = cc

pub over_no : (objects : List Object) (p : Publish) (bindings : List Binding) (name : List ℕ) (node : Node) (b : Binding) (limit : ℕ) → exchange_node name objects ≡ Some node → (TakesFrom node p b → ⊥) → IsGate objects name limit → NoneOver objects p bindings name
over_no objects p bindings name node b limit is off gate = λ k d lt over.
    let x = get_or bindings k d in
    let m = over.matches in
    let here : m.node ≡ nodes.Gate limit gate.cluster gate.vhost = some_is _ _ (sym m.stands ∙ ap (λ n. exchange_node n objects) over.leaves ∙ gate.is) in
    let there : node ≡ nodes.Gate limit gate.cluster gate.vhost = some_is _ _ (sym is ∙ gate.is) in
    let passes : TakesFrom (nodes.Gate limit gate.cluster gate.vhost) p x = subst (λ (n : Node). TakesFrom n p x) here m.takes in
    off (subst (λ (n : Node). TakesFrom n p b) (sym there) passes)

-- the limit of an exchange by its name
pub from_gate : (objects : List Object) (p : Publish) (bindings : List Binding) (name : List ℕ) (limit : ℕ) → (0 < limit → IsGate objects name limit) → ((other : ℕ) → IsGate objects name other → other ≤ limit) → Any (IsOver objects p name) bindings → IsLimitFrom objects p bindings name limit
from_gate objects p bindings name limit gate most over = record {
  gate = gate;
  some = λ _. over;
  greatest = λ other g k d lt _. most other g;
}

pub from_none : (objects : List Object) (p : Publish) (bindings : List Binding) (name : List ℕ) → ((other : ℕ) → IsGate objects name other → NoneOver objects p bindings name) → IsLimitFrom objects p bindings name 0
from_none objects p bindings name none = record {
  gate = λ lt. absurd (omega arith);
  some = λ lt. absurd (omega arith);
  greatest = λ other g k d lt over. absurd (none other g k d lt over);
}

pub from_zero : (objects : List Object) (p : Publish) (bindings : List Binding) (name : List ℕ) (limit : ℕ) → limit ≤ 0 → ((other : ℕ) → IsGate objects name other → other ≤ limit) → IsLimitFrom objects p bindings name 0
from_zero objects p bindings name limit zero most = record {
  gate = λ lt. absurd (omega arith);
  some = λ lt. absurd (omega arith);
  greatest = λ other g k d lt over. omega (arith, most other g);
}

-- the same for what was reached
pub at_exchange : (objects : List Object) (p : Publish) (bindings : List Binding) (at : Stop) (name : List ℕ) (limit : ℕ) → exchange_of at ≡ Some name → IsLimitFrom objects p bindings name limit → IsLimitAt objects p bindings at limit
at_exchange objects p bindings at name limit e h =
    let is : at ≡ exchange_stop name = exchange_is at name e in
    let own : at.name ≡ name = ap (λ (s : Stop). s.name) is in
    let h' = subst (λ (n : List ℕ). IsLimitFrom objects p bindings n limit) (sym own) h in
    record { gate = λ _. (is ∙ ap exchange_stop (sym own), h'); greatest = λ _. h' }

pub at_queue : (objects : List Object) (p : Publish) (bindings : List Binding) (at : Stop) → exchange_of at ≡ None → IsLimitAt objects p bindings at 0
at_queue objects p bindings at e = record {
  gate = λ lt. absurd (omega arith);
  greatest = λ is. let f : Some at.name ≡ None = sym (ap exchange_of is) ∙ e in absurd cc;
}

-- what no gate that was reached there exceeds
abbrev pub IsMost : List Object → Publish → List Binding → ℕ → Stop → Type 0
IsMost objects p bindings limit s =
    (b : Binding) (other : ℕ) → Contains bindings b → source_of b ≡ s → Matches objects p b → IsGate objects b.source other → other ≤ limit

-- the greatest limit over these stops
pub record IsLimitOf (objects : List Object) (p : Publish) (stops : List Stop) (bindings : List Binding) (taken : List Stop) (limit : ℕ) : Type 0 where
  pub some : 0 < limit → Any (λ b. GateAt objects p stops b limit) bindings
  pub greatest : All (IsMost objects p bindings limit) taken

pub limit_none : (objects : List Object) (p : Publish) (stops : List Stop) (bindings : List Binding) → IsLimitOf objects p stops bindings [] 0
limit_none objects p stops bindings = record { some = λ lt. absurd (omega arith); greatest = All-nil _ }

-- a stop of its name is among those that it is one of
among_one : (stops : List Stop) (s : Stop) (name : List ℕ) → Contains stops s → s ≡ exchange_stop name → is_among stops sorts.Exchange name ≡ true
among_one stops s name c e = list_any_at (is_at sorts.Exchange name) stops c.0 s c.1 (ap (is_at sorts.Exchange name) (c.2 ∙ e) ∙ at_self sorts.Exchange name)

gate_here : (objects : List Object) (p : Publish) (stops : List Stop) (bindings : List Binding) (s : Stop) (n : ℕ) → Contains stops s → IsLimitAt objects p bindings s n → 0 < n → Any (λ b. GateAt objects p stops b n) bindings
gate_here objects p stops bindings s n c at pos =
    let g = at.gate pos in
    let any = g.1.some pos in
    let over = any.4 in (
      any.0,
      any.1,
      any.2,
      any.3,
      record {
        there = among_one stops s any.1.source c (g.0 ∙ ap exchange_stop (sym over.leaves));
        matches = over.matches;
        gate = subst (λ (x : List ℕ). IsGate objects x n) (sym over.leaves) (g.1.gate pos);
      },
    )

most_here : (objects : List Object) (p : Publish) (bindings : List Binding) (s : Stop) (n m : ℕ) → IsLimitAt objects p bindings s n → n ≤ m → IsMost objects p bindings m s
most_here objects p bindings s n m at le b other c from matches gate =
    let own : b.source ≡ s.name = ap (λ (x : Stop). x.name) from in
    let h = at.greatest (sym from ∙ ap exchange_stop own) in
    let below : other ≤ n = All-contains (λ x. IsOver objects p s.name x → other ≤ n) bindings b (h.greatest other (subst (λ (x : List ℕ). IsGate objects x other) own gate)) c (record { leaves = own; matches = matches }) in
    omega arith

pub limit_more : (objects : List Object) (p : Publish) (stops : List Stop) (bindings : List Binding) (taken : List Stop) (s : Stop) (limit n m : ℕ) → IsLimitOf objects p stops bindings taken limit → Contains stops s → IsLimitAt objects p bindings s n → m ≡ max limit n → IsLimitOf objects p stops bindings (taken ++ s ∷ []) m
limit_more objects p stops bindings taken s limit n m h c at e =
    let low : limit ≤ m = omega (arith, e) in
    let high : n ≤ m = omega (arith, e) in
    record {
      some = λ lt. elim (cases_lt limit n) [
        | inl less ↦
            let same : n ≡ m = omega arith in
            let pos : 0 < n = omega arith in
            subst (λ k. Any (λ (x : Binding). GateAt objects p stops x k) bindings) same (gate_here objects p stops bindings s n c at pos)
        | inr more ↦
            let same : limit ≡ m = omega arith in
            let pos : 0 < limit = omega arith in
            subst (λ k. Any (λ (x : Binding). GateAt objects p stops x k) bindings) same (h.some pos)
      ];
      greatest = All-push (IsMost objects p bindings m) taken s
          (All-weaker (IsMost objects p bindings limit) (IsMost objects p bindings m) (λ x f b other cb from matches gate. omega (arith, low, f b other cb from matches gate)) taken h.greatest)
          (most_here objects p bindings s n m at high);
    }

-- over all stops
pub limit_all : (objects : List Object) (p : Publish) (stops : List Stop) (bindings : List Binding) (limit : ℕ) → IsLimitOf objects p stops bindings stops limit → All (λ b. (other : ℕ) → GateAt objects p stops b other → other ≤ limit) bindings
limit_all objects p stops bindings limit h = λ k d lt other g.
    let b = get_or bindings k d in
    among_all (IsMost objects p bindings limit) stops sorts.Exchange b.source h.greatest g.there b other (k, lt, get_or_default bindings k b d lt) refl g.matches g.gate

pub limit_walked : (r : Routing) (p : Publish) (stops : List Stop) (limit : ℕ) → p.exchange ≢ [] → AreStops r p stops → (0 < limit → Any (λ b. GateAt r.objects p stops b limit) r.bindings) → All (λ b. (other : ℕ) → GateAt r.objects p stops b other → other ≤ limit) r.bindings → IsWalkLimit r p limit
limit_walked r p stops limit named h some greatest = record {
  some = λ lt. let g = some lt in record {
    named = named;
    gate = g.1;
    there = among_all (IsReached r p) stops sorts.Exchange g.1.source h.sound g.4.there;
    bound = (g.0, g.2, g.3);
    matches = g.4.matches;
    cluster = g.4.gate.cluster;
    vhost = g.4.gate.vhost;
    is = g.4.gate.is;
  };
  greatest = λ other passed. All-contains (λ b. (n : ℕ) → GateAt r.objects p stops b n → n ≤ limit) r.bindings passed.gate greatest passed.bound other (record {
    there = h.whole sorts.Exchange passed.gate.source passed.there;
    matches = passed.matches;
    gate = record { cluster = passed.cluster; vhost = passed.vhost; is = passed.is };
  });
}

pub limit_named : (r : Routing) (p : Publish) → p.exchange ≡ [] → IsWalkLimit r p 0
limit_named r p d = record {
  some = λ lt. absurd (omega arith);
  greatest = λ other passed. absurd (passed.named d);
}
