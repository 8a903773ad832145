-- What holds of the search for routes.
use Rattle.std.proofs.Common.{◌≡◌, ℕ, ◌+◌, ◌-◌, ◌<◌, ◌≤◌, inl, inr, true, false, not, List, [], ◌∷◌, ◌++◌, Some, None, length, take, get_or, refl, ap, sym, ◌∙◌, subst, arith, length-append, append_assoc, append-nil}
use Rattle.std.specs.Prelude.{All}
use Rattle.std.specs.List.{Contains}
use Rattle.std.specs.Str.{bytes_eq}
use Rattle.std.proofs.lemmas.Bool.{false≢true, or_cases, or_left, or_right, and_parts, and_from}
use Rattle.std.proofs.lemmas.List.Elements.{All-nil, All-cons, All-head, All-tail, All-weaker, All-push, All-contains, All-get_or}
use Rattle.std.proofs.lemmas.List.{take_more, take_all, take-append-le}
use Rattle.std.proofs.lemmas.List.Folds.{list_any-append}
use Rattle.std.proofs.lemmas.Slice.Eq.{bytes_eq-Decides}
use Rattle.route_core.specs.declared.object.Sort.{Sort}
use Rattle.route_core.specs.declared.object.Sort.TheVariants as sorts
use Rattle.route_core.specs.declared.object.Object.{Object}
use Rattle.route_core.specs.declared.binding.Binding.{Binding}
use Rattle.route_core.specs.Objects.{same_sort}
use Rattle.route_core.specs.SameBindings.{sort_yes, sort_self}
use Rattle.route_core.specs.Routing.{Routing}
use Rattle.route_core.specs.Walks.{Publish, Stop, stop, exchange_stop, queue_stop, source_of, dest_of, Matches, IsWalk, IsReached}
use Rattle.route_core.specs.Spreading.{is_at, is_among, left, IsFollowed, LeadsOn, Spreads, AreStops, exchange_of, exchange_by}
use Rattle.route_core.proofs.Lists.{filter_less}

-- ---- stops by their names

bytes_self : (x : List ℕ) → bytes_eq x x ≡ true
bytes_self x = (bytes_eq-Decides x x).1 refl

at_is : (sort : Sort) (name : List ℕ) (s : Stop) → is_at sort name s ≡ true → s ≡ stop sort name
at_is sort name s h =
    let t = and_parts (same_sort s.sort sort) (bytes_eq s.name name) h in
    let e = sort_yes s.sort sort t.0 in
    let f = (bytes_eq-Decides s.name name).0 t.1 in
    λ i. stop (e i) (f i)

-- the only one that is among one
pub stop_is : (own name : List ℕ) → is_among (queue_stop own ∷ []) sorts.Queue name ≡ true → queue_stop own ≡ queue_stop name
stop_is own name h =
    elim (or_cases (is_at sorts.Queue name (queue_stop own)) false h) [ inl e ↦ at_is sorts.Queue name (queue_stop own) e | inr e ↦ absurd (false≢true e) ]

pub at_self : (sort : Sort) (name : List ℕ) → is_at sort name (stop sort name) ≡ true
at_self sort name = and_from (same_sort sort sort) (bytes_eq name name) (sort_self sort) (bytes_self name)

-- what holds of each stop holds of the one that is found
pub among_all : (P : Stop → Type 0) (stops : List Stop) (sort : Sort) (name : List ℕ) → All P stops → is_among stops sort name ≡ true → P (stop sort name)
among_all P [] sort name all h = absurd (false≢true h)
among_all P (s ∷ stops) sort name all h =
    elim (or_cases (is_at sort name s) (is_among stops sort name) h) [
      | inl e ↦ subst P (at_is sort name s e) (All-head P s stops all)
      | inr e ↦ among_all P stops sort name (All-tail P s stops all) e
    ]

pub among_push : (stops : List Stop) (s : Stop) (sort : Sort) (name : List ℕ) → is_among stops sort name ≡ true → is_among (stops ++ s ∷ []) sort name ≡ true
among_push stops s sort name h = list_any-append (is_at sort name) stops (s ∷ []) ∙ or_left (is_among stops sort name) _ h

pub among_last : (stops : List Stop) (sort : Sort) (name : List ℕ) → is_among (stops ++ (stop sort name) ∷ []) sort name ≡ true
among_last stops sort name =
    list_any-append (is_at sort name) stops ((stop sort name) ∷ []) ∙ or_right (is_among stops sort name) _ (or_left (is_at sort name (stop sort name)) false (at_self sort name))

-- ---- walks

walk_snoc : (r : Routing) (p : Publish) (walk : List Binding) (at mid : Stop) (b : Binding) → IsWalk r p at walk mid → mid ≡ source_of b → Contains r.bindings b → Matches r.objects p b → IsWalk r p at (walk ++ b ∷ []) (dest_of b)
walk_snoc r p [] at mid b w e c m = (w ∙ e, c, m, refl)
walk_snoc r p (step ∷ walk) at mid b w e c m = (w.0, w.1, w.2, walk_snoc r p walk (dest_of step) mid b w.3 e c m)

pub reached_more : (r : Routing) (p : Publish) (mid : Stop) (b : Binding) → IsReached r p mid → mid ≡ source_of b → Contains r.bindings b → Matches r.objects p b → IsReached r p (dest_of b)
reached_more r p mid b h e c m = (h.0 ++ b ∷ [], walk_snoc r p h.0 (exchange_stop p.exchange) mid b h.1 e c m)

-- ---- one binding after another

fewer : (stops : List Stop) (s : Stop) (b : Binding) → not (is_among (stops ++ s ∷ []) b.sort b.dest) ≡ true → not (is_among stops b.sort b.dest) ≡ true
fewer stops s b h =
    elim (is_among stops b.sort b.dest) as (λ t. is_among stops b.sort b.dest ≡ t → not t ≡ true) [
      | true ↦ (λ e. absurd (false≢true (ap not (sym (among_push stops s b.sort b.dest e)) ∙ h)))
      | false ↦ (λ _. refl)
    ] refl

pub left_falls : (bindings : List Binding) (stops : List Stop) (b : Binding) → Contains bindings b → is_among stops b.sort b.dest ≡ false → left (stops ++ dest_of b ∷ []) bindings + 1 ≤ left stops bindings
left_falls bindings stops b c h =
    filter_less (λ (x : Binding). not (is_among (stops ++ dest_of b ∷ []) x.sort x.dest)) (λ (x : Binding). not (is_among stops x.sort x.dest)) (λ x e. fewer stops (dest_of b) x e) bindings b c (ap not (among_last stops b.sort b.dest)) (ap not h)

pub spreads_none : (r : Routing) (p : Publish) (from : Stop) (stops : List Stop) → Spreads r p from [] stops stops
spreads_none r p from stops = record {
  more = [];
  kept = sym (append-nil stops);
  sound = λ _ all. all;
  followed = All-nil _;
  falls = omega arith;
}

pub spreads_skip : (r : Routing) (p : Publish) (from : Stop) (bindings : List Binding) (before after : List Stop) (b : Binding) → Spreads r p from bindings before after → (source_of b ≡ from → Matches r.objects p b → is_among after b.sort b.dest ≡ true) → Spreads r p from (bindings ++ b ∷ []) before after
spreads_skip r p from bindings before after b h k = record {
  more = h.more;
  kept = h.kept;
  sound = h.sound;
  followed = All-push (λ (x : Binding). source_of x ≡ from → Matches r.objects p x → is_among after x.sort x.dest ≡ true) bindings b h.followed k;
  falls = h.falls;
}

pub spreads_push : (r : Routing) (p : Publish) (name : List ℕ) (bindings : List Binding) (before after : List Stop) (b : Binding) → Spreads r p (exchange_stop name) bindings before after → Contains r.bindings b → LeadsOn r.objects p b name after → Spreads r p (exchange_stop name) (bindings ++ b ∷ []) before (after ++ dest_of b ∷ [])
spreads_push r p name bindings before after b h c l = record {
  more = h.more ++ dest_of b ∷ [];
  kept = ap (λ (ss : List Stop). ss ++ dest_of b ∷ []) h.kept ∙ append_assoc before h.more (dest_of b ∷ []);
  sound = λ from all. All-push (IsReached r p) after (dest_of b) (h.sound from all) (reached_more r p (exchange_stop name) b from (ap exchange_stop (sym l.leaves)) c l.matches);
  followed = All-push (λ (x : Binding). source_of x ≡ exchange_stop name → Matches r.objects p x → is_among (after ++ dest_of b ∷ []) x.sort x.dest ≡ true) bindings b
      (All-weaker (λ (x : Binding). source_of x ≡ exchange_stop name → Matches r.objects p x → is_among after x.sort x.dest ≡ true) (λ (x : Binding). source_of x ≡ exchange_stop name → Matches r.objects p x → is_among (after ++ dest_of b ∷ []) x.sort x.dest ≡ true) (λ x f s m. among_push after (dest_of b) x.sort x.dest (f s m)) bindings h.followed)
      (λ _ _. among_last after b.sort b.dest);
  falls = omega (arith, h.falls, left_falls r.bindings after b c l.fresh, length-append after (dest_of b ∷ []));
}

-- ---- one stop after another

among_more : (before more after : List Stop) → after ≡ before ++ more → (sort : Sort) (name : List ℕ) → is_among before sort name ≡ true → is_among after sort name ≡ true
among_more before more after e sort name h =
    ap (λ (ss : List Stop). is_among ss sort name) e ∙ list_any-append (is_at sort name) before more ∙ or_left (is_among before sort name) (is_among more sort name) h

followed_more : (objects : List Object) (p : Publish) (bindings : List Binding) (before more after : List Stop) → after ≡ before ++ more → (from : Stop) → IsFollowed objects p bindings before from → IsFollowed objects p bindings after from
followed_more objects p bindings before more after e from h =
    All-weaker (λ (x : Binding). source_of x ≡ from → Matches objects p x → is_among before x.sort x.dest ≡ true) (λ (x : Binding). source_of x ≡ from → Matches objects p x → is_among after x.sort x.dest ≡ true) (λ x f s m. among_more before more after e x.sort x.dest (f s m)) bindings h

named_exchange : (sort : Sort) (own name : List ℕ) → exchange_by sort own ≡ Some name → stop sort own ≡ exchange_stop name
named_exchange sorts.Queue own name e = cc
named_exchange sorts.Exchange own name e = let f : own ≡ name = cc in ap exchange_stop f

pub exchange_is : (from : Stop) (name : List ℕ) → exchange_of from ≡ Some name → from ≡ exchange_stop name
exchange_is from name e = named_exchange from.sort from.name name e

-- what is reached so far, and what has been followed of it
pub record IsSearched (r : Routing) (p : Publish) (next : ℕ) (stops : List Stop) : Type 0 where
  pub within : next ≤ length stops
  pub start : is_among stops sorts.Exchange p.exchange ≡ true
  pub sound : All (IsReached r p) stops
  pub followed : All (IsFollowed r.objects p r.bindings stops) (take next stops)

pub searched_none : (r : Routing) (p : Publish) → IsSearched r p 0 (exchange_stop p.exchange ∷ [])
searched_none r p = record {
  within = omega arith;
  start = among_last [] sorts.Exchange p.exchange;
  sound = All-cons (IsReached r p) (exchange_stop p.exchange) [] ([], refl) (All-nil (IsReached r p));
  followed = All-nil _;
}

taken : (before more after : List Stop) (next : ℕ) (d : Stop) → after ≡ before ++ more → next < length before → take (next + 1) after ≡ take next before ++ get_or before next d ∷ []
taken before more after next d e lt =
    ap (λ (ss : List Stop). take (next + 1) ss) e ∙ take-append-le (next + 1) before more (omega arith) ∙ take_more before next d lt

pub searched_step : (r : Routing) (p : Publish) (next : ℕ) (before after : List Stop) → IsSearched r p next before → next < length before → ((d : Stop) → Spreads r p (get_or before next d) r.bindings before after) → IsSearched r p (next + 1) after
searched_step r p next before after h lt spreads =
    let d = exchange_stop [] in
    let s = spreads d in
    let follows : All (IsFollowed r.objects p r.bindings after) (take next before ++ get_or before next d ∷ []) =
    All-push (IsFollowed r.objects p r.bindings after) (take next before) (get_or before next d)
    (All-weaker (IsFollowed r.objects p r.bindings before) (IsFollowed r.objects p r.bindings after) (λ from f. followed_more r.objects p r.bindings before s.more after s.kept from f) (take next before) h.followed)
    s.followed in
    record {
      within = omega (arith, ap (λ (ss : List Stop). length ss) s.kept, length-append before s.more);
      start = among_more before s.more after s.kept sorts.Exchange p.exchange h.start;
      sound = s.sound (All-get_or (IsReached r p) before next d lt h.sound) h.sound;
      followed = subst (λ (ss : List Stop). All (IsFollowed r.objects p r.bindings after) ss) (sym (taken before s.more after next d s.kept lt)) follows;
    }

pub search_falls : (r : Routing) (p : Publish) (next : ℕ) (before after : List Stop) → next < length before → ((d : Stop) → Spreads r p (get_or before next d) r.bindings before after) → left after r.bindings + (length after - (next + 1)) < left before r.bindings + (length before - next)
search_falls r p next before after lt spreads =
    let s = spreads (exchange_stop []) in
    omega (arith, s.falls, ap (λ (ss : List Stop). length ss) s.kept, length-append before s.more)

walk_among : (r : Routing) (p : Publish) (stops : List Stop) → All (IsFollowed r.objects p r.bindings stops) stops → (walk : List Binding) (at to : Stop) → is_among stops at.sort at.name ≡ true → IsWalk r p at walk to → is_among stops to.sort to.name ≡ true
walk_among r p stops all [] at to h w = subst (λ (s : Stop). is_among stops s.sort s.name ≡ true) w h
walk_among r p stops all (b ∷ walk) at to h w =
    walk_among r p stops all walk (dest_of b) to
    (All-contains (λ (x : Binding). source_of x ≡ at → Matches r.objects p x → is_among stops x.sort x.dest ≡ true) r.bindings b (among_all (IsFollowed r.objects p r.bindings stops) stops at.sort at.name all h) w.1 (sym w.0) w.2)
    w.3

pub searched_all : (r : Routing) (p : Publish) (next : ℕ) (stops : List Stop) → IsSearched r p next stops → length stops ≤ next → AreStops r p stops
searched_all r p next stops h end =
    let all = subst (λ (ss : List Stop). All (IsFollowed r.objects p r.bindings stops) ss) (take_all next stops end) h.followed in
    record {
      sound = h.sound;
      whole = λ sort name reached. walk_among r p stops all reached.0 (exchange_stop p.exchange) (stop sort name) h.start reached.1;
    }
