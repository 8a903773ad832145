-- The search goes on over the bindings of one exchange, from the last to the first.
use Rattle.std.proofs.Common.{◌≡◌, ◌≢◌, ℕ, ◌+◌, ◌-◌, ◌<◌, ◌≤◌, inl, inr, true, List, [], ◌∷◌, ◌++◌, Some, None, length, get_or, ap, sym, ◌∙◌, subst, arith, length-append, append_assoc, append-nil}
use Rattle.std.specs.Prelude.{All}
use Rattle.std.specs.List.{Contains}
use Rattle.std.proofs.lemmas.Bool.{cases_lt}
use Rattle.std.proofs.lemmas.List.{get_or-map, get_or_default, length-map}
use Rattle.std.proofs.lemmas.List.Elements.{All-push}
use Rattle.route_core.specs.declared.binding.Binding.{Binding}
use Rattle.route_core.specs.Chains.{IsLastOf}
use Rattle.route_core.specs.Sources.{source_code, source_codes}
use Rattle.route_core.specs.Routing.{Routing}
use Rattle.route_core.specs.Walks.{Publish, Stop, exchange_stop, source_of, dest_of, exchange_node, Matches, IsReached}
use Rattle.route_core.specs.Spreading.{is_among, left, LeadsOn, Spreads}
use Rattle.route_core.proofs.StopLemmas.{among_push, among_last, reached_more, left_falls}

-- what the search asks of a binding
abbrev pub IsDone : Routing → Publish → List ℕ → List Stop → Binding → Type 0
IsDone r p name stops b = source_of b ≡ exchange_stop name → Matches r.objects p b → is_among stops b.sort b.dest ≡ true

-- the bindings from this place on have been followed
pub record SpreadsFrom (r : Routing) (p : Publish) (name : List ℕ) (at : ℕ) (before after : List Stop) : Type 0 where
  pub more : List Stop
  pub kept : after ≡ before ++ more
  pub sound : IsReached r p (exchange_stop name) → All (IsReached r p) before → All (IsReached r p) after
  pub followed : (k : ℕ) (d : Binding) → at ≤ k → k < length r.bindings → IsDone r p name after (get_or r.bindings k d)
  pub falls : left after r.bindings + length after ≤ left before r.bindings + length before

code_at : (bindings : List Binding) (codes : List ℕ) (k : ℕ) (d : Binding) → codes ≡ source_codes bindings → k < length bindings → get_or codes k 0 ≡ source_code (get_or bindings k d).source
code_at bindings codes k d e lt =
    ap (λ (cs : List ℕ). get_or cs k 0) e ∙ get_or-map (λ (b : Binding). source_code b.source) bindings k d 0 lt

pub codes_length : (bindings : List Binding) (codes : List ℕ) → codes ≡ source_codes bindings → length codes ≡ length bindings
codes_length bindings codes e = ap (λ (cs : List ℕ). length cs) e ∙ length-map bindings (λ (b : Binding). source_code b.source)

-- a binding of another code doesn't leave the exchange
other_code : (r : Routing) (p : Publish) (name : List ℕ) (stops : List Stop) (codes : List ℕ) (k : ℕ) (d : Binding) → codes ≡ source_codes r.bindings → k < length r.bindings → get_or codes k 0 ≢ source_code name → IsDone r p name stops (get_or r.bindings k d)
other_code r p name stops codes k d e lt other = λ is _.
    absurd (other (code_at r.bindings codes k d e lt ∙ ap source_code (ap (λ (s : Stop). s.name) is)))

pub from_last : (r : Routing) (p : Publish) (name : List ℕ) (stops : List Stop) (codes : List ℕ) (at : ℕ) → codes ≡ source_codes r.bindings → IsLastOf (source_code name) codes (length codes) at → SpreadsFrom r p name at stops stops
from_last r p name stops codes at e h = record {
  more = [];
  kept = sym (append-nil stops);
  sound = λ _ all. all;
  followed = λ k d le lt. other_code r p name stops codes k d e lt (h.none k le (omega (arith, codes_length r.bindings codes e)));
  falls = omega arith;
}

-- no binding matches where there is no such exchange
pub spreads_nowhere : (r : Routing) (p : Publish) (name : List ℕ) (stops : List Stop) → exchange_node name r.objects ≡ None → Spreads r p (exchange_stop name) r.bindings stops stops
spreads_nowhere r p name stops e = record {
  more = [];
  kept = sym (append-nil stops);
  sound = λ _ all. all;
  followed = λ k d lt is m.
      let f : Some m.node ≡ None = sym m.stands ∙ ap (λ (s : Stop). exchange_node s.name r.objects) is ∙ e in absurd cc;
  falls = omega arith;
}

-- the binding just before the place, and those from the place on
at_or_after : (r : Routing) (p : Publish) (name : List ℕ) (stops : List Stop) (at k : ℕ) (b d : Binding) → 0 < at → at ≤ length r.bindings → b ≡ get_or r.bindings (at - 1) b → IsDone r p name stops b → (at ≤ k → IsDone r p name stops (get_or r.bindings k d)) → at - 1 ≤ k → IsDone r p name stops (get_or r.bindings k d)
at_or_after r p name stops at k b d pos within is here later le =
    elim (cases_lt k at) [
      | inl less ↦
          let same : at - 1 ≡ k = omega arith in
          let lt : at - 1 < length r.bindings = omega arith in
          subst (λ j. IsDone r p name stops (get_or r.bindings j d)) same
          (subst (λ (x : Binding). IsDone r p name stops x) (is ∙ get_or_default r.bindings (at - 1) b d lt) here)
      | inr more ↦ later more
    ]

pub from_skip : (r : Routing) (p : Publish) (name : List ℕ) (at : ℕ) (before after : List Stop) (b : Binding) → SpreadsFrom r p name at before after → 0 < at → at ≤ length r.bindings → b ≡ get_or r.bindings (at - 1) b → IsDone r p name after b → SpreadsFrom r p name (at - 1) before after
from_skip r p name at before after b h pos within is here = record {
  more = h.more;
  kept = h.kept;
  sound = h.sound;
  followed = λ k d le lt. at_or_after r p name after at k b d pos within is here (λ more. h.followed k d more lt) le;
  falls = h.falls;
}

pub from_push : (r : Routing) (p : Publish) (name : List ℕ) (at : ℕ) (before after : List Stop) (b : Binding) → SpreadsFrom r p name at before after → 0 < at → at ≤ length r.bindings → b ≡ get_or r.bindings (at - 1) b → LeadsOn r.objects p b name after → SpreadsFrom r p name (at - 1) before (after ++ dest_of b ∷ [])
from_push r p name at before after b h pos within is l =
    let there : Contains r.bindings b = (at - 1, omega arith, sym is) in
    record {
      more = h.more ++ dest_of b ∷ [];
      kept = ap (λ (ss : List Stop). ss ++ dest_of b ∷ []) h.kept ∙ append_assoc before h.more (dest_of b ∷ []);
      sound = λ from all. All-push (IsReached r p) after (dest_of b) (h.sound from all) (reached_more r p (exchange_stop name) b from (ap exchange_stop (sym l.leaves)) there l.matches);
      followed = λ k d le lt. at_or_after r p name (after ++ dest_of b ∷ []) at k b d pos within is (λ _ _. among_last after b.sort b.dest)
          (λ more s m. among_push after (dest_of b) (get_or r.bindings k d).sort (get_or r.bindings k d).dest (h.followed k d more lt s m)) le;
      falls = omega (arith, h.falls, left_falls r.bindings after b there l.fresh, length-append after (dest_of b ∷ []));
    }

-- on to the one before it of the same code
pub from_next : (r : Routing) (p : Publish) (name : List ℕ) (at next : ℕ) (before after : List Stop) (codes : List ℕ) → codes ≡ source_codes r.bindings → get_or codes at 0 ≡ source_code name → IsLastOf (get_or codes at 0) codes at next → SpreadsFrom r p name at before after → SpreadsFrom r p name next before after
from_next r p name at next before after codes e code h s = record {
  more = s.more;
  kept = s.kept;
  sound = s.sound;
  followed = λ k d le lt. elim (cases_lt k at) [
    | inl less ↦ other_code r p name after codes k d e lt (λ f. h.none k le less (f ∙ sym code))
    | inr more ↦ s.followed k d more lt
  ];
  falls = s.falls;
}

pub from_all : (r : Routing) (p : Publish) (name : List ℕ) (at : ℕ) (before after : List Stop) → at ≡ 0 → SpreadsFrom r p name at before after → Spreads r p (exchange_stop name) r.bindings before after
from_all r p name at before after end s = record {
  more = s.more;
  kept = s.kept;
  sound = s.sound;
  followed = λ k d lt. s.followed k d (omega arith) lt;
  falls = s.falls;
}
