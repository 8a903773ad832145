-- A text is no pattern exactly where the grammar has none for it, or one that nests too deep.
use Rattle.std.proofs.Common.{◌≡◌, ℕ, ◌<◌, List, Bool, true, false, Option, Some, None, ◌⊎◌, inl, inr, refl, ap, lt-ltb, ltb-true}
use Rattle.std.specs.Prelude.{nat_lt, not, IsSomeAnd}
use Rattle.std.specs.Option.{option_map_or}
use Rattle.regex_hir.specs.Re.{Re}
use Rattle.regex_syntax.specs.Brackets.{Nested}
use Rattle.regex_syntax.specs.Grammar.{Names}
use Rattle.policy_core.specs.Patterns.{nest_limit, IsNoPattern, NestsTooDeep}
use Rattle.defs_values.specs.Policies.{is_pattern}

abbrev Found : Type 0
Found = Nested Re × Names

abbrev is_shallow : Option Found → Bool
is_shallow found = option_map_or (λ f. not (nat_lt nest_limit f.0.depth)) found false

none_read : (found : Option Found) → found ≡ None → is_shallow found ≡ false
none_read found h = ap is_shallow h

too_deep : (found : Option Found) → IsSomeAnd found (λ f. nest_limit < f.0.depth) → is_shallow found ≡ false
too_deep None h = refl
too_deep (Some f) h = ap not (lt-ltb _ _ h)

shallow_at : (d : ℕ) (b : Bool) → nat_lt nest_limit d ≡ b → (nest_limit < d → ⊥) → not b ≡ true
shallow_at d true e h = absurd (h (ltb-true _ _ e))
shallow_at d false e h = refl

shallow : (found : Option Found) → ((found ≡ None) ⊎ IsSomeAnd found (λ f. nest_limit < f.0.depth) → ⊥) → is_shallow found ≡ true
shallow None h = absurd (h (inl refl))
shallow (Some f) h = shallow_at _ _ refl (λ deep. h (inr deep))

pub bad_pattern : (text : List ℕ) → IsNoPattern text ⊎ NestsTooDeep text → is_pattern text ≡ false
unfolding is_pattern
bad_pattern text (inl h) = none_read _ h
bad_pattern text (inr h) = too_deep _ h

pub good_pattern : (text : List ℕ) → (IsNoPattern text ⊎ NestsTooDeep text → ⊥) → is_pattern text ≡ true
unfolding is_pattern
good_pattern text h = shallow _ h
