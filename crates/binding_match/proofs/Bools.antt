-- What tests that are joined say.
use Rattle.std.proofs.Common.{◌≡◌, ◌⊎◌, inl, inr, Bool, true, false, cond, not, ◌||◌, ◌&&◌, refl, sym}
use Rattle.std.specs.Prelude.{MatchBool}

pub either : (a b : Bool) → (a || b) ≡ true → (a ≡ true) ⊎ (b ≡ true)
either true b h = inl refl
either false b h = inr h

pub both : (a b : Bool) → (a && b) ≡ true → (a ≡ true) × (b ≡ true)
both true b h = (refl, h)
both false b h = absurd cc

pub or_true : (a : Bool) → (a || true) ≡ true
or_true true = refl
or_true false = refl

-- two tests that pass together are equal
pub same_test : (a b : Bool) → (a ≡ true → b ≡ true) → (b ≡ true → a ≡ true) → a ≡ b
same_test true true f g = refl
same_test true false f g = sym (f refl)
same_test false true f g = g refl
same_test false false f g = refl

-- no fault here, and none among the rest
pub none_missed : (c a rest : Bool) → cond (c && not a) false rest ≡ true → (c ≡ true → a ≡ true) × (rest ≡ true)
none_missed true true rest h = (λ _. refl, h)
none_missed true false rest h = absurd cc
none_missed false a rest h = (λ e. absurd cc, h)

pub missed_none : (c a rest : Bool) → (c ≡ true → a ≡ true) → rest ≡ true → cond (c && not a) false rest ≡ true
missed_none true true rest f h = h
missed_none true false rest f h = f refl
missed_none false a rest f h = h

-- a hit here, or one among the rest
pub some_hit : (c a rest : Bool) → cond (c && a) true rest ≡ true → ((c ≡ true) × (a ≡ true)) ⊎ (rest ≡ true)
some_hit true true rest h = inl (refl, refl)
some_hit true false rest h = inr h
some_hit false a rest h = inr h

pub hit : (c a rest : Bool) → c ≡ true → a ≡ true → cond (c && a) true rest ≡ true
hit true true rest e f = refl
hit true false rest e f = absurd cc
hit false a rest e f = absurd cc

pub hit_later : (c a rest : Bool) → rest ≡ true → cond (c && a) true rest ≡ true
hit_later true true rest h = refl
hit_later true false rest h = h
hit_later false a rest h = h

-- a choice between two facts, each with its test
pub chosen : (b s a : Bool) {S A : Type 0} → (s ≡ true → S) → (a ≡ true → A) → cond b s a ≡ true → MatchBool b S A
chosen true s a f g h = f h
chosen false s a f g h = g h

pub chosen_back : (b s a : Bool) {S A : Type 0} → (S → s ≡ true) → (A → a ≡ true) → MatchBool b S A → cond b s a ≡ true
chosen_back true s a f g h = f h
chosen_back false s a f g h = g h
