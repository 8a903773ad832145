-- Names and numbers that are the same.
use Rattle.std.proofs.Common.{◌≡◌, ℕ, List, Bool, true, false, refl, sym, ap, ◌∙◌}
use Rattle.std.specs.Prelude.{◌==◌}
use Rattle.std.proofs.lemmas.Bool.{and_parts, and_from, eqb-true, eq-eqb}
use Rattle.std.proofs.lemmas.Slice.Eq.{bytes_eq-Decides}
use Rattle.fed_journal.specs.declared.place.Place.{Place}
use Rattle.fed_journal.specs.Names.{same_text, same_place}

pub same_text-true : (a b : List ℕ) → same_text a b ≡ true → a ≡ b
same_text-true a b h = (bytes_eq-Decides a b).0 h

pub same_text-refl : (a : List ℕ) → same_text a a ≡ true
same_text-refl a = (bytes_eq-Decides a a).1 refl

flip-true : (a b : List ℕ) → same_text a b ≡ true → same_text b a ≡ true
flip-true a b h = ap (λ x. same_text x a) (sym (same_text-true a b h)) ∙ same_text-refl a

flip-by : (a b : List ℕ) (x y : Bool) → same_text a b ≡ x → same_text b a ≡ y → x ≡ y
flip-by a b true y e f = sym (flip-true a b e) ∙ f
flip-by a b false true e f = sym e ∙ flip-true b a f
flip-by a b false false e f = refl

pub same_text-sym : (a b : List ℕ) → same_text a b ≡ same_text b a
same_text-sym a b = flip-by a b (same_text a b) (same_text b a) refl refl

place_of : List ℕ → List ℕ → Place
place_of broker vhost = record { broker = broker; vhost = vhost }

place-eta : (a : Place) → place_of a.broker a.vhost ≡ a
unfolding place_of
place-eta a = refl

pub same_place-true : (a b : Place) → same_place a b ≡ true → a ≡ b
same_place-true a b h =
    let parts : (same_text a.broker b.broker ≡ true) × (same_text a.vhost b.vhost ≡ true) = and_parts (same_text a.broker b.broker) (same_text a.vhost b.vhost) h in
    sym (place-eta a) ∙ ap (λ x. place_of x a.vhost) (same_text-true a.broker b.broker parts.0) ∙ ap (place_of b.broker) (same_text-true a.vhost b.vhost parts.1) ∙ place-eta b

pub same_place-refl : (a : Place) → same_place a a ≡ true
same_place-refl a = and_from (same_text a.broker a.broker) (same_text a.vhost a.vhost) (same_text-refl a.broker) (same_text-refl a.vhost)

number-by : (a b : ℕ) (x y : Bool) → (a == b) ≡ x → (b == a) ≡ y → x ≡ y
number-by a b true y e f = sym (eq-eqb b a (sym (eqb-true a b e))) ∙ f
number-by a b false true e f = sym e ∙ eq-eqb a b (sym (eqb-true b a f))
number-by a b false false e f = refl

pub number-sym : (a b : ℕ) → (a == b) ≡ (b == a)
number-sym a b = number-by a b (a == b) (b == a) refl refl
