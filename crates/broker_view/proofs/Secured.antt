-- Which copies are secured after one entry more (RabbitMQ, Publisher Confirms: when messages are confirmed).
use Rattle.std.proofs.Common.{◌≡◌, ℕ, zero, suc, ◌+◌, ◌-◌, ◌<◌, List, [], ◌∷◌, ◌++◌, length, Bool, true, false, Some, None, arith, refl, sym, ap, ◌∙◌, take, drop, unwrap_or, length-append}
use Rattle.std.specs.Prelude.{cond, not, ◌&&◌, ◌||◌, position, slice_get}
use Rattle.std.specs.List.{list_any}
use Rattle.std.proofs.lemmas.Bool.{true≢false, or_parts, not-false}
use Rattle.std.proofs.lemmas.Option.{none-some}
use Rattle.std.proofs.lemmas.Iterator.Adapters.{position_from-zero}
use Rattle.std.proofs.lemmas.List.{take-append-le, take_at, drop-append-le, drop_all}
use Rattle.fed_journal.specs.declared.entry.Publication.{Publication}
use Rattle.fed_journal.specs.declared.entry.Entry.{Entry}
use Rattle.fed_journal.specs.declared.entry.Entry.TheVariants.{Published}
use Rattle.fed_journal.specs.Messages.{is_persistent}
use Rattle.fed_journal.specs.Copies.{Standing, Left, is_left, standing, standing_step, moved, is_copy_of, enters, flushes, publication_in, publication_of, is_lasting_at, is_copy_secured, is_stored, must_be_stored, must_be_stored_at, must_be_stored_from, is_flushed_in, is_flushed_from}
use Rattle.broker_store.proofs.NameLemmas.{any_push}
use Rattle.broker_view.specs.View.{is_there}
use Rattle.broker_view.proofs.Finds.{position-some, position-longer, position-push, from-none}
use Rattle.broker_view.proofs.Publications.{position-none, position-here, position-later, position-within, standing-push, standing-fresh}

-- ---- lists

pub slice_get-append : {X : Type 0} (xs ys : List X) (i : ℕ) → i < length xs → slice_get (xs ++ ys) i ≡ slice_get xs i
slice_get-append [] ys i h = absurd (omega (arith, h))
slice_get-append (x ∷ xs) ys zero h = refl
slice_get-append (x ∷ xs) ys (suc i) h = slice_get-append xs ys i (omega (arith, h))

slice_get-last : {X : Type 0} (xs : List X) (y : X) → slice_get (xs ++ y ∷ []) (length xs) ≡ Some y
slice_get-last [] y = refl
slice_get-last (x ∷ xs) y = slice_get-last xs y

position-last : {X : Type 0} (p : X → Bool) (xs : List X) (y : X) → list_any p xs ≡ false → p y ≡ true → position p (xs ++ y ∷ []) ≡ Some (length xs)
position-last p xs y none on =
    position-push p xs y none on ∙ ap (λ o. Some (unwrap_or o (length xs))) (position_from-zero p xs ∙ from-none p 0 xs none)

-- ---- where a copy entered

some-by : (c : ℕ) (z x : Publication) (K : List Entry) (b : Bool) → cond b (Some z) (publication_of c K) ≡ Some x → (publication_of c K ≡ Some x → list_any (enters c) K ≡ true) → (b || list_any (enters c) K) ≡ true
some-by c z x K true h later = refl
some-by c z x K false h later = later h

some-enters : (c : ℕ) (x : Publication) (K : List Entry) → publication_of c K ≡ Some x → list_any (enters c) K ≡ true
unfolding publication_of
some-enters c x [] h = absurd (none-some x h)
some-enters c x (Published z ∷ K) h = some-by c z x K (is_copy_of z c) h (some-enters c x K)
some-enters c x (e ∷ K) h = some-enters c x K h

none-by : (c : ℕ) (z : Publication) (K : List Entry) (b : Bool) → cond b (Some z) (publication_of c K) ≡ None → (publication_of c K ≡ None → list_any (enters c) K ≡ false) → (b || list_any (enters c) K) ≡ false
none-by c z K true h later = absurd (none-some z (sym h))
none-by c z K false h later = later h

none-enters : (c : ℕ) (K : List Entry) → publication_of c K ≡ None → list_any (enters c) K ≡ false
unfolding publication_of
none-enters c [] h = refl
none-enters c (Published z ∷ K) h = none-by c z K (is_copy_of z c) h (none-enters c K)
none-enters c (e ∷ K) h = none-enters c K h

at-by : (c : ℕ) (y : Publication) (K : List Entry) (i : ℕ) (b : Bool) → is_copy_of y c ≡ b → position (enters c) (Published y ∷ K) ≡ Some i → ((j : ℕ) → position (enters c) K ≡ Some j → publication_in (slice_get K j) ≡ publication_of c K) → publication_in (slice_get (Published y ∷ K) i) ≡ cond b (Some y) (publication_of c K)
at-by c y K i true e h later =
    ap (λ n. publication_in (slice_get (Published y ∷ K) n)) (position-here (enters c) (Published y) K i e h)
at-by c y K i false e h later =
    let s : (j : ℕ) × (i ≡ suc j) × (position (enters c) K ≡ Some j) = position-later (enters c) (Published y) K i e h in
    ap (λ n. publication_in (slice_get (Published y ∷ K) n)) s.1 ∙ later s.0 s.2

at-other : (c : ℕ) (e : Entry) (K : List Entry) (i : ℕ) → enters c e ≡ false → position (enters c) (e ∷ K) ≡ Some i → ((j : ℕ) → position (enters c) K ≡ Some j → publication_in (slice_get K j) ≡ publication_of c K) → publication_in (slice_get (e ∷ K) i) ≡ publication_of c K
at-other c e K i none h later =
    let s : (j : ℕ) × (i ≡ suc j) × (position (enters c) K ≡ Some j) = position-later (enters c) e K i none h in
    ap (λ n. publication_in (slice_get (e ∷ K) n)) s.1 ∙ later s.0 s.2

pub publication-at : (c : ℕ) (K : List Entry) (i : ℕ) → position (enters c) K ≡ Some i → publication_in (slice_get K i) ≡ publication_of c K
unfolding publication_of
publication-at c [] i h = absurd (position-none (enters c) i h)
publication-at c (Published y ∷ K) i h = at-by c y K i (is_copy_of y c) refl h (publication-at c K)
publication-at c (e ∷ K) i h = at-other c e K i refl h (publication-at c K)

-- the copy entered by the entry at this place
record EnteredAt (J : List Entry) (c : ℕ) (x : Publication) : Type 0 where
  index : ℕ
  at : position (enters c) J ≡ Some index
  within : index < length J
  there : publication_in (slice_get J index) ≡ Some x

entered-at : (J : List Entry) (c : ℕ) (x : Publication) → publication_of c J ≡ Some x → EnteredAt J c x
entered-at J c x h =
    let i : ℕ = unwrap_or (position (enters c) J) 0 in
    let at : position (enters c) J ≡ Some i = position-some (enters c) 0 J (some-enters c x J h) in
    record { index = i; at = at; within = position-within (enters c) J i at; there = publication-at c J i at ∙ h }

-- ---- after one entry more

must-push : (J : List Entry) (e : Entry) (c : ℕ) (x : Publication) → EnteredAt J c x → must_be_stored (J ++ e ∷ []) c ≡ must_be_stored J c
unfolding must_be_stored
must-push J e c x a =
    ap (must_be_stored_from (J ++ e ∷ []) c) (position-longer (enters c) a.index J (e ∷ []) a.at)
    ∙ ap (λ K. must_be_stored_at K (publication_in (slice_get (J ++ e ∷ []) a.index)) c) (take-append-le a.index J (e ∷ []) (omega (arith, a.within)))
    ∙ ap (λ g. must_be_stored_at (take a.index J) (publication_in g) c) (slice_get-append J (e ∷ []) a.index a.within)
    ∙ sym (ap (must_be_stored_from J c) a.at)

flushed-push : (J : List Entry) (e : Entry) (c : ℕ) (x : Publication) → EnteredAt J c x → is_flushed_from (J ++ e ∷ []) (position (enters c) (J ++ e ∷ [])) ≡ (is_flushed_from J (position (enters c) J) || flushes x.place.broker e)
flushed-push J e c x a =
    ap (is_flushed_from (J ++ e ∷ [])) (position-longer (enters c) a.index J (e ∷ []) a.at)
    ∙ ap (λ K. is_flushed_in K (publication_in (slice_get (J ++ e ∷ []) a.index))) (drop-append-le (a.index + 1) J (e ∷ []) (omega (arith, a.within)))
    ∙ ap (λ g. is_flushed_in (drop (a.index + 1) J ++ e ∷ []) (publication_in g)) (slice_get-append J (e ∷ []) a.index a.within)
    ∙ ap (is_flushed_in (drop (a.index + 1) J ++ e ∷ [])) a.there
    ∙ any_push (flushes x.place.broker) (drop (a.index + 1) J) e
    ∙ sym (ap (λ o. is_flushed_in (drop (a.index + 1) J) o || flushes x.place.broker e) a.there)
    ∙ sym (ap (λ o. is_flushed_from J o || flushes x.place.broker e) a.at)

-- it needn't be stored, or it was flushed, or it has left
abbrev secured : Bool → Bool → Bool → Bool
secured must flushed left = not must || must && flushed || left

secured-push : (J : List Entry) (e : Entry) (c : ℕ) (x : Publication) → publication_of c J ≡ Some x →
    is_copy_secured (J ++ e ∷ []) c ≡ secured (must_be_stored J c) (is_flushed_from J (position (enters c) J) || flushes x.place.broker e) (is_left (standing_step c x (standing c J) e))
unfolding is_stored
secured-push J e c x h =
    let a : EnteredAt J c x = entered-at J c x h in
    ap (λ m. secured m (is_flushed_from (J ++ e ∷ []) (position (enters c) (J ++ e ∷ []))) (is_left (standing c (J ++ e ∷ [])))) (must-push J e c x a)
    ∙ ap (λ f. secured (must_be_stored J c) f (is_left (standing c (J ++ e ∷ [])))) (flushed-push J e c x a)
    ∙ ap (λ t. secured (must_be_stored J c) (is_flushed_from J (position (enters c) J) || flushes x.place.broker e) (is_left t)) (standing-push c x J e h)

stays-by : (must flushed flush left : Bool) (t : Standing) → secured must flushed left ≡ true → secured must (flushed || flush) (is_left (cond left Left t)) ≡ true
stays-by false flushed flush left t h = refl
stays-by true true flush left t h = refl
stays-by true false true true t h = refl
stays-by true false false true t h = refl
stays-by true false flush false t h = absurd (true≢false (sym h))

becomes-by : (must flushed flush left : Bool) (t : Standing) → secured must flushed left ≡ false → secured must (flushed || flush) (is_left (cond left Left t)) ≡ (flush || is_left t)
becomes-by false flushed flush left t h = absurd (true≢false h)
becomes-by true true flush left t h = absurd (true≢false h)
becomes-by true false flush true t h = absurd (true≢false h)
becomes-by true false flush false t h = refl

-- a secured copy is so for good
pub secured-stays : (J : List Entry) (e : Entry) (c : ℕ) (x : Publication) → publication_of c J ≡ Some x → is_copy_secured J c ≡ true → is_copy_secured (J ++ e ∷ []) c ≡ true
unfolding is_stored
secured-stays J e c x h was =
    secured-push J e c x h ∙ stays-by (must_be_stored J c) (is_flushed_from J (position (enters c) J)) (flushes x.place.broker e) (is_left (standing c J)) (moved c x (standing c J) e) was

-- what isn't secured becomes so where its broker flushes or it leaves its queue
pub secured-by : (J : List Entry) (e : Entry) (c : ℕ) (x : Publication) → publication_of c J ≡ Some x → is_copy_secured J c ≡ false → is_copy_secured (J ++ e ∷ []) c ≡ (flushes x.place.broker e || is_left (moved c x (standing c J) e))
unfolding is_stored
secured-by J e c x h was =
    secured-push J e c x h ∙ becomes-by (must_be_stored J c) (is_flushed_from J (position (enters c) J)) (flushes x.place.broker e) (is_left (standing c J)) (moved c x (standing c J) e) was

-- ---- a new publication

must-new : (J : List Entry) (x : Publication) (c : ℕ) → position (enters c) (J ++ Published x ∷ []) ≡ Some (length J) → must_be_stored (J ++ Published x ∷ []) c ≡ (is_persistent x.message && is_lasting_at J x.place (slice_get x.queues (c - x.first)))
unfolding must_be_stored
must-new J x c at =
    ap (must_be_stored_from (J ++ Published x ∷ []) c) at
    ∙ ap (λ K. must_be_stored_at K (publication_in (slice_get (J ++ Published x ∷ []) (length J))) c) (take_at J (Published x ∷ []) (length J) refl)
    ∙ ap (λ g. must_be_stored_at J (publication_in g) c) (slice_get-last J (Published x))

flushed-new : (J : List Entry) (x : Publication) (c : ℕ) → position (enters c) (J ++ Published x ∷ []) ≡ Some (length J) → is_flushed_from (J ++ Published x ∷ []) (position (enters c) (J ++ Published x ∷ [])) ≡ false
flushed-new J x c at =
    let longer : length (J ++ Published x ∷ []) ≡ length J + 1 = length-append J (Published x ∷ []) in
    ap (is_flushed_from (J ++ Published x ∷ [])) at
    ∙ ap (λ K. is_flushed_in K (publication_in (slice_get (J ++ Published x ∷ []) (length J)))) (drop_all (length J + 1) (J ++ Published x ∷ []) (omega (arith, longer)))
    ∙ ap (λ g. is_flushed_in [] (publication_in g)) (slice_get-last J (Published x))

new-by : (must : Bool) → secured must false false ≡ not must
new-by true = refl
new-by false = refl

-- a new copy is secured unless it must be stored
pub secured-new : (J : List Entry) (x : Publication) (c : ℕ) → publication_of c J ≡ None → is_copy_of x c ≡ true → is_copy_secured (J ++ Published x ∷ []) c ≡ not (is_persistent x.message && is_lasting_at J x.place (slice_get x.queues (c - x.first)))
unfolding is_stored
secured-new J x c none copy =
    let at : position (enters c) (J ++ Published x ∷ []) ≡ Some (length J) = position-last (enters c) J (Published x) (none-enters c J none) copy in
    ap (λ f. secured (must_be_stored (J ++ Published x ∷ []) c) f (is_left (standing c (J ++ Published x ∷ [])))) (flushed-new J x c at)
    ∙ ap (λ t. secured (must_be_stored (J ++ Published x ∷ []) c) false (is_left t)) (standing-fresh c x J none copy)
    ∙ new-by (must_be_stored (J ++ Published x ∷ []) c)
    ∙ ap not (must-new J x c at)

-- ---- what isn't secured

-- it is in its queue
pub unsecured-there : (J : List Entry) (c : ℕ) → is_copy_secured J c ≡ false → is_there J c ≡ true
unsecured-there J c h = ap not (or_parts (not (must_be_stored J c) || is_stored J c) (is_left (standing c J)) h).1

-- it must be stored
pub unsecured-must : (J : List Entry) (c : ℕ) → is_copy_secured J c ≡ false → must_be_stored J c ≡ true
unsecured-must J c h =
    not-false (must_be_stored J c) (or_parts (not (must_be_stored J c)) (is_stored J c) (or_parts (not (must_be_stored J c) || is_stored J c) (is_left (standing c J)) h).0).0
