-- Publications, their copies and the queues that these entered, in a journal that is one entry longer.
use Rattle.std.proofs.Common.{◌≡◌, ℕ, suc, ◌+◌, ◌<◌, List, [], ◌∷◌, ◌++◌, length, Bool, true, false, Some, None, arith, refl, sym, ap, subst, ◌∙◌, append-nil}
use Rattle.std.specs.Prelude.{cond, not, nat_lt, position, slice_get, fold}
use Rattle.std.specs.List.{position_or_len, cons_option}
use Rattle.std.proofs.lemmas.Bool.{lt-ltb, ltb-true}
use Rattle.std.proofs.lemmas.Option.{none-some, same_Some, cond_some}
use Rattle.std.proofs.lemmas.List.Sums.{fold-append}
use Rattle.std.proofs.lemmas.List.Elements.{filter_map-append}
use Rattle.fed_journal.specs.declared.place.Place.{Place}
use Rattle.fed_journal.specs.declared.entry.Publication.{Publication}
use Rattle.fed_journal.specs.declared.entry.Entry.{Entry}
use Rattle.fed_journal.specs.declared.entry.Entry.TheVariants.{Published}
use Rattle.fed_journal.specs.Names.{same_text}
use Rattle.fed_journal.specs.Copies.{Ready, is_copy_of, entered_by, entered, publication_of, standing, standing_step}
use Rattle.broker_view.specs.View.{HasHome}

-- ---- the publication of a copy

skip-by : (c : ℕ) (z : Publication) (B L : List Entry) (b : Bool) → cond b (Some z) (publication_of c B) ≡ None → (publication_of c B ≡ None → publication_of c (B ++ L) ≡ publication_of c L) → cond b (Some z) (publication_of c (B ++ L)) ≡ publication_of c L
skip-by c z B L true h later = absurd (none-some z (sym h))
skip-by c z B L false h later = later h

pub publication-skip : (c : ℕ) (B L : List Entry) → publication_of c B ≡ None → publication_of c (B ++ L) ≡ publication_of c L
unfolding publication_of
publication-skip c [] L h = refl
publication-skip c (Published z ∷ B) L h = skip-by c z B L (is_copy_of z c) h (publication-skip c B L)
publication-skip c (e ∷ B) L h = publication-skip c B L h

pub publication-head : (c : ℕ) (y : Publication) (L : List Entry) → is_copy_of y c ≡ true → publication_of c (Published y ∷ L) ≡ Some y
unfolding publication_of
publication-head c y L h = ap (λ b. cond b (Some y) (publication_of c L)) h

longer-by : (c : ℕ) (z y : Publication) (B L : List Entry) (b : Bool) → cond b (Some z) (publication_of c B) ≡ Some y → (publication_of c B ≡ Some y → publication_of c (B ++ L) ≡ Some y) → cond b (Some z) (publication_of c (B ++ L)) ≡ Some y
longer-by c z y B L true h later = h
longer-by c z y B L false h later = later h

pub publication-longer : (c : ℕ) (B L : List Entry) (y : Publication) → publication_of c B ≡ Some y → publication_of c (B ++ L) ≡ Some y
unfolding publication_of
publication-longer c [] L y h = absurd (none-some y h)
publication-longer c (Published z ∷ B) L y h = longer-by c z y B L (is_copy_of z c) h (publication-longer c B L y)
publication-longer c (e ∷ B) L y h = publication-longer c B L y h

-- ---- what has become of a copy

append-by : (c : ℕ) (x y : Publication) (K es : List Entry) (b : Bool) → cond b (Some y) (publication_of c K) ≡ Some x → (publication_of c K ≡ Some x → standing c (K ++ es) ≡ fold (standing_step c x) (standing c K) es) → cond b (fold (standing_step c y) Ready (K ++ es)) (standing c (K ++ es)) ≡ fold (standing_step c x) (cond b (fold (standing_step c y) Ready K) (standing c K)) es
append-by c x y K es true h later =
    fold-append (standing_step c y) Ready K es ∙ ap (λ z. fold (standing_step c z) (fold (standing_step c y) Ready K) es) (same_Some y x h)
append-by c x y K es false h later = later h

standing-append : (c : ℕ) (x : Publication) (K es : List Entry) → publication_of c K ≡ Some x → standing c (K ++ es) ≡ fold (standing_step c x) (standing c K) es
unfolding publication_of standing
standing-append c x [] es h = absurd (none-some x h)
standing-append c x (Published y ∷ K) es h = append-by c x y K es (is_copy_of y c) h (standing-append c x K es)
standing-append c x (e ∷ K) es h = standing-append c x K es h

-- one entry more does with the copy of the publication what it does
pub standing-push : (c : ℕ) (x : Publication) (K : List Entry) (e : Entry) → publication_of c K ≡ Some x → standing c (K ++ e ∷ []) ≡ standing_step c x (standing c K) e
standing-push c x K e h = standing-append c x K (e ∷ []) h

fresh-by : (c : ℕ) (x y : Publication) (K : List Entry) (b : Bool) → cond b (Some y) (publication_of c K) ≡ None → (publication_of c K ≡ None → standing c (K ++ Published x ∷ []) ≡ Ready) → cond b (fold (standing_step c y) Ready (K ++ Published x ∷ [])) (standing c (K ++ Published x ∷ [])) ≡ Ready
fresh-by c x y K true h later = absurd (none-some y (sym h))
fresh-by c x y K false h later = later h

-- a copy of a new publication is ready
pub standing-fresh : (c : ℕ) (x : Publication) (K : List Entry) → publication_of c K ≡ None → is_copy_of x c ≡ true → standing c (K ++ Published x ∷ []) ≡ Ready
unfolding publication_of standing
standing-fresh c x [] none copy = ap (λ b. cond b Ready (standing c [])) copy
standing-fresh c x (Published y ∷ K) none copy = fresh-by c x y K (is_copy_of y c) none (λ h. standing-fresh c x K h copy)
standing-fresh c x (e ∷ K) none copy = standing-fresh c x K none copy

-- ---- the copies that entered a queue

pub entered-push : (J : List Entry) (e : Entry) (p : Place) (q : List ℕ) → entered (J ++ e ∷ []) p q ≡ entered J p q ++ cons_option (entered_by p q e) []
unfolding entered
entered-push J e p q = filter_map-append (entered_by p q) J (e ∷ [])

-- an entry that is no publication there
pub entered-same : (J : List Entry) (e : Entry) (p : Place) (q : List ℕ) → entered_by p q e ≡ None → entered (J ++ e ∷ []) p q ≡ entered J p q
entered-same J e p q none = entered-push J e p q ∙ ap (λ o. entered J p q ++ cons_option o []) none ∙ append-nil (entered J p q)

pub home-longer : (J : List Entry) (e : Entry) (p : Place) (q : List ℕ) (c : ℕ) → HasHome J p q c → HasHome (J ++ e ∷ []) p q c
home-longer J e p q c h = record { publication = h.publication; of_copy = publication-longer c J (e ∷ []) h.publication h.of_copy; home = h.home }

-- ---- names

pub or_len-here : {X : Type 0} (p : X → Bool) (x : X) (xs : List X) → p x ≡ true → position_or_len p (x ∷ xs) ≡ 0
or_len-here p x xs h = ap (λ b. cond (not b) (1 + position_or_len p xs) 0) h

pub or_len-later : {X : Type 0} (p : X → Bool) (x : X) (xs : List X) → p x ≡ false → position_or_len p (x ∷ xs) ≡ suc (position_or_len p xs)
or_len-later p x xs h = ap (λ b. cond (not b) (1 + position_or_len p xs) 0) h ∙ omega arith

pub position-none : {X : Type 0} (p : X → Bool) (i : ℕ) → position p [] ≡ Some i → ⊥
position-none p i h = none-some i h

pub position-here : {X : Type 0} (p : X → Bool) (x : X) (xs : List X) (i : ℕ) → p x ≡ true → position p (x ∷ xs) ≡ Some i → i ≡ 0
position-here p x xs i h k =
    sym (cond_some (nat_lt (position_or_len p (x ∷ xs)) (length (x ∷ xs))) (position_or_len p (x ∷ xs)) i k).1 ∙ or_len-here p x xs h

pub position-later : {X : Type 0} (p : X → Bool) (x : X) (xs : List X) (i : ℕ) → p x ≡ false → position p (x ∷ xs) ≡ Some i → (j : ℕ) × (i ≡ suc j) × (position p xs ≡ Some j)
position-later p x xs i h k =
    let n : ℕ = position_or_len p xs in
    let parts : (nat_lt (position_or_len p (x ∷ xs)) (length (x ∷ xs)) ≡ true) × (position_or_len p (x ∷ xs) ≡ i) = cond_some (nat_lt (position_or_len p (x ∷ xs)) (length (x ∷ xs))) (position_or_len p (x ∷ xs)) i k in
    let later : position_or_len p (x ∷ xs) ≡ suc n = or_len-later p x xs h in
    let within : position_or_len p (x ∷ xs) < length (x ∷ xs) = ltb-true (position_or_len p (x ∷ xs)) (length (x ∷ xs)) parts.0 in
    (n, sym parts.1 ∙ later, ap (λ b. cond b (Some n) None) (lt-ltb n (length xs) (omega (arith, later, within))))

pub position-within : {X : Type 0} (p : X → Bool) (xs : List X) (i : ℕ) → position p xs ≡ Some i → i < length xs
position-within p xs i h =
    let parts : (nat_lt (position_or_len p xs) (length xs) ≡ true) × (position_or_len p xs ≡ i) = cond_some (nat_lt (position_or_len p xs) (length xs)) (position_or_len p xs) i h in
    subst (λ n. n < length xs) parts.1 (ltb-true (position_or_len p xs) (length xs) parts.0)

name-by : (q n : List ℕ) (ns : List (List ℕ)) (i : ℕ) (b : Bool) → same_text q n ≡ b → position (same_text q) (n ∷ ns) ≡ Some i → ((j : ℕ) → position (same_text q) ns ≡ Some j → (m : List ℕ) × (slice_get ns j ≡ Some m) × (same_text q m ≡ true)) → (m : List ℕ) × (slice_get (n ∷ ns) i ≡ Some m) × (same_text q m ≡ true)
name-by q n ns i true e h later =
    (n, ap (slice_get (n ∷ ns)) (position-here (same_text q) n ns i e h), e)
name-by q n ns i false e h later =
    let s : (j : ℕ) × (i ≡ suc j) × (position (same_text q) ns ≡ Some j) = position-later (same_text q) n ns i e h in
    let found : (m : List ℕ) × (slice_get ns s.0 ≡ Some m) × (same_text q m ≡ true) = later s.0 s.2 in
    (found.0, ap (slice_get (n ∷ ns)) s.1 ∙ found.1, found.2)

-- the name that stands at the first place of a name
pub name-at : (q : List ℕ) (ns : List (List ℕ)) (i : ℕ) → position (same_text q) ns ≡ Some i → (m : List ℕ) × (slice_get ns i ≡ Some m) × (same_text q m ≡ true)
name-at q [] i h = absurd (position-none (same_text q) i h)
name-at q (n ∷ ns) i h = name-by q n ns i (same_text q n) refl h (name-at q ns)
