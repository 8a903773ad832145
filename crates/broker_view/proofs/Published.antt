-- A journal that is one entry longer finds its publications, each by its number and by its copies, and these in their queues.
use Rattle.std.proofs.Common.{◌≡◌, ℕ, zero, suc, ◌+◌, ◌-◌, ◌<◌, ◌≤◌, ◌==◌, ◌||◌, List, [], ◌∷◌, ◌++◌, length, Bool, true, false, cond, ◌&&◌, Some, None, All, find, position, slice_get, option_map, nat_le, nat_lt, true≢false, arith, refl, sym, ap, subst, ◌∙◌, append-nil}
use Rattle.std.specs.List.{list_any, cons_option, position_from}
use Rattle.std.specs.Option.{option_or}
use Rattle.std.proofs.lemmas.Bool.{false≢true, false_from_ne_true, and_parts, or_from, or_left, or_right, eqb-true, eq-eqb, leb-true, ltb-true}
use Rattle.std.proofs.lemmas.Iterator.Adapters.{position_from-zero}
use Rattle.std.proofs.lemmas.List.Elements.{All-nil, All-head, All-tail, All-push, All-weaker, filter_map-append}
use Rattle.std.proofs.lemmas.List.Folds.{find-append, list_any-append, list_any_none}
use Rattle.std.proofs.lemmas.List.Sums.{sum_by_push}
use Rattle.fed_journal.specs.declared.place.Place.{Place}
use Rattle.fed_journal.specs.declared.entry.Publication.{Publication}
use Rattle.fed_journal.specs.declared.entry.Entry.{Entry}
use Rattle.fed_journal.specs.declared.entry.Entry.TheVariants.{Published, Confirmed}
use Rattle.fed_journal.specs.Names.{same_text, same_place}
use Rattle.fed_journal.specs.Copies.{is_publication, publication_in, publication_count, copy_count, entered_by, entered, is_copy_of, is_name_of, is_home, is_secured, is_secured_at, find_publication, publication_of}
use Rattle.fed_journal.specs.Flight.{has, is_number, confirmed_to}
use Rattle.broker_view.specs.View.{AreDistinct}
use Rattle.broker_view.specs.Suits.{Suits}
use Rattle.broker_view.specs.Confirms.{publications, IsKnown, Rising, HasPublications}
use Rattle.broker_view.proofs.Finds.{any-find}
use Rattle.broker_view.proofs.Names.{same_text-true, same_text-sym}
use Rattle.broker_view.proofs.Publications.{publication-skip, publication-head, publication-longer, entered-push}
use Rattle.broker_view.proofs.PublishedStep.{new-first}
use Rattle.broker_view.proofs.Reached.{routes-distinct}

-- ---- one entry more

-- an entry adds the publication that it is
pub publications-push : (J : List Entry) (e : Entry) → publications (J ++ e ∷ []) ≡ publications J ++ cons_option (publication_in (Some e)) []
publications-push J e = filter_map-append (λ e. publication_in (Some e)) J (e ∷ [])

-- an entry that is no publication
pub publications-same : (J : List Entry) (e : Entry) → publication_in (Some e) ≡ None → publications (J ++ e ∷ []) ≡ publications J
publications-same J e none = publications-push J e ∙ ap (λ o. publications J ++ cons_option o []) none ∙ append-nil (publications J)

pub published-count : (J : List Entry) (e : Entry) → publication_count (J ++ e ∷ []) ≡ publication_count J + cond (is_publication e) 1 0
unfolding publication_count
published-count J e = sum_by_push (λ e. cond (is_publication e) 1 0) J e

-- ---- a publication by its number

abbrev is_numbered : ℕ → Publication → Bool
is_numbered n x = x.number == n

found-among : (n : ℕ) (J : List Entry) → find_publication n J ≡ find (is_numbered n) (publications J)
unfolding find_publication
found-among n [] = refl
found-among n (Published x ∷ J) = ap (cond (x.number == n) (Some x)) (found-among n J)
found-among n (e ∷ J) = found-among n J

found-append : (n : ℕ) (J : List Entry) (e : Entry) → find_publication n (J ++ e ∷ []) ≡ option_or (find_publication n J) (find (is_numbered n) (cons_option (publication_in (Some e)) []))
found-append n J e =
    found-among n (J ++ e ∷ [])
    ∙ ap (find (is_numbered n)) (publications-push J e)
    ∙ find-append (is_numbered n) (publications J) (cons_option (publication_in (Some e)) [])
    ∙ ap (λ o. option_or o (find (is_numbered n) (cons_option (publication_in (Some e)) []))) (sym (found-among n J))

found-longer : (n : ℕ) (J : List Entry) (e : Entry) (x : Publication) → find_publication n J ≡ Some x → find_publication n (J ++ e ∷ []) ≡ Some x
found-longer n J e x h = found-append n J e ∙ ap (λ o. option_or o (find (is_numbered n) (cons_option (publication_in (Some e)) []))) h

found-new : (J : List Entry) (x : Publication) → find_publication x.number J ≡ None → find_publication x.number (J ++ Published x ∷ []) ≡ Some x
found-new J x none =
    found-append x.number J (Published x)
    ∙ ap (λ o. option_or o (cond (x.number == x.number) (Some x) None)) none
    ∙ ap (λ b. cond b (Some x) None) (eq-eqb x.number x.number refl)

-- no publication has a number beyond their count
unpublished : (J : List Entry) (n : ℕ) → HasPublications J → publication_count J < n → find_publication n J ≡ None
unpublished J n says far =
    found-among n J
    ∙ any-find (is_numbered n) (publications J)
    (list_any_none (is_numbered n) (publications J)
    (All-weaker (IsKnown J) (λ x. (x.number == n) ≡ false) (λ x known. false_from_ne_true (x.number == n) (λ same. omega (arith, eqb-true x.number n same, known.last, far))) (publications J) says.known))

unsecured : (J : List Entry) (n : ℕ) → HasPublications J → publication_count J < n → is_secured J n ≡ false
unfolding is_secured
unsecured J n says far = ap (is_secured_at J) (unpublished J n says far)

-- ---- a copy in its queue

named-there : (q : List ℕ) (ns : List (List ℕ)) (i : ℕ) → is_name_of q (slice_get ns i) ≡ true → list_any (same_text q) ns ≡ true
named-there q [] i h = absurd (false≢true h)
named-there q (n ∷ ns) zero h = or_left (same_text q n) (list_any (same_text q) ns) (same_text-sym q n ∙ h)
named-there q (n ∷ ns) (suc i) h = or_right (same_text q n) (list_any (same_text q) ns) (named-there q ns i h)

another-name : (q n : List ℕ) (ns : List (List ℕ)) → list_any (same_text n) ns ≡ false → list_any (same_text q) ns ≡ true → same_text q n ≡ false
another-name q n ns off on = false_from_ne_true (same_text q n) (λ same. true≢false (sym on ∙ ap (λ m. list_any (same_text m) ns) (same_text-true q n same) ∙ off))

from-name : (q : List ℕ) (k : ℕ) (ns : List (List ℕ)) (i : ℕ) → AreDistinct ns → is_name_of q (slice_get ns i) ≡ true → position_from (same_text q) k ns ≡ Some (k + i)
from-name q k [] i apart h = absurd (false≢true h)
from-name q k (n ∷ ns) zero apart h =
    ap (λ b. cond b (Some k) (position_from (same_text q) (k + 1) ns)) (same_text-sym q n ∙ h) ∙ ap Some (omega arith)
from-name q k (n ∷ ns) (suc i) apart h =
    ap (λ b. cond b (Some k) (position_from (same_text q) (k + 1) ns)) (another-name q n ns apart.0 (named-there q ns i h)) ∙ from-name q (k + 1) ns i apart.1 h ∙ ap Some (omega arith)

-- of distinct names, the one at a place is found there
position-name : (q : List ℕ) (ns : List (List ℕ)) (i : ℕ) → AreDistinct ns → is_name_of q (slice_get ns i) ≡ true → position (same_text q) ns ≡ Some i
position-name q ns i apart h = position_from-zero (same_text q) ns ∙ from-name q 0 ns i apart h ∙ ap Some (omega arith)

-- the copy's number in terms of the publication's first
record IsAt (x : Publication) (c : ℕ) : Type 0 where
  pub low : x.first ≤ c
  pub high : c - x.first < length x.queues

copy-at : (x : Publication) (c : ℕ) → is_copy_of x c ≡ true → IsAt x c
copy-at x c copy =
    let parts : (nat_le x.first c ≡ true) × (nat_lt (c - x.first) (length x.queues) ≡ true) = and_parts (nat_le x.first c) (nat_lt (c - x.first) (length x.queues)) copy in
    record { low = leb-true x.first c parts.0; high = ltb-true (c - x.first) (length x.queues) parts.1 }

copy-beyond : (J : List Entry) (x : Publication) (c : ℕ) → Suits J (Published x) → is_copy_of x c ≡ true → copy_count J < c
copy-beyond J x c suits copy =
    let at : IsAt x c = copy-at x c copy in
    omega (arith, at.low, new-first (copy_count J) x.first (c - x.first) x.queues suits.0 at.high)

enters-home : (J : List Entry) (x : Publication) (c : ℕ) (p : Place) (q : List ℕ) → Suits J (Published x) → is_copy_of x c ≡ true → is_home x c p q ≡ true → entered_by p q (Published x) ≡ Some c
enters-home J x c p q suits copy home =
    let parts : (same_place x.place p ≡ true) × (is_name_of q (slice_get x.queues (c - x.first)) ≡ true) = and_parts (same_place x.place p) (is_name_of q (slice_get x.queues (c - x.first))) home in
    ap (λ b. cond b (option_map (λ k. x.first + k) (position (same_text q) x.queues)) None) parts.0
    ∙ ap (option_map (λ k. x.first + k)) (position-name q x.queues (c - x.first) (subst AreDistinct (sym suits.1) (routes-distinct J x.place x.message)) parts.1)
    ∙ ap Some (omega (arith, (copy-at x c copy).low))

abbrev is_among : ℕ → List ℕ → Bool
is_among c copies = list_any (λ n. n == c) copies

entered-append : (J : List Entry) (e : Entry) (c : ℕ) (p : Place) (q : List ℕ) → is_among c (entered (J ++ e ∷ []) p q) ≡ (is_among c (entered J p q) || is_among c (cons_option (entered_by p q e) []))
entered-append J e c p q = ap (is_among c) (entered-push J e p q) ∙ list_any-append (λ n. n == c) (entered J p q) (cons_option (entered_by p q e) [])

-- ---- what is known of a publication

known-longer : (J : List Entry) (e : Entry) (x : Publication) → IsKnown J x → IsKnown (J ++ e ∷ []) x
known-longer J e x known = record {
  found = found-longer x.number J e x known.found;
  last = omega (arith, known.last, published-count J e);
  copies = λ c copy. publication-longer c J (e ∷ []) x (known.copies c copy);
  homes = λ c p q copy home. entered-append J e c p q ∙ or_left (is_among c (entered J p q)) (is_among c (cons_option (entered_by p q e) [])) (known.homes c p q copy home);
}

known-new : (J : List Entry) (x : Publication) → HasPublications J → ((c : ℕ) → copy_count J < c → publication_of c J ≡ None) → Suits J (Published x) → IsKnown (J ++ Published x ∷ []) x
known-new J x says counted suits = record {
  found = found-new J x (unpublished J x.number says (omega (arith, suits.2)));
  last = (let more : publication_count (J ++ Published x ∷ []) ≡ publication_count J + 1 = published-count J (Published x) in omega (arith, suits.2, more));
  copies = λ c copy. publication-skip c J (Published x ∷ []) (counted c (copy-beyond J x c suits copy)) ∙ publication-head c x [] copy;
  homes = λ c p q copy home.
      entered-append J (Published x) c p q
      ∙ or_right (is_among c (entered J p q)) (is_among c (cons_option (entered_by p q (Published x)) []))
      (ap (λ o. is_among c (cons_option o [])) (enters-home J x c p q suits copy home) ∙ or_left (c == c) false (eq-eqb c c refl));
}

known-step : (J : List Entry) (e : Entry) → HasPublications J → ((c : ℕ) → copy_count J < c → publication_of c J ≡ None) → Suits J e → All (IsKnown (J ++ e ∷ [])) (publications J ++ cons_option (publication_in (Some e)) [])
known-step J (Published x) says counted suits =
    All-push (IsKnown (J ++ Published x ∷ [])) (publications J) x (All-weaker (IsKnown J) (IsKnown (J ++ Published x ∷ [])) (known-longer J (Published x)) (publications J) says.known) (known-new J x says counted suits)
known-step J e says counted suits =
    subst (All (IsKnown (J ++ e ∷ []))) (sym (append-nil (publications J))) (All-weaker (IsKnown J) (IsKnown (J ++ e ∷ [])) (known-longer J e) (publications J) says.known)

-- ---- their order

rising-push : (xs : List Publication) (x : Publication) → Rising xs → All (λ earlier. earlier.number < x.number) xs → Rising (xs ++ x ∷ [])
rising-push [] x rises below = (All-nil (λ (later : Publication). x.number < later.number), tt)
rising-push (y ∷ xs) x rises below =
    (All-push (λ (later : Publication). y.number < later.number) xs x rises.0 (All-head (λ (earlier : Publication). earlier.number < x.number) y xs below), rising-push xs x rises.1 (All-tail (λ (earlier : Publication). earlier.number < x.number) y xs below))

rising-step : (J : List Entry) (e : Entry) → HasPublications J → Suits J e → Rising (publications J ++ cons_option (publication_in (Some e)) [])
rising-step J (Published x) says suits =
    rising-push (publications J) x says.rising (All-weaker (IsKnown J) (λ earlier. earlier.number < x.number) (λ earlier known. omega (arith, known.last, suits.2)) (publications J) says.known)
rising-step J e says suits = subst Rising (sym (append-nil (publications J))) says.rising

-- ---- what isn't published isn't confirmed

unanswered-by : (J : List Entry) (e : Entry) (l : List ℕ) (s n : ℕ) → HasPublications J → Suits J e → publication_count J < n → is_number n (confirmed_to l s e) ≡ false
unanswered-by J (Confirmed link session number) l s n says suits far =
    elim (same_text link l && session == s) as (λ b. is_number n (cond b (Some number) None) ≡ false) [
      | true ↦ false_from_ne_true (number == n) (λ same. true≢false (sym suits ∙ ap (is_secured J) (eqb-true number n same) ∙ unsecured J n says far))
      | false ↦ refl
    ]
unanswered-by J e l s n says suits far = refl

-- ---- each journal

-- nothing is published before a run
pub no-publications : HasPublications []
no-publications = record { known = All-nil (IsKnown []); rising = tt; unanswered = λ l s n far. refl }

-- publications have the next numbers, and their copies enter the queues that they are routed to
pub publications-step : (J : List Entry) (e : Entry) → HasPublications J → ((c : ℕ) → copy_count J < c → publication_of c J ≡ None) → Suits J e → HasPublications (J ++ e ∷ [])
publications-step J e says counted suits = record {
  known = subst (All (IsKnown (J ++ e ∷ []))) (sym (publications-push J e)) (known-step J e says counted suits);
  rising = subst Rising (sym (publications-push J e)) (rising-step J e says suits);
  unanswered = λ l s n far.
      let before : publication_count J < n = omega (arith, far, published-count J e) in
      list_any-append (λ e. is_number n (confirmed_to l s e)) J (e ∷ [])
      ∙ or_from (has (confirmed_to l s) n J) (is_number n (confirmed_to l s e) || false) (says.unanswered l s n before) (or_from (is_number n (confirmed_to l s e)) false (unanswered-by J e l s n says suits before) refl);
}
