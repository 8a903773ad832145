-- A publication's copies enter the queues.
use Rattle.std.proofs.Common.{◌≡◌, ℕ, ◌+◌, ◌-◌, ◌<◌, List, [], ◌∷◌, ◌++◌, length, Bool, true, false, cond, Option, Some, None, arith, refl, sym, ap, subst, ◌∙◌, map, append-nil}
use Rattle.std.specs.Prelude.{All, filter, position, slice_get, option_map, nat_le, nat_lt}
use Rattle.std.specs.List.{cons_option}
use Rattle.std.proofs.lemmas.Bool.{and_from, le-leb, lt-ltb}
use Rattle.std.proofs.lemmas.List.Elements.{All-push, All-weaker}
use Rattle.queue_core.specs.declared.rows.Hold.TheVariants as numbers
use Rattle.queue_core.specs.declared.rows.Row.{Row}
use Rattle.queue_core.specs.Rows as rows
use Rattle.fed_journal.specs.declared.place.Place.{Place}
use Rattle.fed_journal.specs.declared.entry.Publication.{Publication}
use Rattle.fed_journal.specs.declared.entry.Entry.{Entry}
use Rattle.fed_journal.specs.declared.entry.Entry.TheVariants.{Published}
use Rattle.fed_journal.specs.Names.{same_text, same_place}
use Rattle.fed_journal.specs.Copies.{is_copy_of, is_home, is_name_of, copy_count, publication_of, entered}
use Rattle.mini_broker.specs.Publish.{first_of}
use Rattle.mini_broker.specs.State.{VhostState}
use Rattle.broker_view.specs.View.{HasHome, HaveHomes, HasCopies, StandsAs, RowStands, is_there, rows_in}
use Rattle.broker_view.specs.Suits.{Suits}
use Rattle.broker_view.proofs.Names.{same_text-true, same_text-refl}
use Rattle.broker_view.proofs.Publications.{publication-skip, publication-head, standing-fresh, entered-push, entered-same, home-longer, name-at, position-within}
use Rattle.broker_view.proofs.Matching.{Matches, change-all, none-changed, row-there}
use Rattle.broker_view.proofs.Copies.{Keeps, away, row-stays}
use Rattle.broker_view.proofs.EnteredRows.{entering}
use Rattle.broker_view.proofs.HeldHome.{held-step}

-- ---- homes

-- the numbers of a publication's copies are new
pub new-first : (n first k : ℕ) (qs : List (List ℕ)) → first ≡ first_of (n + 1) qs → k < length qs → n < first + k
new-first n first k [] e h = absurd (omega (arith, h))
new-first n first k (q ∷ qs) e h = omega (arith, e)

-- they are the publication's
pub copy-at : (x : Publication) (k : ℕ) → k < length x.queues → is_copy_of x (x.first + k) ≡ true
copy-at x k h = and_from (nat_le x.first (x.first + k)) (nat_lt (x.first + k - x.first) (length x.queues)) (le-leb x.first (x.first + k) (omega arith)) (lt-ltb (x.first + k - x.first) (length x.queues) (omega (arith, h)))

-- the copy that enters the queue is new, and at home there
pub record IsNew (J : List Entry) (x : Publication) (p : Place) (q : List ℕ) (c : ℕ) : Type 0 where
  pub unknown : publication_of c J ≡ None
  pub copy : is_copy_of x c ≡ true
  pub home : is_home x c p q ≡ true

home-at : (x : Publication) (p : Place) (q : List ℕ) (k : ℕ) → same_place x.place p ≡ true → (m : List ℕ) × (slice_get x.queues k ≡ Some m) × (same_text q m ≡ true) → is_home x (x.first + k) p q ≡ true
home-at x p q k place at =
    let away : x.first + k - x.first ≡ k = omega arith in
    let name : slice_get x.queues (x.first + k - x.first) ≡ Some at.0 = ap (slice_get x.queues) away ∙ at.1 in
    and_from (same_place x.place p) (is_name_of q (slice_get x.queues (x.first + k - x.first))) place
    (ap (is_name_of q) name ∙ ap (λ n. same_text n q) (sym (same_text-true q at.0 at.2)) ∙ same_text-refl q)

pub is-new : (J : List Entry) (x : Publication) (p : Place) (q : List ℕ) (k : ℕ) → ((c : ℕ) → copy_count J < c → publication_of c J ≡ None) → Suits J (Published x) → same_place x.place p ≡ true → position (same_text q) x.queues ≡ Some k → IsNew J x p q (x.first + k)
is-new J x p q k known suits place at = record {
  unknown = known (x.first + k) (new-first (copy_count J) x.first k x.queues suits.0 (position-within (same_text q) x.queues k at));
  copy = copy-at x k (position-within (same_text q) x.queues k at);
  home = home-at x p q k place (name-at q x.queues k at);
}

new-home : (J : List Entry) (x : Publication) (p : Place) (q : List ℕ) (c : ℕ) → IsNew J x p q c → HasHome (J ++ Published x ∷ []) p q c
new-home J x p q c new = record { publication = x; of_copy = publication-skip c J (Published x ∷ []) new.unknown ∙ publication-head c x [] new.copy; home = new.home }

homes-longer : (J : List Entry) (e : Entry) (p : Place) (q : List ℕ) → HaveHomes J → All (HasHome (J ++ e ∷ []) p q) (entered J p q)
homes-longer J e p q homes = All-weaker (HasHome J p q) (HasHome (J ++ e ∷ []) p q) (λ c. home-longer J e p q c) (entered J p q) (homes p q)

homes-entered : (J : List Entry) (x : Publication) (p : Place) (q : List ℕ) (o : Option ℕ) → ((c : ℕ) → copy_count J < c → publication_of c J ≡ None) → Suits J (Published x) → HaveHomes J → same_place x.place p ≡ true → position (same_text q) x.queues ≡ o → All (HasHome (J ++ Published x ∷ []) p q) (entered J p q ++ cons_option (option_map (λ k. x.first + k) o) [])
homes-entered J x p q None known suits homes place at = subst (All (HasHome (J ++ Published x ∷ []) p q)) (sym (append-nil (entered J p q))) (homes-longer J (Published x) p q homes)
homes-entered J x p q (Some k) known suits homes place at =
    All-push (HasHome (J ++ Published x ∷ []) p q) (entered J p q) (x.first + k) (homes-longer J (Published x) p q homes) (new-home J x p q (x.first + k) (is-new J x p q k known suits place at))

homes-by : (J : List Entry) (x : Publication) (p : Place) (q : List ℕ) (b : Bool) → ((c : ℕ) → copy_count J < c → publication_of c J ≡ None) → Suits J (Published x) → HaveHomes J → same_place x.place p ≡ b → All (HasHome (J ++ Published x ∷ []) p q) (entered J p q ++ cons_option (cond b (option_map (λ k. x.first + k) (position (same_text q) x.queues)) None) [])
homes-by J x p q true known suits homes place = homes-entered J x p q (position (same_text q) x.queues) known suits homes place refl
homes-by J x p q false known suits homes place = subst (All (HasHome (J ++ Published x ∷ []) p q)) (sym (append-nil (entered J p q))) (homes-longer J (Published x) p q homes)

-- every copy has its home after one entry more
pub homes-step : (J : List Entry) (e : Entry) → ((c : ℕ) → copy_count J < c → publication_of c J ≡ None) → Suits J e → HaveHomes J → HaveHomes (J ++ e ∷ [])
homes-step J (Published x) known suits homes = λ p q.
    subst (All (HasHome (J ++ Published x ∷ []) p q)) (sym (entered-push J (Published x) p q)) (homes-by J x p q (same_place x.place p) known suits homes refl)
homes-step J e known suits homes = λ p q. subst (All (HasHome (J ++ e ∷ []) p q)) (sym (entered-same J e p q refl)) (homes-longer J e p q homes)

-- ---- rows

map-push : (row : Row) (rs : List Row) → map (λ (r : Row). r.copy) (rs ++ row ∷ []) ≡ map (λ (r : Row). r.copy) rs ++ row.copy ∷ []
map-push row [] = refl
map-push row (r ∷ rs) = ap (λ ns. r.copy ∷ ns) (map-push row rs)

kept-by : (test : ℕ → Bool) (c : ℕ) (b : Bool) (rest rest' : List ℕ) → rest ≡ rest' ++ c ∷ [] → (x : ℕ) → cond b (x ∷ rest) rest ≡ cond b (x ∷ rest') rest' ++ c ∷ []
kept-by test c true rest rest' e x = ap (λ ns. x ∷ ns) e
kept-by test c false rest rest' e x = e

filter-push : (test : ℕ → Bool) (cs : List ℕ) (c : ℕ) → test c ≡ true → filter test (cs ++ c ∷ []) ≡ filter test cs ++ c ∷ []
filter-push test [] c on = ap (λ b. cond b (c ∷ []) []) on
filter-push test (x ∷ cs) c on = kept-by test c (test x) (filter test (cs ++ c ∷ [])) (filter test cs) (filter-push test cs c on) x

matches-push : (K : List Entry) (p : Place) (w : VhostState) (rs : List Row) (cs : List ℕ) (row : Row) → Matches K p w rs cs → RowStands K p w row → Matches K p w (rs ++ row ∷ []) (cs ++ row.copy ∷ [])
matches-push K p w rs cs row m k = record {
  numbers = map-push row rs ∙ ap (λ ns. ns ++ row.copy ∷ []) m.numbers ∙ sym (filter-push (is_there K) cs row.copy (row-there K p w row k));
  stand = All-push (RowStands K p w) rs row m.stand k;
}

new-stands : (J : List Entry) (x : Publication) (p : Place) (q : List ℕ) (w : VhostState) (c : ℕ) → IsNew J x p q c → RowStands (J ++ Published x ∷ []) p w (rows.entered c)
new-stands J x p q w c new = subst (λ t. StandsAs (J ++ Published x ∷ []) p w c t numbers.Ready) (sym (standing-fresh c x J new.unknown new.copy)) tt

published-by : (J : List Entry) (x : Publication) (p : Place) (q : List ℕ) (w : VhostState) (rs : List Row) (cs : List ℕ) (o : Option ℕ) → ((k : ℕ) → o ≡ Some k → IsNew J x p q (x.first + k)) → Matches (J ++ Published x ∷ []) p w rs cs → Matches (J ++ Published x ∷ []) p w (rs ++ cons_option (option_map (λ k. rows.entered (x.first + k)) o) []) (cs ++ cons_option (option_map (λ k. x.first + k) o) [])
published-by J x p q w rs cs None new m = subst (λ ns. Matches (J ++ Published x ∷ []) p w (rs ++ []) ns) (sym (append-nil cs)) (subst (λ r. Matches (J ++ Published x ∷ []) p w r cs) (sym (append-nil rs)) m)
published-by J x p q w rs cs (Some k) new m = matches-push (J ++ Published x ∷ []) p w rs cs (rows.entered (x.first + k)) m (new-stands J x p q w (x.first + k) (new k refl))

-- what was there before, as the longer journal has it
still-matches : (J : List Entry) (x : Publication) (p : Place) (q : List ℕ) (v w : VhostState) → HasCopies J p v → Keeps J p v (Published x) w → Matches (J ++ Published x ∷ []) p w (rows_in q v.queues) (entered J p q)
still-matches J x p q v w has keeps =
    subst (λ rs. Matches (J ++ Published x ∷ []) p w rs (entered J p q)) (none-changed (rows_in q v.queues))
    (change-all J (J ++ Published x ∷ []) p q v w (λ row. Some row)
    (record { follows = λ row h k. row-stays J (Published x) p q v w row row h tt keeps k refl refl refl; away = away J (Published x) p q })
    (entered J p q) (rows_in q v.queues) (has.homes p q) (record { numbers = has.numbers q; stand = has.rows q }))

-- the rows of the place after a publication there
published-matches : (J : List Entry) (x : Publication) (p : Place) (q : List ℕ) (v w : VhostState) → ((c : ℕ) → copy_count J < c → publication_of c J ≡ None) → Suits J (Published x) → same_place x.place p ≡ true → HasCopies J p v → Keeps J p v (Published x) w → rows_in q w.queues ≡ rows_in q v.queues ++ entering q x.queues x.first → Matches (J ++ Published x ∷ []) p w (rows_in q w.queues) (entered (J ++ Published x ∷ []) p q)
published-matches J x p q v w known suits place has keeps same =
    subst (λ rs. Matches (J ++ Published x ∷ []) p w rs (entered (J ++ Published x ∷ []) p q)) (sym same)
    (subst (λ cs. Matches (J ++ Published x ∷ []) p w (rows_in q v.queues ++ entering q x.queues x.first) cs)
    (sym (entered-push J (Published x) p q ∙ ap (λ b. entered J p q ++ cons_option (cond b (option_map (λ k. x.first + k) (position (same_text q) x.queues)) None) []) place))
    (published-by J x p q w (rows_in q v.queues) (entered J p q) (position (same_text q) x.queues) (λ k at. is-new J x p q k known suits place at) (still-matches J x p q v w has keeps)))

pub published-copies : (J : List Entry) (x : Publication) (p : Place) (v w : VhostState) → ((c : ℕ) → copy_count J < c → publication_of c J ≡ None) → Suits J (Published x) → same_place x.place p ≡ true → HasCopies J p v → Keeps J p v (Published x) w → ((q : List ℕ) → rows_in q w.queues ≡ rows_in q v.queues ++ entering q x.queues x.first) → HasCopies (J ++ Published x ∷ []) p w
published-copies J x p v w known suits place has keeps same = record {
  homes = homes-step J (Published x) known suits has.homes;
  held = held-step J (Published x) suits has.held;
  numbers = λ q. (published-matches J x p q v w known suits place has keeps (same q)).numbers;
  rows = λ q. (published-matches J x p q v w known suits place has keeps (same q)).stand;
}
