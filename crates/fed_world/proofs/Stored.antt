-- A copy that is alive and stored stays so while nothing removes it.
use Rattle.std.proofs.Common.{◌≡◌, ℕ, ◌+◌, ◌<◌, List, [], ◌∷◌, ◌++◌, length, Bool, true, false, Option, Some, None, arith, refl, sym, subst, ap, take, drop, ◌∙◌, append_assoc, append-nil}
use Rattle.std.specs.Prelude.{Ok, Err, not, cond, nat_lt, position, slice_get}
use Rattle.std.specs.List.{list_any, position_or_len}
use Rattle.std.proofs.lemmas.Bool.{true≢false, false≢true, and_parts, and_from, or_left, ltb-true, lt-ltb, ne_eqb, not-true, not_from_false}
use Rattle.std.proofs.lemmas.Option.{cond_some}
use Rattle.std.proofs.lemmas.List.Folds.{list_any-append, prefix_len-append}
use Rattle.std.proofs.lemmas.List.{take-append-le, drop-append-le, length-append}
use Rattle.fed_journal.specs.declared.event.Event.{Event}
use Rattle.fed_journal.specs.declared.entry.Publication.{Publication}
use Rattle.fed_journal.specs.declared.entry.Entry.{Entry}
use Rattle.fed_journal.specs.declared.entry.Entry.TheVariants.{GoneQueue}
use Rattle.fed_journal.specs.Copies.{is_left, is_home, standing, publication_of, enters, flushes, is_gone, is_stored, must_be_stored, must_be_stored_from, must_be_stored_at, is_flushed_from, is_flushed_in, publication_in}
use Rattle.broker_view.proofs.Publications.{standing-push, position-within}
use Rattle.broker_view.proofs.Secured.{slice_get-append}
use Rattle.fed_journal.specs.Row.{Row}
use Rattle.fed_world.specs.Step.{next, after}
use Rattle.fed_world.specs.Run.{run, moment}
use Rattle.fed_world.specs.Kept.{is_alive, EachMoment, KeepsStored}
use Rattle.fed_world.proofs.RowHas.{RowHas}
use Rattle.fed_world.proofs.Causes.{Caused, EachCaused, caused-append}
use Rattle.fed_world.proofs.Homes.{stored-home}
use Rattle.fed_world.proofs.RowCaused.{next-caused}
use Rattle.fed_world.proofs.Spares.{Spares, SparesEach, takes_away, next-spares}
use Rattle.fed_world.proofs.Standings.{published-of}

position_or_len-append : {X : Type 0} (p : X → Bool) (xs ys : List X) → position_or_len p xs < length xs → position_or_len p (xs ++ ys) ≡ position_or_len p xs
position_or_len-append p xs ys h =
    prefix_len-append (λ x. not (p x)) xs ys
    ∙ ap (λ b. cond b (length xs + position_or_len p ys) (position_or_len p xs)) (ne_eqb (position_or_len p xs) (length xs) (λ e. omega (arith, h, e)))

-- the first place stays the first
position-append : {X : Type 0} (p : X → Bool) (xs ys : List X) (i : ℕ) → position p xs ≡ Some i → position p (xs ++ ys) ≡ Some i
position-append p xs ys i h =
    let parts : (nat_lt (position_or_len p xs) (length xs) ≡ true) × (position_or_len p xs ≡ i) = cond_some (nat_lt (position_or_len p xs) (length xs)) (position_or_len p xs) i h in
    let within : position_or_len p xs < length xs = ltb-true (position_or_len p xs) (length xs) parts.0 in
    let same : position_or_len p (xs ++ ys) ≡ i = position_or_len-append p xs ys within ∙ parts.1 in
    let longer : length (xs ++ ys) ≡ length xs + length ys = length-append xs ys in
    subst (λ n. cond (nat_lt n (length (xs ++ ys))) (Some n) None ≡ Some i) (sym same)
    (ap (λ b. cond b (Some i) None) (lt-ltb i (length (xs ++ ys)) (omega (arith, longer, within, parts.1))))

pub list_any-longer : {X : Type 0} (p : X → Bool) (xs ys : List X) → list_any p xs ≡ true → list_any p (xs ++ ys) ≡ true
list_any-longer p xs ys h = list_any-append p xs ys ∙ or_left (list_any p xs) (list_any p ys) h

-- what must be stored must be so for good
must-append : (J es : List Entry) (c : ℕ) (o : Option ℕ) → position (enters c) J ≡ o → must_be_stored_from J c o ≡ true → must_be_stored_from (J ++ es) c (position (enters c) (J ++ es)) ≡ true
must-append J es c None e h = absurd (false≢true h)
must-append J es c (Some i) e h =
    let within : i < length J = position-within (enters c) J i e in
    subst (λ o. must_be_stored_from (J ++ es) c o ≡ true) (sym (position-append (enters c) J es i e))
    (subst (λ K. must_be_stored_at K (publication_in (slice_get (J ++ es) i)) c ≡ true) (sym (take-append-le i J es (omega (arith, within))))
    (subst (λ g. must_be_stored_at (take i J) (publication_in g) c ≡ true) (sym (slice_get-append J es i within)) h))

flushed_in-append : (K es : List Entry) (x : Option Publication) → is_flushed_in K x ≡ true → is_flushed_in (K ++ es) x ≡ true
flushed_in-append K es None h = h
flushed_in-append K es (Some x) h = list_any-longer (flushes x.place.broker) K es h

flushed-append : (J es : List Entry) (c : ℕ) (o : Option ℕ) → position (enters c) J ≡ o → is_flushed_from J o ≡ true → is_flushed_from (J ++ es) (position (enters c) (J ++ es)) ≡ true
flushed-append J es c None e h = absurd (false≢true h)
flushed-append J es c (Some i) e h =
    let within : i < length J = position-within (enters c) J i e in
    subst (λ o. is_flushed_from (J ++ es) o ≡ true) (sym (position-append (enters c) J es i e))
    (subst (λ K. is_flushed_in K (publication_in (slice_get (J ++ es) i)) ≡ true) (sym (drop-append-le (i + 1) J es (omega (arith, within))))
    (flushed_in-append (drop (i + 1) J) es (publication_in (slice_get (J ++ es) i))
    (subst (λ g. is_flushed_in (drop (i + 1) J) (publication_in g) ≡ true) (sym (slice_get-append J es i within)) h)))

-- a stored copy is stored for good
stored-append : (J es : List Entry) (c : ℕ) → is_stored J c ≡ true → is_stored (J ++ es) c ≡ true
unfolding is_stored must_be_stored
stored-append J es c h =
    let parts : (must_be_stored J c ≡ true) × (is_flushed_from J (position (enters c) J) ≡ true) = and_parts (must_be_stored J c) (is_flushed_from J (position (enters c) J)) h in
    and_from (must_be_stored (J ++ es) c) (is_flushed_from (J ++ es) (position (enters c) (J ++ es)))
    (must-append J es c (position (enters c) J) refl parts.0) (flushed-append J es c (position (enters c) J) refl parts.1)

-- what must be stored is in no queue that goes
stored-stays : (K : List Entry) (e : Entry) (c : ℕ) (x : Publication) → EachCaused [] K → Caused K e → publication_of c K ≡ Some x → must_be_stored K c ≡ true → takes_away c x e ≡ false
stored-stays K (GoneQueue p q) c x caused cause of_copy h = not-home (is_home x c p q) refl
  where
    not-home : (b : Bool) → is_home x c p q ≡ b → b ≡ false
    not-home true e = absurd (true≢false (sym (stored-home K c x p q caused of_copy h e) ∙ cause))
    not-home false e = refl
stored-stays K _ c x caused cause of_copy h = refl

not_gone-push : (K : List Entry) (e : Entry) (c : ℕ) → EachCaused [] K → Caused K e → SparesEach e → list_any (enters c) K ≡ true → is_stored K c ≡ true → not (is_gone K c) ≡ true → not (is_gone (K ++ e ∷ []) c) ≡ true
unfolding is_stored
not_gone-push K e c caused cause spares there stored h =
    let x : (x : Publication) × (publication_of c K ≡ Some x) = published-of c K there in
    let must : must_be_stored K c ≡ true = (and_parts (must_be_stored K c) (is_flushed_from K (position (enters c) K)) stored).0 in
    not_from_false (is_gone (K ++ e ∷ []) c)
    (ap is_left (standing-push c x.0 K e x.1) ∙ spares c x.0 (standing c K) (not-true (is_gone K c) h) (stored-stays K e c x.0 caused cause x.1 must))

alive-push : (K : List Entry) (e : Entry) (c : ℕ) → EachCaused [] K → Caused K e → SparesEach e → is_stored K c ≡ true → is_alive K c ≡ true → is_alive (K ++ e ∷ []) c ≡ true
alive-push K e c caused cause spares stored h =
    let parts : (list_any (enters c) K ≡ true) × (not (is_gone K c) ≡ true) = and_parts (list_any (enters c) K) (not (is_gone K c)) h in
    and_from (list_any (enters c) (K ++ e ∷ [])) (not (is_gone (K ++ e ∷ []) c)) (list_any-longer (enters c) K (e ∷ []) parts.0) (not_gone-push K e c caused cause spares parts.0 stored parts.1)

alive-each : (K es : List Entry) (c : ℕ) → EachCaused [] K → EachCaused K es → Spares es → is_stored K c ≡ true → is_alive K c ≡ true → is_alive (K ++ es) c ≡ true
alive-each K [] c caused each spares stored h = subst (λ J. is_alive J c ≡ true) (sym (append-nil K)) h
alive-each K (e ∷ es) c caused each spares stored h =
    subst (λ J. is_alive J c ≡ true) (append_assoc K (e ∷ []) es)
    (alive-each (K ++ e ∷ []) es c (caused-append [] K (e ∷ []) caused (each.0, tt)) each.1 spares.1 (stored-append K (e ∷ []) c stored) (alive-push K e c caused each.0 spares.0 stored h))

after-kept : (J : List Entry) (row : Row) (c : ℕ) → EachCaused [] J → RowHas (EachCaused J) row → RowHas Spares row → is_alive J c ≡ true → is_stored J c ≡ true → (is_alive (after J row) c ≡ true) × (is_stored (after J row) c ≡ true)
after-kept J (Ok es) c caused each spares alive stored = (alive-each J es c caused each spares stored alive, stored-append J es c stored)
after-kept J (Err reason) c caused each spares alive stored = (alive, stored)

pub moment-keeps : (J : List Entry) (line : ℕ) (e : Event) → EachCaused [] J → KeepsStored J (moment J line e)
moment-keeps J line e caused safe c alive stored = after-kept J (next J e) c caused (next-caused J e) (next-spares J e safe) alive stored

pub after-caused : (J : List Entry) (row : Row) → EachCaused [] J → RowHas (EachCaused J) row → EachCaused [] (after J row)
after-caused J (Ok es) caused h = caused-append [] J es caused h
after-caused J (Err reason) caused h = caused

-- every moment of a run from a journal in which each entry has its cause
pub run-keeps_stored : (J : List Entry) (events : List (ℕ × Event)) → EachCaused [] J → EachMoment KeepsStored J (run J events)
run-keeps_stored J [] caused = tt
run-keeps_stored J (e ∷ es) caused =
    (moment-keeps J e.0 e.1 caused, run-keeps_stored (after J (next J e.1)) es (after-caused J (next J e.1) caused (next-caused J e.1)))
