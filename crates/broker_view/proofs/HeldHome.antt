-- What a client of a place holds entered a queue of that place.
use Rattle.std.proofs.Common.{◌≡◌, ℕ, List, [], ◌∷◌, ◌++◌, Bool, true, false, cond, Option, Some, None, refl, sym, ap, subst, ◌∙◌}
use Rattle.std.specs.Prelude.{◌==◌, ◌||◌, ◌&&◌, find, fold}
use Rattle.std.specs.List.{list_any, cons_option}
use Rattle.std.proofs.lemmas.Bool.{true≢false, false≢true, or_left, or_right, eq-eqb, eqb-true}
use Rattle.std.proofs.lemmas.Option.{none-some, same_Some}
use Rattle.fed_journal.specs.declared.place.Place.{Place}
use Rattle.client_rules.specs.declared.client.Client.{Client}
use Rattle.fed_journal.specs.declared.entry.Publication.{Publication}
use Rattle.fed_journal.specs.declared.entry.Entry.{Entry}
use Rattle.fed_journal.specs.declared.entry.Entry.TheVariants.{GoneQueue, Published, Took, Settled, Delivered, Acked, Rejected, Requeued, Purged, Closed}
use Rattle.fed_journal.specs.Holders.{Session, Channel, is_connection}
use Rattle.fed_journal.specs.Copies.{Standing, Unknown, Ready, Held, Left, is_left, is_waiting, is_home, is_copy_of, publication_of, entered, entered_by, standing, standing_step, moved, handed, closed}
use Rattle.fed_journal.specs.Holds.{is_ready, first_ready}
use Rattle.broker_view.specs.View.{AreHeldAtHome}
use Rattle.broker_view.specs.Suits.{Suits}
use Rattle.broker_view.proofs.Publications.{standing-push, entered-push}

abbrev InQueue : List Entry → Place → ℕ → Type 0
InQueue J p c = (q : List ℕ) × (list_any (λ n. n == c) (entered J p q) ≡ true)

-- ---- membership

longer-by : (b more rest : Bool) → (b || rest) ≡ true → (rest ≡ true → more ≡ true) → (b || more) ≡ true
longer-by true more rest h later = refl
longer-by false more rest h later = later h

any-longer : (c : ℕ) (xs ys : List ℕ) → list_any (λ n. n == c) xs ≡ true → list_any (λ n. n == c) (xs ++ ys) ≡ true
any-longer c [] ys h = absurd (false≢true h)
any-longer c (x ∷ xs) ys h = longer-by (x == c) (list_any (λ n. n == c) (xs ++ ys)) (list_any (λ n. n == c) xs) h (any-longer c xs ys)

found-by : (c x : ℕ) (rest : Bool) (o : Option ℕ) (b : Bool) → cond b (Some x) o ≡ Some c → (o ≡ Some c → rest ≡ true) → ((x == c) || rest) ≡ true
found-by c x rest o true h later = or_left (x == c) rest (eq-eqb x c (same_Some x c h))
found-by c x rest o false h later = or_right (x == c) rest (later h)

find-any : (test : ℕ → Bool) (c : ℕ) (xs : List ℕ) → find test xs ≡ Some c → list_any (λ n. n == c) xs ≡ true
find-any test c [] h = absurd (none-some c h)
find-any test c (x ∷ xs) h = found-by c x (list_any (λ n. n == c) xs) (find test xs) (test x) h (find-any test c xs)

first-any : (J : List Entry) (p : Place) (q : List ℕ) (c : ℕ) → first_ready J p q ≡ Some c → list_any (λ n. n == c) (entered J p q) ≡ true
unfolding first_ready
first-any J p q c h = find-any (is_ready J) c (entered J p q) h

in-longer : (J : List Entry) (e : Entry) (p : Place) (c : ℕ) → InQueue J p c → InQueue (J ++ e ∷ []) p c
in-longer J e p c at = (at.0, ap (list_any (λ n. n == c)) (entered-push J e p at.0) ∙ any-longer c (entered J p at.0) (cons_option (entered_by p at.0 e) []) at.1)

-- ---- who holds a copy

abbrev Holding : Place → Client → List ℕ → Standing
Holding p k tag = Held (Channel p k tag)

is_channel : Standing → Bool
is_channel (Held (Channel p k tag)) = true
is_channel _ = false

other-standing : (t : Standing) (p : Place) (k : Client) (tag : List ℕ) → is_channel t ≡ false → t ≡ Holding p k tag → ⊥
unfolding is_channel
other-standing t p k tag off h = true≢false (sym (ap is_channel h) ∙ off)

place_or : Place → Standing → Place
place_or p (Held (Channel place k tag)) = place
place_or p _ = p

same-place : (p r : Place) (k m : Client) (tag t : List ℕ) → Holding p k tag ≡ Holding r m t → p ≡ r
unfolding place_or
same-place p r k m tag t h = ap (place_or p) h

-- ---- a copy that nobody published

skip-by : (c : ℕ) (y : Publication) (K es : List Entry) (b : Bool) → cond b (Some y) (publication_of c K) ≡ None → (publication_of c K ≡ None → standing c (K ++ es) ≡ standing c es) → cond b (fold (standing_step c y) Ready (K ++ es)) (standing c (K ++ es)) ≡ standing c es
skip-by c y K es true h later = absurd (none-some y (sym h))
skip-by c y K es false h later = later h

standing-skip : (c : ℕ) (K es : List Entry) → publication_of c K ≡ None → standing c (K ++ es) ≡ standing c es
unfolding publication_of standing
standing-skip c [] es h = refl
standing-skip c (Published y ∷ K) es h = skip-by c y K es (is_copy_of y c) h (standing-skip c K es)
standing-skip c (e ∷ K) es h = standing-skip c K es h

standing-one : (c : ℕ) (e : Entry) → is_channel (standing c (e ∷ [])) ≡ false
unfolding standing is_channel
standing-one c (Published x) = elim (is_copy_of x c) as (λ b. is_channel (cond b Ready Unknown) ≡ false) [ true ↦ refl | false ↦ refl ]
standing-one c e = refl

-- ---- one entry more

held-if : (J : List Entry) (c : ℕ) (p : Place) (t m : Standing) (b : Bool) → (b ≡ true → (k : Client) (tag : List ℕ) → m ≡ Holding p k tag → InQueue J p c) → ((k : Client) (tag : List ℕ) → t ≡ Holding p k tag → InQueue J p c) → (k : Client) (tag : List ℕ) → cond b m t ≡ Holding p k tag → InQueue J p c
held-if J c p t m true now was = now refl
held-if J c p t m false now was = was

not-channel : (J : List Entry) (c : ℕ) (p : Place) (m : Standing) → is_channel m ≡ false → (k : Client) (tag : List ℕ) → m ≡ Holding p k tag → InQueue J p c
not-channel J c p m off k tag h = absurd (other-standing m p k tag off h)

left-off : is_channel Left ≡ false
unfolding is_channel
left-off = refl

ready-off : is_channel Ready ≡ false
unfolding is_channel
ready-off = refl

session-off : (l : List ℕ) (s : ℕ) → is_channel (Held (Session l s)) ≡ false
unfolding is_channel
session-off l s = refl

handed-now : (J : List Entry) (place p : Place) (client : Client) (t queue : List ℕ) (c copy : ℕ) (no_ack : Bool) → first_ready J place queue ≡ Some copy → copy ≡ c → (k : Client) (tag : List ℕ) → handed no_ack (Channel place client t) ≡ Holding p k tag → InQueue J p c
handed-now J place p client t queue c copy true first is k tag h = absurd (other-standing Left p k tag left-off h)
handed-now J place p client t queue c copy false first is k tag h =
    subst (λ r. InQueue J r c) (same-place place p client k t tag h) (queue, subst (λ n. list_any (λ m. m == n) (entered J place queue) ≡ true) is (first-any J place queue copy first))

closed-held : (J : List Entry) (c : ℕ) (p place : Place) (n : ℕ) (t : Standing) → ((k : Client) (tag : List ℕ) → t ≡ Holding p k tag → InQueue J p c) → (k : Client) (tag : List ℕ) → closed place n t ≡ Holding p k tag → InQueue J p c
closed-held J c p place n (Held holder) was k tag h =
    held-if J c p (Held holder) Ready (is_connection place n holder) (λ on. not-channel J c p Ready ready-off) was k tag h
closed-held J c p place n Ready was k tag h = was k tag h
closed-held J c p place n Unknown was k tag h = was k tag h
closed-held J c p place n Left was k tag h = was k tag h

moved-held : (J : List Entry) (c : ℕ) (x : Publication) (p : Place) (t : Standing) (e : Entry) → Suits J e → ((k : Client) (tag : List ℕ) → t ≡ Holding p k tag → InQueue J p c) → (k : Client) (tag : List ℕ) → moved c x t e ≡ Holding p k tag → InQueue J p c
moved-held J c x p t (Took link session copy) suits was = held-if J c p t (Held (Session link session)) (copy == c) (λ on. not-channel J c p (Held (Session link session)) (session-off link session)) was
moved-held J c x p t (Delivered place client tag queue copy no_ack) suits was =
    held-if J c p t (handed no_ack (Channel place client tag)) (copy == c) (λ on. handed-now J place p client tag queue c copy no_ack suits (eqb-true copy c on)) was
moved-held J c x p t (Acked place client copy) suits was = held-if J c p t Left (copy == c) (λ on. not-channel J c p Left left-off) was
moved-held J c x p t (Rejected place client copy) suits was = held-if J c p t Left (copy == c) (λ on. not-channel J c p Left left-off) was
moved-held J c x p t (Requeued place client copy) suits was = held-if J c p t Ready (copy == c) (λ on. not-channel J c p Ready ready-off) was
moved-held J c x p t (Settled link session copy) suits was = held-if J c p t Left (copy == c) (λ on. not-channel J c p Left left-off) was
moved-held J c x p t (Purged place queue) suits was = held-if J c p t Left (is_waiting t && is_home x c place queue) (λ on. not-channel J c p Left left-off) was
moved-held J c x p t (GoneQueue place queue) suits was = held-if J c p t Left (is_home x c place queue) (λ on. not-channel J c p Left left-off) was
moved-held J c x p t (Closed place connection) suits was = closed-held J c p place connection t was
moved-held J c x p t e suits was = was

step-held : (J : List Entry) (c : ℕ) (e : Entry) (p : Place) (o : Option Publication) → publication_of c J ≡ o → Suits J e → ((k : Client) (tag : List ℕ) → standing c J ≡ Holding p k tag → InQueue J p c) → (k : Client) (tag : List ℕ) → standing c (J ++ e ∷ []) ≡ Holding p k tag → InQueue J p c
step-held J c e p None none suits was k tag h = absurd (other-standing (standing c (e ∷ [])) p k tag (standing-one c e) (sym (standing-skip c J (e ∷ []) none) ∙ h))
step-held J c e p (Some x) some suits was k tag h =
    held-if J c p (moved c x (standing c J) e) Left (is_left (standing c J)) (λ on. not-channel J c p Left left-off) (moved-held J c x p (standing c J) e suits was) k tag (sym (standing-push c x J e some) ∙ h)

pub held-step : (J : List Entry) (e : Entry) → Suits J e → AreHeldAtHome J → AreHeldAtHome (J ++ e ∷ [])
held-step J e suits held = λ c p k tag h. in-longer J e p c (step-held J c e p (publication_of c J) refl suits (λ k tag. held c p k tag) k tag h)
