-- A copy that a session took is held by it until it is removed.
use Rattle.std.proofs.Common.{◌≡◌, ℕ, List, [], ◌∷◌, ◌++◌, Bool, true, false, Some, refl, sym, ap, subst, ◌∙◌, ◌⊎◌, inl, inr, append_assoc, append-nil}
use Rattle.std.specs.Prelude.{cond, ◌==◌, not, is_some}
use Rattle.std.specs.List.{list_any}
use Rattle.std.proofs.lemmas.Bool.{true≢false, eqb-true, eq-eqb, and_from, not_from_false}
use Rattle.fed_journal.specs.declared.place.Place.{Place}
use Rattle.client_rules.specs.declared.client.Client.{Client}
use Rattle.fed_journal.specs.declared.entry.Publication.{Publication}
use Rattle.fed_journal.specs.declared.entry.Entry.{Entry}
use Rattle.fed_journal.specs.declared.entry.Entry.TheVariants.{GoneQueue, Delivered, Acked, Rejected, Requeued, Took, Sent, Published, Confirmed, Noted, Settled}
use Rattle.fed_journal.specs.Holders.{Session, Channel}
use Rattle.fed_journal.specs.Copies.{Standing, Ready, Held, Left, enters, is_gone, is_home, is_left, publication_of, standing, standing_step, handed}
use Rattle.fed_journal.specs.Flight.{has, settled_for, is_number}
use Rattle.fed_journal.specs.Holds.{holder, holder_in, is_ready, is_held_by}
use Rattle.broker_view.proofs.Publications.{standing-push}
use Rattle.fed_world.specs.Kept.{StandsAfter, IsMoved, RemovesHeld, HoldsTaken, is_alive}
use Rattle.fed_world.proofs.Causes.{Caused, EachCaused, WasNoted, caused-append, caused-at}
use Rattle.fed_world.proofs.Homes.{taken-home}
use Rattle.fed_world.proofs.Inversions.{settled_for-same}
use Rattle.fed_world.proofs.Lists.{IsIn, in-middle, in-longer, in-push_cases, in-split, any-middle}
use Rattle.fed_world.proofs.Moved.{moved-at}
use Rattle.fed_world.proofs.Standings.{published-of, waiting-is, is_with_session, client-has_it}
use Rattle.fed_world.proofs.Stored.{list_any-longer}

-- whether nobody has it
is_free : Standing → Bool
is_free Ready = true
is_free _ = false

link_of_standing : Standing → List ℕ
link_of_standing (Held (Session l s)) = l
link_of_standing _ = []

session_of_standing : Standing → ℕ
session_of_standing (Held (Session l s)) = s
session_of_standing _ = 0

-- who holds a copy is one session of one link
holder-parts : (k : List ℕ) (t : ℕ) (l : List ℕ) (s : ℕ) → ◌≡◌ {A = Standing} (Held (Session k t)) (Held (Session l s)) → (k ≡ l) × (t ≡ s)
unfolding link_of_standing session_of_standing
holder-parts k t l s h = (ap link_of_standing h, ap session_of_standing h)

left-other : (l : List ℕ) (s : ℕ) → ◌≡◌ {A = Standing} Left (Held (Session l s)) → ⊥
left-other l s h = true≢false (ap is_left h)

-- a copy that was taken is held by who took it, or was removed for it
IsTakenBy : List Entry → List ℕ → ℕ → ℕ → Type 0
IsTakenBy K l s c = (standing c K ≡ Held (Session l s)) ⊎ ((standing c K ≡ Left) × IsIn (Settled l s c) K)

Taken : List Entry → Type 0
Taken K = (l : List ℕ) (s c : ℕ) → IsIn (Took l s c) K → IsTakenBy K l s c

-- a held copy isn't ready, and what a session holds no client holds
held-not_ready : (K : List Entry) (l : List ℕ) (s c d : ℕ) → standing c K ≡ Held (Session l s) → d ≡ c → is_ready K d ≡ true → ⊥
unfolding is_free
held-not_ready K l s c d held same ready =
    true≢false (ap is_free (sym (waiting-is (standing d K) ready) ∙ ap (λ n. standing n K) same ∙ held))

held-not_client's : (K : List Entry) (l : List ℕ) (s c d : ℕ) (p : Place) (k : Client) → standing c K ≡ Held (Session l s) → d ≡ c → is_held_by K p k d ≡ true → ⊥
held-not_client's K l s c d p k held same client =
    true≢false (ap is_with_session (sym held ∙ ap (λ n. standing n K) (sym same)) ∙ client-has_it p k (standing d K) client)

stands-longer : (K : List Entry) (e d : Entry) (J : List Entry) → StandsAfter K e J → IsIn d K → IsIn d J
stands-longer K e d J stands h = subst (IsIn d) (sym stands.1) (in-longer d K (e ∷ stands.0) h)

stands-in : (K : List Entry) (e : Entry) (J : List Entry) → StandsAfter K e J → IsIn e J
stands-in K e J stands = subst (IsIn e) (sym stands.1) (in-middle e K stands.0)

moved-took : (K : List Entry) (l : List ℕ) (s c : ℕ) → IsMoved K l s c → IsIn (Took l s c) K
moved-took K l s c m =
    stands-longer m.at_noted (Noted l s c) (Took l s c) K m.noted
    (stands-longer m.at_confirmed (Confirmed l s m.publication.number) (Took l s c) m.at_noted m.confirmed
    (stands-longer m.at_published (Published m.publication) (Took l s c) m.at_confirmed m.published
    (stands-longer m.at_sent (Sent l s c) (Took l s c) m.at_published m.sent
    (stands-in m.at_took (Took l s c) m.at_sent m.took))))

-- a session that removes a copy took it
settled-took : (K : List Entry) (l : List ℕ) (s c : ℕ) → EachCaused [] K → Caused K (Settled l s c) → IsIn (Took l s c) K
settled-took K l s c caused cause =
    moved-took K l s c (moved-at (K ++ Settled l s c ∷ []) (caused-append [] K (Settled l s c ∷ []) caused (cause, tt)) K l s c ([], refl))

-- the copy is removed for the session that holds it
settled-by : (K : List Entry) (k : List ℕ) (t d : ℕ) (l : List ℕ) (s c : ℕ) → Taken K → EachCaused [] K → Caused K (Settled k t d) → standing c K ≡ Held (Session l s) → d ≡ c → Settled k t d ≡ Settled l s c
unfolding Taken IsTakenBy
settled-by K k t d l s c taken caused cause held same =
    elim (taken k t d (settled-took K k t d caused cause)) [
      | inl mine ↦ let parts : (k ≡ l) × (t ≡ s) = holder-parts k t l s (sym mine ∙ ap (λ n. standing n K) same ∙ held) in cc (parts.0, parts.1, same)
      | inr gone ↦ absurd (left-other l s (sym gone.0 ∙ ap (λ n. standing n K) same ∙ held))
    ]

-- what the entry does with a copy that the session holds
Stays : Publication → ℕ → List ℕ → ℕ → Entry → Type 0
Stays x c l s e = (standing_step c x (Held (Session l s)) e ≡ Held (Session l s)) ⊎ ((standing_step c x (Held (Session l s)) e ≡ Left) × (e ≡ Settled l s c))

other-stays : (b : Bool) (t was : Standing) → (b ≡ true → ⊥) → cond b t was ≡ was
other-stays true t was h = absurd (h refl)
other-stays false t was h = refl

settled-stays : (b : Bool) (l : List ℕ) (s c : ℕ) (e : Entry) → (b ≡ true → e ≡ Settled l s c) → (cond b Left (Held (Session l s)) ≡ Held (Session l s)) ⊎ ((cond b Left (Held (Session l s)) ≡ Left) × (e ≡ Settled l s c))
settled-stays true l s c e h = inr (refl, h refl)
settled-stays false l s c e h = inl refl

held-stays : (K : List Entry) (x : Publication) (c : ℕ) (l : List ℕ) (s : ℕ) (e : Entry) → Taken K → EachCaused [] K → Caused K e → publication_of c K ≡ Some x → IsIn (Took l s c) K → standing c K ≡ Held (Session l s) → Stays x c l s e
unfolding Stays
held-stays K x c l s (GoneQueue p q) taken caused cause of_copy took held =
    inl (other-stays (is_home x c p q) Left (Held (Session l s)) (λ h. true≢false (sym (taken-home K l s c x p q caused took of_copy h) ∙ cause)))
held-stays K x c l s (Took k t d) taken caused cause of_copy took held =
    inl (other-stays (d == c) (Held (Session k t)) (Held (Session l s)) (λ h. held-not_ready K l s c d held (eqb-true d c h) cause.1))
held-stays K x c l s (Delivered p k g q d no_ack) taken caused cause of_copy took held =
    inl (other-stays (d == c) (handed no_ack (Channel p k g)) (Held (Session l s)) (λ h. held-not_ready K l s c d held (eqb-true d c h) cause))
held-stays K x c l s (Acked p k d) taken caused cause of_copy took held =
    inl (other-stays (d == c) Left (Held (Session l s)) (λ h. held-not_client's K l s c d p k held (eqb-true d c h) cause))
held-stays K x c l s (Rejected p k d) taken caused cause of_copy took held =
    inl (other-stays (d == c) Left (Held (Session l s)) (λ h. held-not_client's K l s c d p k held (eqb-true d c h) cause))
held-stays K x c l s (Requeued p k d) taken caused cause of_copy took held =
    inl (other-stays (d == c) Ready (Held (Session l s)) (λ h. held-not_client's K l s c d p k held (eqb-true d c h) cause))
held-stays K x c l s (Settled k t d) taken caused cause of_copy took held =
    settled-stays (d == c) l s c (Settled k t d) (λ h. settled-by K k t d l s c taken caused cause held (eqb-true d c h))
held-stays K x c l s _ taken caused cause of_copy took held = inl refl

entered-taken : (K : List Entry) → EachCaused [] K → (l : List ℕ) (s c : ℕ) → IsIn (Took l s c) K → list_any (enters c) K ≡ true
entered-taken K caused l s c taken =
    let at : (before : List Entry) × (rest : List Entry) × (K ≡ before ++ Took l s c ∷ rest) = in-split (Took l s c) K taken in
    let cause : EachCaused [] at.0 × Caused at.0 (Took l s c) = caused-at K at.0 (Took l s c) caused (at.1, at.2) in
    subst (λ J. list_any (enters c) J ≡ true) (sym at.2) (list_any-longer (enters c) at.0 (Took l s c ∷ at.1) cause.1.0)

taken-held : (K : List Entry) (e : Entry) (x : Publication) (l : List ℕ) (s c : ℕ) → publication_of c K ≡ Some x → standing c K ≡ Held (Session l s) → Stays x c l s e → IsTakenBy (K ++ e ∷ []) l s c
unfolding IsTakenBy Stays
taken-held K e x l s c of_copy held (inl stays) =
    inl (standing-push c x K e of_copy ∙ ap (λ t. standing_step c x t e) held ∙ stays)
taken-held K e x l s c of_copy held (inr removed) =
    inr (standing-push c x K e of_copy ∙ ap (λ t. standing_step c x t e) held ∙ removed.0, subst (λ d. IsIn d (K ++ e ∷ [])) removed.1 (in-middle e K []))

taken-old : (K : List Entry) (e : Entry) (x : Publication) (l : List ℕ) (s c : ℕ) → Taken K → EachCaused [] K → Caused K e → publication_of c K ≡ Some x → IsIn (Took l s c) K → IsTakenBy K l s c → IsTakenBy (K ++ e ∷ []) l s c
unfolding IsTakenBy
taken-old K e x l s c taken caused cause of_copy took (inl held) =
    taken-held K e x l s c of_copy held (held-stays K x c l s e taken caused cause of_copy took held)
taken-old K e x l s c taken caused cause of_copy took (inr gone) =
    inr (standing-push c x K e of_copy ∙ ap (λ t. standing_step c x t e) gone.0, in-longer (Settled l s c) K (e ∷ []) gone.1)

-- a copy that is taken was ready, and is held by who takes it
taken-new : (K : List Entry) (l : List ℕ) (s c : ℕ) → Caused K (Took l s c) → standing c (K ++ Took l s c ∷ []) ≡ Held (Session l s)
taken-new K l s c cause =
    let x : (x : Publication) × (publication_of c K ≡ Some x) = published-of c K cause.0 in
    standing-push c x.0 K (Took l s c) x.1 ∙ ap (λ t. standing_step c x.0 t (Took l s c)) (waiting-is (standing c K) cause.1)
    ∙ ap (λ b. cond b (Held (Session l s)) Ready) (eq-eqb c c refl)

taken-by : (K : List Entry) (e : Entry) → Taken K → EachCaused [] K → Caused K e → (l : List ℕ) (s c : ℕ) → IsIn (Took l s c) K ⊎ (e ≡ Took l s c) → IsTakenBy (K ++ e ∷ []) l s c
unfolding Taken IsTakenBy
taken-by K e taken caused cause l s c (inl h) =
    let x : (x : Publication) × (publication_of c K ≡ Some x) = published-of c K (entered-taken K caused l s c h) in
    taken-old K e x.0 l s c taken caused cause x.1 h (taken l s c h)
taken-by K e taken caused cause l s c (inr same) =
    inl (subst (λ d. standing c (K ++ d ∷ []) ≡ Held (Session l s)) (sym same) (taken-new K l s c (subst (Caused K) same cause)))

taken-push : (K : List Entry) (e : Entry) → Taken K → EachCaused [] K → Caused K e → Taken (K ++ e ∷ [])
unfolding Taken
taken-push K e taken caused cause l s c h = taken-by K e taken caused cause l s c (in-push_cases (Took l s c) e K h)

taken-each : (K es : List Entry) → Taken K → EachCaused [] K → EachCaused K es → Taken (K ++ es)
taken-each K [] taken caused h = subst Taken (sym (append-nil K)) taken
taken-each K (e ∷ es) taken caused h =
    subst Taken (append_assoc K (e ∷ []) es)
    (taken-each (K ++ e ∷ []) es (taken-push K e taken caused h.0) (caused-append [] K (e ∷ []) caused (h.0, tt)) h.1)

taken-all : (J : List Entry) → EachCaused [] J → Taken J
unfolding Taken
taken-all J h = taken-each [] J (λ l s c k. absurd k) tt h

settled-seen : (K L : List Entry) (l : List ℕ) (s c : ℕ) → StandsAfter L (Settled l s c) K → has (settled_for l s) c K ≡ true
settled-seen K L l s c stands =
    subst (λ J. has (settled_for l s) c J ≡ true) (sym stands.1) (any-middle (λ e. is_number c (settled_for l s e)) (Settled l s c) L stands.0 (settled_for-same l s c))

-- where its removal for the session doesn't stand, the session holds it
still-held : (K : List Entry) (l : List ℕ) (s c : ℕ) → IsTakenBy K l s c → ((L : List Entry) → StandsAfter L (Settled l s c) K → ⊥) → standing c K ≡ Held (Session l s)
unfolding IsTakenBy
still-held K l s c (inl held) still = held
still-held K l s c (inr gone) still =
    let at : (before : List Entry) × (rest : List Entry) × (K ≡ before ++ Settled l s c ∷ rest) = in-split (Settled l s c) K gone.1 in
    absurd (still at.0 (at.1, at.2))

-- a copy that a session took is alive and held by it, where it wasn't removed for it
held-taken : (K : List Entry) → EachCaused [] K → (l : List ℕ) (s c : ℕ) → IsIn (Took l s c) K → ((L : List Entry) → StandsAfter L (Settled l s c) K → ⊥) → (is_alive K c ≡ true) × (holder K c ≡ Some (Session l s))
unfolding Taken
held-taken K caused l s c taken still =
    let held : standing c K ≡ Held (Session l s) = still-held K l s c (taken-all K caused l s c taken) still in (
      and_from (list_any (enters c) K) (not (is_gone K c)) (entered-taken K caused l s c taken) (not_from_false (is_gone K c) (ap is_left held)),
      ap holder_in held,
    )

pub holds-at : (J : List Entry) → EachCaused [] J → HoldsTaken J
holds-at J caused K l s c stands still = held-taken J caused l s c (stands-in K (Took l s c) J stands) still

-- a copy is alive and held by the session for which it is removed
pub held-at : (J : List Entry) → EachCaused [] J → RemovesHeld J
held-at J caused K l s c stands =
    let settled : EachCaused [] K × Caused K (Settled l s c) = caused-at J K (Settled l s c) caused stands in
    let noted : WasNoted K l s c = settled.1 in
    let taken : IsIn (Took l s c) K = moved-took K l s c (moved-at J caused K l s c stands) in
    let held : (is_alive K c ≡ true) × (holder K c ≡ Some (Session l s)) = held-taken K settled.0 l s c taken (λ L removed. true≢false (sym (settled-seen K L l s c removed) ∙ noted.still)) in
    (ap is_some noted.described, held.0, held.1)
