-- A queue that no connection has to itself stays as it is.
use Rattle.std.proofs.Common.{◌≡◌, ℕ, List, [], ◌∷◌, ◌++◌, Bool, true, false, Option, Some, None, refl, sym, ap, subst, ◌∙◌, append_assoc, append-nil}
use Rattle.std.specs.Prelude.{cond, ◌&&◌}
use Rattle.std.proofs.lemmas.Bool.{true≢false, false≢true, and_parts, and_from}
use Rattle.amqp_props.specs.declared.link.QueueOptions.{QueueOptions}
use Rattle.fed_journal.specs.declared.place.Place.{Place}
use Rattle.fed_journal.specs.declared.entry.Entry.{Entry}
use Rattle.fed_journal.specs.declared.entry.Entry.TheVariants.{MadeQueue, GoneQueue}
use Rattle.fed_journal.specs.Configuration.{is_queue, options_step, queue_options}
use Rattle.fed_journal.specs.Names.{same_text, same_place}
use Rattle.broker_view.proofs.Names.{same_text-true, same_text-refl, same_place-true, same_place-refl}
use Rattle.broker_view.proofs.Configured.{options-push}
use Rattle.fed_world.proofs.Causes.{is_shared, is_shared_in, Caused, EachCaused}

-- the queue is that one
asked : (p : Place) (q : List ℕ) (place : Place) (queue : List ℕ) → is_queue p q place queue ≡ true → (place ≡ p) × (queue ≡ q)
asked p q place queue h =
    let parts : (same_place place p ≡ true) × (same_text queue q ≡ true) = and_parts (same_place place p) (same_text queue q) h in
    (same_place-true place p parts.0, same_text-true queue q parts.1)

shared-not_none : (o : Option QueueOptions) → is_shared_in o ≡ true → o ≡ None → ⊥
shared-not_none o h none = false≢true (ap is_shared_in (sym none) ∙ h)

made-other : (K : List Entry) (p place : Place) (q queue : List ℕ) (o : QueueOptions) (b : Bool) → is_queue p q place queue ≡ b → queue_options K place queue ≡ None → is_shared K p q ≡ true → is_shared_in (cond b (Some o) (queue_options K p q)) ≡ true
made-other K p place q queue o true e none h =
    let same : (place ≡ p) × (queue ≡ q) = asked p q place queue e in
    absurd (shared-not_none (queue_options K p q) h (subst (λ r. queue_options K r q ≡ None) same.0 (subst (λ n. queue_options K place n ≡ None) same.1 none)))
made-other K p place q queue o false e none h = h

gone-other : (K : List Entry) (p place : Place) (q queue : List ℕ) (b : Bool) → is_queue p q place queue ≡ b → is_shared K place queue ≡ false → is_shared K p q ≡ true → is_shared_in (cond b None (queue_options K p q)) ≡ true
gone-other K p place q queue true e owned h =
    let same : (place ≡ p) × (queue ≡ q) = asked p q place queue e in
    absurd (true≢false (sym h ∙ subst (λ r. is_shared K r q ≡ false) same.0 (subst (λ n. is_shared K place n ≡ false) same.1 owned)))
gone-other K p place q queue false e owned h = h

shared-step : (K : List Entry) (e : Entry) (p : Place) (q : List ℕ) → Caused K e → is_shared K p q ≡ true → is_shared_in (options_step p q (queue_options K p q) e) ≡ true
shared-step K (MadeQueue place queue o w) p q cause h = made-other K p place q queue o (is_queue p q place queue) refl cause h
shared-step K (GoneQueue place queue) p q cause h = gone-other K p place q queue (is_queue p q place queue) refl cause h
shared-step K _ p q cause h = h

pub shared-push : (K : List Entry) (e : Entry) (p : Place) (q : List ℕ) → Caused K e → is_shared K p q ≡ true → is_shared (K ++ e ∷ []) p q ≡ true
shared-push K e p q cause h = ap is_shared_in (options-push K e p q) ∙ shared-step K e p q cause h

pub shared-each : (K es : List Entry) (p : Place) (q : List ℕ) → EachCaused K es → is_shared K p q ≡ true → is_shared (K ++ es) p q ≡ true
shared-each K [] p q caused h = subst (λ J. is_shared J p q ≡ true) (sym (append-nil K)) h
shared-each K (e ∷ es) p q caused h =
    subst (λ J. is_shared J p q ≡ true) (append_assoc K (e ∷ []) es) (shared-each (K ++ e ∷ []) es p q caused.1 (shared-push K e p q caused.0 h))

-- ---- which queue is meant

pub is_queue-refl : (p : Place) (q : List ℕ) → is_queue p q p q ≡ true
is_queue-refl p q = and_from (same_place p p) (same_text q q) (same_place-refl p) (same_text-refl q)

other-by : (p r : Place) (q n : List ℕ) (b : Bool) → is_queue r n p q ≡ b → (same_place r p && same_text n q) ≡ false → b ≡ false
other-by p r q n true e h =
    let same : (p ≡ r) × (q ≡ n) = asked r n p q e in
    absurd (true≢false (sym (subst (λ t. (same_place t p && same_text n q) ≡ true) same.0 (subst (λ m. (same_place p p && same_text m q) ≡ true) same.1 (is_queue-refl p q))) ∙ h))
other-by p r q n false e h = refl

-- two queues that differ differ either way
pub is_queue-other : (p r : Place) (q n : List ℕ) → (same_place r p && same_text n q) ≡ false → is_queue r n p q ≡ false
is_queue-other p r q n h = other-by p r q n (is_queue r n p q) refl h
