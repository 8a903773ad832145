-- The queues of a place stand, each once, and so do those that go with a connection.
use Rattle.std.proofs.Common.{◌≡◌, ℕ, List, [], ◌∷◌, ◌++◌, Bool, true, false, cond, not, Option, Some, None, is_some, refl, sym, ap, subst, ◌∙◌, map, append_assoc, append-nil}
use Rattle.std.specs.Prelude.{filter, if◌then◌else◌, ◌&&◌, ◌||◌}
use Rattle.std.specs.List.{list_any}
use Rattle.std.proofs.lemmas.Bool.{and_parts, and_right, or_from, or_parts, or_left, or_right, cond-false}
use Rattle.amqp_props.specs.declared.link.QueueOptions.{QueueOptions}
use Rattle.fed_journal.specs.declared.place.Place.{Place}
use Rattle.fed_journal.specs.declared.entry.Entry.{Entry}
use Rattle.fed_journal.specs.declared.entry.Entry.TheVariants.{MadeQueue, GoneQueue, Closed}
use Rattle.fed_journal.specs.Configuration.{is_queue, options_step, queue_options, queue_owner, is_exclusive, is_exclusive_in, is_connection_in, queues_step, queues_of, goes_with, queues_owned}
use Rattle.fed_journal.specs.Names.{same_text, same_place}
use Rattle.broker_view.specs.Suits.{EachSuits}
use Rattle.broker_view.specs.View.{AreDistinct}
use Rattle.broker_view.proofs.Configured.{options-push, queues-push}
use Rattle.broker_view.proofs.Names.{same_text-true, same_text-sym, same_place-true}
use Rattle.broker_view.proofs.Tables.{distinct-push, distinct-filter}
use Rattle.fed_world.proofs.Causes.{Caused, EachCaused}

-- ---- one name more, one name less

any-other : (test : List ℕ → Bool) (ns : List (List ℕ)) (n : List ℕ) → test n ≡ false → list_any test (ns ++ n ∷ []) ≡ list_any test ns
any-other test [] n off = or_from (test n) false off refl
any-other test (m ∷ ns) n off = ap (λ b. test m || b) (any-other test ns n off)

any-new : (test : List ℕ → Bool) (ns : List (List ℕ)) (n : List ℕ) → test n ≡ true → list_any test (ns ++ n ∷ []) ≡ true
any-new test [] n on = or_left (test n) false on
any-new test (m ∷ ns) n on = or_right (test m) (list_any test (ns ++ n ∷ [])) (any-new test ns n on)

abbrev without : List ℕ → List (List ℕ) → List (List ℕ)
without queue ns = filter (λ n. not (same_text n queue)) ns

without-same : (queue : List ℕ) (ns : List (List ℕ)) → list_any (same_text queue) (without queue ns) ≡ false
without-same queue [] = refl
without-same queue (n ∷ ns) =
    elim (same_text n queue) as (λ b. same_text n queue ≡ b → list_any (same_text queue) (cond (not b) (n ∷ without queue ns) (without queue ns)) ≡ false) [
      | true ↦ (λ _. without-same queue ns)
      | false ↦ (λ off. or_from (same_text queue n) (list_any (same_text queue) (without queue ns)) (same_text-sym queue n ∙ off) (without-same queue ns))
    ] refl

without-other : (q queue : List ℕ) (ns : List (List ℕ)) → same_text q queue ≡ false → list_any (same_text q) (without queue ns) ≡ list_any (same_text q) ns
without-other q queue [] off = refl
without-other q queue (n ∷ ns) off =
    elim (same_text n queue) as (λ b. same_text n queue ≡ b → list_any (same_text q) (cond (not b) (n ∷ without queue ns) (without queue ns)) ≡ (same_text q n || list_any (same_text q) ns)) [
      | true ↦ (λ on. without-other q queue ns off ∙ sym (ap (λ b. b || list_any (same_text q) ns) (ap (same_text q) (same_text-true n queue on) ∙ off)))
      | false ↦ (λ _. ap (λ b. same_text q n || b) (without-other q queue ns off))
    ] refl

-- ---- the queues of a place

-- the names are those that have options, each once
record StandOnce (names : List (List ℕ)) (options : List ℕ → Option QueueOptions) : Type 0 where
  pub distinct : AreDistinct names
  pub stand : (q : List ℕ) → list_any (same_text q) names ≡ is_some (options q)

made-stand : (names : List (List ℕ)) (queue q : List ℕ) (o : QueueOptions) (was : Option QueueOptions) (c : Bool) → same_text queue q ≡ c → list_any (same_text q) names ≡ is_some was → list_any (same_text q) (names ++ queue ∷ []) ≡ is_some (if c then Some o else was)
made-stand names queue q o was true on h = any-new (same_text q) names queue (same_text-sym q queue ∙ on)
made-stand names queue q o was false off h = any-other (same_text q) names queue (same_text-sym q queue ∙ off) ∙ h

made-once : (b : Bool) (names : List (List ℕ)) (options : List ℕ → Option QueueOptions) (queue : List ℕ) (o : QueueOptions) → StandOnce names options → (b ≡ true → options queue ≡ None) → StandOnce (if b then names ++ queue ∷ [] else names) (λ q. if b && same_text queue q then Some o else options q)
made-once false names options queue o h free = h
made-once true names options queue o h free = record {
  distinct = distinct-push names queue h.distinct (h.stand queue ∙ ap is_some (free refl));
  stand = λ q. made-stand names queue q o (options q) (same_text queue q) refl (h.stand q);
}

gone-stand : (names : List (List ℕ)) (queue q : List ℕ) (was : Option QueueOptions) (c : Bool) → same_text queue q ≡ c → list_any (same_text q) names ≡ is_some was → list_any (same_text q) (without queue names) ≡ is_some (if c then None else was)
gone-stand names queue q was true on h = subst (λ n. list_any (same_text n) (without queue names) ≡ false) (same_text-true queue q on) (without-same queue names)
gone-stand names queue q was false off h = without-other q queue names (same_text-sym q queue ∙ off) ∙ h

gone-once : (b : Bool) (names : List (List ℕ)) (options : List ℕ → Option QueueOptions) (queue : List ℕ) → StandOnce names options → StandOnce (if b then without queue names else names) (λ q. if b && same_text queue q then None else options q)
gone-once false names options queue h = h
gone-once true names options queue h = record {
  distinct = distinct-filter (λ n. not (same_text n queue)) names h.distinct;
  stand = λ q. gone-stand names queue q (options q) (same_text queue q) refl (h.stand q);
}

once-step : (K : List Entry) (p : Place) (e : Entry) → StandOnce (queues_of K p) (queue_options K p) → Caused K e → StandOnce (queues_step p (queues_of K p) e) (λ q. options_step p q (queue_options K p q) e)
once-step K p (MadeQueue place queue o w) h cause =
    made-once (same_place place p) (queues_of K p) (queue_options K p) queue o h (λ on. subst (λ r. queue_options K r queue ≡ None) (same_place-true place p on) cause)
once-step K p (GoneQueue place queue) h cause = gone-once (same_place place p) (queues_of K p) (queue_options K p) queue h
once-step K p _ h cause = h

once-push : (K : List Entry) (p : Place) (e : Entry) → StandOnce (queues_of K p) (queue_options K p) → Caused K e → StandOnce (queues_of (K ++ e ∷ []) p) (queue_options (K ++ e ∷ []) p)
once-push K p e h cause =
    let now : StandOnce (queues_step p (queues_of K p) e) (λ q. options_step p q (queue_options K p q) e) = once-step K p e h cause in
    record {
      distinct = subst AreDistinct (sym (queues-push K e p)) now.distinct;
      stand = λ q. ap (list_any (same_text q)) (queues-push K e p) ∙ now.stand q ∙ ap is_some (sym (options-push K e p q));
    }

once-each : (K es : List Entry) (p : Place) → StandOnce (queues_of K p) (queue_options K p) → EachCaused K es → StandOnce (queues_of (K ++ es) p) (queue_options (K ++ es) p)
once-each K [] p h caused = subst (λ J. StandOnce (queues_of J p) (queue_options J p)) (sym (append-nil K)) h
once-each K (e ∷ es) p h caused =
    subst (λ J. StandOnce (queues_of J p) (queue_options J p)) (append_assoc K (e ∷ []) es) (once-each (K ++ e ∷ []) es p (once-push K p e h caused.0) caused.1)

once-first : (p : Place) → StandOnce (queues_of [] p) (queue_options [] p)
unfolding queues_of queue_options
once-first p = record { distinct = tt; stand = λ q. refl }

once-all : (J : List Entry) (p : Place) → EachCaused [] J → StandOnce (queues_of J p) (queue_options J p)
once-all J p caused = once-each [] J p (once-first p) caused

-- no two queues of a place have the same name (AMQP 0-9-1, 3.1.1)
pub queues-distinct : (J : List Entry) (p : Place) → EachCaused [] J → AreDistinct (queues_of J p)
queues-distinct J p caused = (once-all J p caused).distinct

-- the queues of a place are those that stand (AMQP 0-9-1, queue.declare)
pub queues-stand : (J : List Entry) (p : Place) (q : List ℕ) → EachCaused [] J → list_any (same_text q) (queues_of J p) ≡ is_some (queue_options J p q)
queues-stand J p q caused = (once-all J p caused).stand q

-- ---- those that go with a connection

abbrev EachStands : List Entry → Place → List (List ℕ) → Type 0
EachStands K p [] = Unit {0}
EachStands K p (q ∷ qs) = (is_some (queue_options K p q) ≡ true) × EachStands K p qs

exclusive-some : (o : Option QueueOptions) → is_exclusive_in o ≡ true → is_some o ≡ true
exclusive-some None h = h
exclusive-some (Some o) h = refl

-- they stand, also in a later journal that has the same options
owned-stand : (J K : List Entry) (p : Place) (n : ℕ) (qs : List (List ℕ)) → ((q : List ℕ) → queue_options K p q ≡ queue_options J p q) → EachStands K p (filter (goes_with J p n) qs)
owned-stand J K p n [] same = tt
owned-stand J K p n (q ∷ qs) same =
    elim (goes_with J p n q) as (λ b. goes_with J p n q ≡ b → EachStands K p (cond b (q ∷ filter (goes_with J p n) qs) (filter (goes_with J p n) qs))) [
      | true ↦ (λ on. (ap is_some (same q) ∙ exclusive-some (queue_options J p q) (and_parts (is_exclusive J p q) (is_connection_in n (queue_owner J p q)) on).0, owned-stand J K p n qs same))
      | false ↦ (λ _. owned-stand J K p n qs same)
    ] refl

-- a queue stands as before after one of another name is gone
still-stands : (K : List Entry) (p : Place) (gone q : List ℕ) → same_text gone q ≡ false → is_some (queue_options K p q) ≡ true → is_some (queue_options (K ++ GoneQueue p gone ∷ []) p q) ≡ true
still-stands K p gone q off h =
    ap is_some (options-push K (GoneQueue p gone) p q ∙ cond-false (is_queue p q p gone) None (queue_options K p q) (and_right (same_place p p) (same_text gone q) off)) ∙ h

others-stand : (K : List Entry) (p : Place) (gone : List ℕ) (qs : List (List ℕ)) → list_any (same_text gone) qs ≡ false → EachStands K p qs → EachStands (K ++ GoneQueue p gone ∷ []) p qs
others-stand K p gone [] off h = tt
others-stand K p gone (q ∷ qs) off h =
    let parts : (same_text gone q ≡ false) × (list_any (same_text gone) qs ≡ false) = or_parts (same_text gone q) (list_any (same_text gone) qs) off in
    (still-stands K p gone q parts.0 h.0, others-stand K p gone qs parts.1 h.1)

gone-suit : (K : List Entry) (p : Place) (qs : List (List ℕ)) → AreDistinct qs → EachStands K p qs → EachSuits K (map (GoneQueue p) qs)
gone-suit K p [] distinct h = tt
gone-suit K p (q ∷ qs) distinct h = (h.0, gone-suit (K ++ GoneQueue p q ∷ []) p qs distinct.1 (others-stand K p q qs distinct.0 h.1))

-- the entries of a connection's end suit the journal (AMQP 0-9-1, connection.close)
pub close-suits : (J : List Entry) (p : Place) (n : ℕ) → EachCaused [] J → EachSuits J (Closed p n ∷ map (GoneQueue p) (queues_owned J p n))
unfolding queues_owned
close-suits J p n caused = (
  tt,
  gone-suit (J ++ Closed p n ∷ []) p (filter (goes_with J p n) (queues_of J p))
      (distinct-filter (goes_with J p n) (queues_of J p) (queues-distinct J p caused))
      (owned-stand J (J ++ Closed p n ∷ []) p n (queues_of J p) (λ q. options-push J (Closed p n) p q)),
)
