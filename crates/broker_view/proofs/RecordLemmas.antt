-- What the calls of a virtual host need, as the entry suits the journal.
use Rattle.std.proofs.Common.{◌≡◌, ℕ, zero, suc, ◌+◌, List, [], ◌∷◌, ◌++◌, take, drop, map, slice_index_or, length, Bool, true, cond, Some, refl, sym, ap, subst, ◌∙◌}
use Rattle.fed_journal.specs.declared.place.Place.{Place}
use Rattle.client_rules.specs.declared.client.Client.{Client}
use Rattle.fed_journal.specs.declared.entry.Publication.{Publication}
use Rattle.fed_journal.specs.declared.entry.Entry.{Entry}
use Rattle.fed_journal.specs.declared.entry.Entry.TheVariants.{Published, Delivered}
use Rattle.fed_journal.specs.Names.{same_place}
use Rattle.fed_journal.specs.Copies.{copy_count}
use Rattle.fed_journal.specs.Holds.{first_ready}
use Rattle.mini_broker.specs.Publish.{first_of}
use Rattle.broker_store.specs.Queues.{ready_in, AreAbove}
use Rattle.mini_broker.specs.Record.{with_handed}
use Rattle.mini_broker.specs.State.{VhostState}
use Rattle.broker_view.specs.declared.host.Host.{Host}
use Rattle.broker_view.specs.Hosts.{place_of, followed_at, IsRecordable}
use Rattle.broker_view.specs.Suits.{Suits}
use Rattle.broker_view.proofs.Names.{same_place-true}
use Rattle.broker_view.proofs.Questions.{first_ready-is}
use Rattle.broker_view.proofs.HostLemmas.{recorded-as}

pub ready-at : (host : Host) (e : Entry) → IsRecordable host e → (place : Place) (client : Client) (tag queue : List ℕ) (copy : ℕ) (no_ack : Bool) → Delivered place client tag queue copy no_ack ≡ e → same_place place (place_of host.broker) ≡ true → ready_in queue host.vhost.queues ≡ Some copy
ready-at host e r place client tag queue copy no_ack is here =
    let suits : first_ready r.journal place queue ≡ Some copy = subst (Suits r.journal) (sym is) r.suits in
    first_ready-is r.journal (place_of host.broker) host.vhost queue r.view.copies
    ∙ ap (λ p. first_ready r.journal p queue) (sym (same_place-true place (place_of host.broker) here)) ∙ suits

pub handed-as : (e : Entry) (host : Host) (v : VhostState) (place : Place) (client : Client) (tag queue : List ℕ) (copy : ℕ) (no_ack : Bool) → Delivered place client tag queue copy no_ack ≡ e → same_place place (place_of host.broker) ≡ true → v ≡ with_handed client tag queue copy no_ack host.vhost → record host { vhost = v } ≡ followed_at e host
handed-as e host v place client tag queue copy no_ack is here k =
    recorded-as e (Delivered place client tag queue copy no_ack) host v (sym is) (k ∙ sym (ap (λ b. cond b (with_handed client tag queue copy no_ack host.vhost) host.vhost) here))

-- the number of the first copy, where there is one
pub first-number : (n first : ℕ) (names : List (List ℕ)) → first ≡ first_of n names → (length names ≡ 0 → ⊥) → first ≡ n
first-number n first [] is some = absurd (some refl)
first-number n first (name ∷ names) is some = is

pub above-at : (host : Host) (x : Publication) → IsRecordable host (Published x) → (length x.queues ≡ 0 → ⊥) → AreAbove x.first host.vhost.queues
above-at host x r some =
    subst (λ n. AreAbove n host.vhost.queues) (sym (first-number (copy_count r.journal + 1) x.first x.queues r.suits.0 some)) r.view.counted.above

-- what is left of a list while its front is changed
pub left-at : {X : Type 0} (f : X → X) (i : ℕ) (xs : List X) (d : X) → slice_index_or (map f (take i xs) ++ drop i xs) i d ≡ slice_index_or xs i d
left-at f zero xs d = refl
left-at f (suc i) [] d = refl
left-at f (suc i) (x ∷ xs) d = left-at f i xs d
