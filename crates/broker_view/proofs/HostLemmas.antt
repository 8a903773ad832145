-- The hosts of a run by their brokers.
use Rattle.std.proofs.Common.{◌≡◌, ℕ, List, [], ◌∷◌, Bool, true, false, cond, Option, Some, None, is_some, refl, sym, ap, subst, ◌∙◌, find}
use Rattle.std.specs.Prelude.{◌||◌, ◌&&◌, All, codes}
use Rattle.std.specs.Borrow.{Bor}
use Rattle.std.specs.List.{list_any}
use Rattle.std.specs.Option.{option_copied}
use Rattle.std.proofs.lemmas.Option.{none-some, same_Some}
use Rattle.std.proofs.lemmas.List.Elements.{All-head, All-tail}
use Rattle.fed_journal.specs.declared.place.Place.{Place}
use Rattle.fed_journal.specs.declared.entry.Entry.{Entry}
use Rattle.fed_journal.specs.Names.{same_text}
use Rattle.fed_journal.specs.Configuration.{is_broker, is_place}
use Rattle.broker_store.specs.declared.account.Account.{Account}
use Rattle.mini_broker.specs.State.{VhostState}
use Rattle.broker_view.specs.declared.host.Host.{Host}
use Rattle.broker_view.specs.Confirms.{HasConfirms}
use Rattle.broker_view.specs.Hosts.{place_of, followed_at, told_at, AreViews, IsRecordable}
use Rattle.broker_view.specs.Recorded.{recorded}
use Rattle.broker_view.specs.Told.{told}
use Rattle.broker_view.specs.View.{IsView}
use Rattle.broker_view.proofs.Names.{same_text-true}

pub find-any : {X : Type 0} (test : X → Bool) (xs : List X) → is_some (find test xs) ≡ list_any test xs
find-any test [] = refl
find-any test (x ∷ xs) = elim (test x) as (λ b. is_some (cond b (Some x) (find test xs)) ≡ (b || list_any test xs)) [ true ↦ refl | false ↦ find-any test xs ]

pub some-copied : {X : Type 0} (o : Option (Bor X)) → is_some o ≡ is_some (option_copied o)
some-copied None = refl
some-copied (Some x) = refl

pub known-broker : (J : List Entry) (hosts : List Host) (b : List ℕ) → AreViews J hosts → is_some (find (λ (host : Host). same_text host.broker b) hosts) ≡ is_broker J b
known-broker J hosts b views = find-any (λ (host : Host). same_text host.broker b) hosts ∙ views.brokers b

pub known-place : (J : List Entry) (hosts : List Host) (p : Place) (o : Option Host) → AreViews J hosts → same_text p.vhost (codes "/") ≡ true → o ≡ find (λ (host : Host). same_text host.broker p.broker) hosts → is_some o ≡ is_place J p
unfolding is_place
known-place J hosts p o views slash is = ap is_some is ∙ known-broker J hosts p.broker views ∙ sym (ap (λ b. b && is_broker J p.broker) slash)

pub other-place : (J : List Entry) (p : Place) → same_text p.vhost (codes "/") ≡ false → false ≡ is_place J p
unfolding is_place
other-place J p off = sym (ap (λ b. b && is_broker J p.broker) off)

record IsFound (b : List ℕ) (P : Host → Type 0) (host : Host) : Type 0 where
  name : same_text host.broker b ≡ true
  holds : P host

found-by : (b : List ℕ) (P : Host → Type 0) (h host : Host) (rest : Option Host) (c : Bool) → same_text h.broker b ≡ c → cond c (Some h) rest ≡ Some host → P h → (rest ≡ Some host → IsFound b P host) → IsFound b P host
found-by b P h host rest true on is holds later = let same : h ≡ host = same_Some h host is in subst (IsFound b P) same (record { name = on; holds = holds })
found-by b P h host rest false off is holds later = later is

found-all : (b : List ℕ) (P : Host → Type 0) (hosts : List Host) (host : Host) → All P hosts → find (λ (h : Host). same_text h.broker b) hosts ≡ Some host → IsFound b P host
found-all b P [] host all is = absurd (none-some host is)
found-all b P (h ∷ hosts) host all is = found-by b P h host (find (λ (x : Host). same_text x.broker b) hosts) (same_text h.broker b) refl is (All-head P h hosts all) (found-all b P hosts host (All-tail P h hosts all))

-- the virtual host of the place
pub view-place : (J : List Entry) (hosts : List Host) (p : Place) (host : Host) → AreViews J hosts → same_text p.vhost (codes "/") ≡ true → Some host ≡ find (λ (h : Host). same_text h.broker p.broker) hosts → IsView J p host.vhost
view-place J hosts p host views slash is =
    let f : IsFound p.broker (λ (h : Host). IsView J (place_of h.broker) h.vhost) host = found-all p.broker (λ (h : Host). IsView J (place_of h.broker) h.vhost) hosts host views.views (sym is) in
    subst (λ b. IsView J (record { broker = b; vhost = p.vhost }) host.vhost) (same_text-true host.broker p.broker f.name)
    (subst (λ v. IsView J (record { broker = host.broker; vhost = v }) host.vhost) (sym (same_text-true p.vhost (codes "/") slash)) f.holds)

-- what is owed at the place
pub owed-place : (J : List Entry) (hosts : List Host) (p : Place) (host : Host) → AreViews J hosts → same_text p.vhost (codes "/") ≡ true → Some host ≡ find (λ (h : Host). same_text h.broker p.broker) hosts → HasConfirms J p host.confirms
owed-place J hosts p host views slash is =
    let f : IsFound p.broker (λ (h : Host). HasConfirms J (place_of h.broker) h.confirms) host = found-all p.broker (λ (h : Host). HasConfirms J (place_of h.broker) h.confirms) hosts host views.confirms (sym is) in
    subst (λ b. HasConfirms J (record { broker = b; vhost = p.vhost }) host.confirms) (same_text-true host.broker p.broker f.name)
    (subst (λ v. HasConfirms J (record { broker = host.broker; vhost = v }) host.confirms) (sym (same_text-true p.vhost (codes "/") slash)) f.holds)

-- what is recorded of a host
pub recorded-as : (e d : Entry) (host : Host) (v : VhostState) → e ≡ d → v ≡ recorded (place_of host.broker) d host.vhost → record host { vhost = v } ≡ followed_at e host
recorded-as e d host v is k = λ i. record host { vhost = (k ∙ ap (λ x. recorded (place_of host.broker) x host.vhost) (sym is)) i }

-- what the confirms that are owed become
pub told-as : (e d : Entry) (host : Host) (accounts : List Account) → e ≡ d → accounts ≡ told (place_of host.broker) d host.vhost host.confirms → record host { confirms = accounts } ≡ told_at e host
told-as e d host accounts is k = λ i. record host { confirms = (k ∙ ap (λ x. told (place_of host.broker) x host.vhost host.confirms) (sym is)) i }

-- what stands at the host doesn't depend on what it owes
pub told-recordable : (host : Host) (e : Entry) → IsRecordable host e → IsRecordable (told_at e host) e
told-recordable host e r = record { journal = r.journal; view = r.view; suits = r.suits }
