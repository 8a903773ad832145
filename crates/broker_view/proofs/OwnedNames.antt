-- What stands at a place answers as the journal has it.
use Rattle.std.proofs.Common.{◌≡◌, ℕ, List, [], ◌∷◌, Bool, true, false, cond, Option, Some, None, refl, sym, ap, ◌∙◌, map}
use Rattle.std.specs.Prelude.{◌==◌, ◌&&◌, All, filter}
use Rattle.std.specs.Option.{option_map, option_map_or, option_and_then}
use Rattle.std.proofs.lemmas.List.Elements.{All-nil, All-cons, All-head, All-tail, All-weaker}
use Rattle.amqp_props.specs.declared.message.Message.{Message}
use Rattle.route_core.specs.Routes.{routed_names}
use Rattle.route_core.specs.Walks.{publish, headers_of}
use Rattle.fed_journal.specs.declared.place.Place.{Place}
use Rattle.fed_journal.specs.declared.entry.Entry.{Entry}
use Rattle.fed_journal.specs.Configuration.{is_connection_in, is_exclusive_in, queue_options, goes_with, queues_owned}
use Rattle.fed_journal.specs.Routes.{routes}
use Rattle.broker_store.specs.Queues.{is_owned, owned_names, Standing, Named}
use Rattle.mini_broker.specs.Publish.{reached}
use Rattle.mini_broker.specs.State.{VhostState}
use Rattle.broker_view.specs.View.{AreDistinct, IsConfigured}
use Rattle.broker_view.proofs.HeldBy.{IsAmong, among-head, among-later}

-- the queues that a message reaches
pub routes-is : (J : List Entry) (p : Place) (v : VhostState) (m : Message) → IsConfigured J p v → reached m v ≡ routes J p m
unfolding routes
routes-is J p v m h = ap (λ r. routed_names r (publish m.exchange m.key (headers_of m))) h.routing

all-among : (queues : List (Named Message)) → AreDistinct (map (λ (q : Named Message). q.0) queues) → All (λ (q : Named Message). IsAmong q queues) queues
all-among [] distinct = All-nil (λ (q : Named Message). IsAmong q [])
all-among (e ∷ queues) distinct =
    All-cons (λ (q : Named Message). IsAmong q (e ∷ queues)) e queues (among-head e queues)
    (All-weaker (λ (q : Named Message). IsAmong q queues) (λ (q : Named Message). IsAmong q (e ∷ queues)) (λ q a. among-later q e queues distinct.0 a) queues (all-among queues distinct.1))

owner-as : (n : ℕ) (o : Option ℕ) → option_map_or (λ owner. owner == n) o false ≡ is_connection_in n o
owner-as n None = refl
owner-as n (Some owner) = refl

owned-as : (J : List Entry) (p : Place) (n : ℕ) (v : VhostState) (q : Named Message) → IsConfigured J p v → IsAmong q v.queues → is_owned n q ≡ goes_with J p n q.0
owned-as J p n v q h a =
    ap (λ b. q.1.options.exclusive && b) (owner-as n q.1.owner)
    ∙ ap (λ o. is_exclusive_in o && is_connection_in n q.1.owner) (sym (ap (option_map (λ (s : Standing Message). s.options)) a.found) ∙ h.options q.0)
    ∙ ap (λ o. is_exclusive_in (queue_options J p q.0) && is_connection_in n o) (sym (ap (option_and_then (λ (s : Standing Message). s.owner)) a.found) ∙ h.owners q.0)

filter-by : (q : Named Message) (rest : List (Named Message)) (names : List (List ℕ)) (b c : Bool) → b ≡ c → map (λ (x : Named Message). x.0) rest ≡ names → map (λ (x : Named Message). x.0) (cond b (q ∷ rest) rest) ≡ cond c (q.0 ∷ names) names
filter-by q rest names true c e k = ap (λ ns. q.0 ∷ ns) k ∙ ap (λ x. cond x (q.0 ∷ names) names) e
filter-by q rest names false c e k = k ∙ ap (λ x. cond x (q.0 ∷ names) names) e

filter-named : (test : Named Message → Bool) (says : List ℕ → Bool) (queues : List (Named Message)) → All (λ (q : Named Message). test q ≡ says q.0) queues → map (λ (x : Named Message). x.0) (filter test queues) ≡ filter says (map (λ (x : Named Message). x.0) queues)
filter-named test says [] all = refl
filter-named test says (q ∷ queues) all =
    filter-by q (filter test queues) (filter says (map (λ (x : Named Message). x.0) queues)) (test q) (says q.0) (All-head (λ (x : Named Message). test x ≡ says x.0) q queues all) (filter-named test says queues (All-tail (λ (x : Named Message). test x ≡ says x.0) q queues all))

-- the queues that a connection has to itself
pub owned-is : (J : List Entry) (p : Place) (n : ℕ) (v : VhostState) → IsConfigured J p v → owned_names n v.queues ≡ queues_owned J p n
unfolding queues_owned
owned-is J p n v h =
    filter-named (is_owned n) (goes_with J p n) v.queues (All-weaker (λ (q : Named Message). IsAmong q v.queues) (λ (q : Named Message). is_owned n q ≡ goes_with J p n q.0) (λ q. owned-as J p n v q h) v.queues (all-among v.queues h.distinct))
    ∙ ap (filter (goes_with J p n)) h.names
