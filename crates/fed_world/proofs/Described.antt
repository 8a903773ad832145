-- A link's description stays what it is, since a shovel is set once and every broker begins before.
use Rattle.std.proofs.Common.{◌≡◌, ℕ, List, [], ◌∷◌, ◌++◌, Bool, true, false, Option, Some, None, refl, sym, ap, ap₂, subst, ◌∙◌, inl, inr, append_assoc, append-nil}
use Rattle.std.specs.Prelude.{cond, ◌&&◌, ◌||◌, find, flat_map, codes}
use Rattle.std.specs.List.{list_any, list_all}
use Rattle.std.specs.Option.{option_or}
use Rattle.std.proofs.lemmas.Bool.{true≢false, and_from}
use Rattle.std.proofs.lemmas.List.Folds.{find-append, list_any-append, list_all-append}
use Rattle.std.proofs.lemmas.List.Concat.{flat_map-append}
use Rattle.fed_journal.specs.declared.place.Place.{Place}
use Rattle.fed_journal.specs.declared.event.Shovel.{Shovel}
use Rattle.fed_journal.specs.declared.link.LinkSpec.{LinkSpec}
use Rattle.fed_journal.specs.declared.entry.Entry.{Entry}
use Rattle.fed_journal.specs.declared.entry.Entry.TheVariants.{Begun, ShovelSet}
use Rattle.fed_journal.specs.Configuration.{begins, is_broker, is_place}
use Rattle.fed_journal.specs.Names.{same_text, same_place}
use Rattle.fed_journal.specs.Limits.{default_prefetch}
use Rattle.fed_journal.specs.Words.{shovel_link_name}
use Rattle.fed_journal.specs.Links.{place_at, place_named, start_state, spec_of, links_set_by, links_of_broker, links_of, is_named, link_of, sets_shovel, is_shovel_set}
use Rattle.broker_view.proofs.Names.{same_text-true, same_text-refl}
use Rattle.fed_world.specs.Kept.{StandsAfter}
use Rattle.fed_world.proofs.Causes.{is_begun, Caused, EachCaused, caused-append, caused-back, caused-at}
use Rattle.fed_world.proofs.LinkNames.{names-apart}
use Rattle.fed_world.proofs.Lists.{IsIn, Split, find-in, in-flat, any-middle}

or_none : {X : Type 0} (o : Option X) → option_or o None ≡ o
or_none None = refl
or_none (Some x) = refl

find-front : {X : Type 0} (p : X → Bool) (xs ys : List X) → find p ys ≡ None → find p (xs ++ ys) ≡ find p xs
find-front p xs ys h = find-append p xs ys ∙ ap (λ o. option_or (find p xs) o) h ∙ or_none (find p xs)

-- lists that find the same are found the same in
find-flat : {X Y : Type 0} (p : Y → Bool) (g h : X → List Y) → ((x : X) → find p (g x) ≡ find p (h x)) → (xs : List X) → find p (flat_map g xs) ≡ find p (flat_map h xs)
find-flat p g h same [] = refl
find-flat p g h same (x ∷ xs) =
    find-append p (g x) (flat_map g xs) ∙ ap₂ option_or (same x) (find-flat p g h same xs) ∙ sym (find-append p (h x) (flat_map h xs))

-- an entry that brings neither a broker nor a link of the name
record IsQuiet (l : List ℕ) (e : Entry) : Type 0 where
  no_broker : (b : List ℕ) → begins b e ≡ false
  no_links : (J : List Entry) → links_of_broker J e ≡ []
  no_link : (J : List Entry) (b : List ℕ) → find (is_named l) (links_set_by J b e) ≡ None

or_false : (b : Bool) → (b || false) ≡ b
or_false true = refl
or_false false = refl

is_broker-push : (K : List Entry) (e : Entry) (b : List ℕ) → begins b e ≡ false → is_broker (K ++ e ∷ []) b ≡ is_broker K b
is_broker-push K e b h =
    list_any-append (begins b) K (e ∷ []) ∙ ap (λ v. list_any (begins b) K || (v || false)) h ∙ or_false (list_any (begins b) K)

is_place-push : (K : List Entry) (e : Entry) (p : Place) → begins p.broker e ≡ false → is_place (K ++ e ∷ []) p ≡ is_place K p
unfolding is_place
is_place-push K e p h = ap (λ v. same_text p.vhost (codes "/") && v) (is_broker-push K e p.broker h)

place_named-push : (K : List Entry) (e : Entry) (p : Place) → begins p.broker e ≡ false → place_named (K ++ e ∷ []) p ≡ place_named K p
place_named-push K e p h = ap (λ v. cond v (Some p) None) (is_place-push K e p h)

-- a shovel's description between two places
spec_between : Place → List ℕ → Shovel → Option Place → Option Place → LinkSpec
spec_between owner name shovel source target = record {
  name = shovel_link_name owner name;
  start = start_state source target (shovel_link_name owner name);
  owner = owner;
  source = source;
  target = target;
  source_queue = shovel.source_queue;
  target_queue = shovel.target_queue;
  mode = shovel.mode;
  prefetch = default_prefetch;
}

spec_of-is : (J : List Entry) (owner : Place) (name : List ℕ) (shovel : Shovel) → spec_of J owner name shovel ≡ spec_between owner name shovel (place_named J (place_at shovel.source owner)) (place_named J (place_at shovel.target owner))
unfolding spec_of spec_between
spec_of-is J owner name shovel = refl

spec_of-name : (J : List Entry) (owner : Place) (name : List ℕ) (shovel : Shovel) → (spec_of J owner name shovel).name ≡ shovel_link_name owner name
unfolding spec_of
spec_of-name J owner name shovel = refl

spec_of-push : (K : List Entry) (e : Entry) (owner : Place) (name : List ℕ) (shovel : Shovel) → ((b : List ℕ) → begins b e ≡ false) → spec_of (K ++ e ∷ []) owner name shovel ≡ spec_of K owner name shovel
spec_of-push K e owner name shovel h =
    spec_of-is (K ++ e ∷ []) owner name shovel
    ∙ ap₂ (spec_between owner name shovel) (place_named-push K e (place_at shovel.source owner) (h shovel.source)) (place_named-push K e (place_at shovel.target owner) (h shovel.target))
    ∙ sym (spec_of-is K owner name shovel)

links_set_by-push : (K : List Entry) (e : Entry) (b : List ℕ) (d : Entry) → ((b : List ℕ) → begins b e ≡ false) → links_set_by (K ++ e ∷ []) b d ≡ links_set_by K b d
links_set_by-push K e b (ShovelSet p n v) h = ap (λ s. cond (same_text p.broker b) (s ∷ []) []) (spec_of-push K e p n v h)
links_set_by-push K e b _ h = refl

links_of_broker-push : (K : List Entry) (e : Entry) (l : List ℕ) → IsQuiet l e → (d : Entry) → find (is_named l) (links_of_broker (K ++ e ∷ []) d) ≡ find (is_named l) (links_of_broker K d)
links_of_broker-push K e l quiet (Begun b c k) =
    ap (find (is_named l)) (flat_map-append (links_set_by (K ++ e ∷ []) b) K (e ∷ []))
    ∙ find-front (is_named l) (flat_map (links_set_by (K ++ e ∷ []) b) K) (links_set_by (K ++ e ∷ []) b e ++ []) (ap (find (is_named l)) (append-nil (links_set_by (K ++ e ∷ []) b e)) ∙ quiet.no_link (K ++ e ∷ []) b)
    ∙ find-flat (is_named l) (links_set_by (K ++ e ∷ []) b) (links_set_by K b) (λ d. ap (find (is_named l)) (links_set_by-push K e b d quiet.no_broker)) K
links_of_broker-push K e l quiet _ = refl

link_of-push : (K : List Entry) (e : Entry) (l : List ℕ) → IsQuiet l e → link_of (K ++ e ∷ []) l ≡ link_of K l
unfolding link_of links_of
link_of-push K e l quiet =
    ap (find (is_named l)) (flat_map-append (links_of_broker (K ++ e ∷ [])) K (e ∷ []))
    ∙ find-front (is_named l) (flat_map (links_of_broker (K ++ e ∷ [])) K) (links_of_broker (K ++ e ∷ []) e ++ []) (ap (λ ls. find (is_named l) (ls ++ [])) (quiet.no_links (K ++ e ∷ [])))
    ∙ find-flat (is_named l) (links_of_broker (K ++ e ∷ [])) (links_of_broker K) (links_of_broker-push K e l quiet) K

-- a queue's declaration changes no link
pub link_of-made : (K : List Entry) (e : Entry) (l : List ℕ) → ((b : List ℕ) → begins b e ≡ false) → ((J : List Entry) → links_of_broker J e ≡ []) → ((J : List Entry) (b : List ℕ) → links_set_by J b e ≡ []) → link_of (K ++ e ∷ []) l ≡ link_of K l
link_of-made K e l broker links set = link_of-push K e l (record { no_broker = broker; no_links = links; no_link = λ J b. ap (find (is_named l)) (set J b) })

-- the link's description comes from a shovel that was set
record IsSetBy (K : List Entry) (name : List ℕ) : Type 0 where
  before : List Entry
  place : Place
  shovel_name : List ℕ
  shovel : Shovel
  stands : StandsAfter before (ShovelSet place shovel_name shovel) K
  named : shovel_link_name place shovel_name ≡ name

set-if : (J : List Entry) (p : Place) (n : List ℕ) (v : Shovel) (spec : LinkSpec) (b : Bool) → IsIn spec (cond b (spec_of J p n v ∷ []) []) → shovel_link_name p n ≡ spec.name
set-if J p n v spec true (inl same) = sym (spec_of-name J p n v) ∙ ap (λ s. s.name) same
set-if J p n v spec true (inr h) = absurd h
set-if J p n v spec false h = absurd h

set-by : (J : List Entry) (b : List ℕ) (spec : LinkSpec) (before : List Entry) (d : Entry) (rest : List Entry) → J ≡ before ++ d ∷ rest → IsIn spec (links_set_by J b d) → IsSetBy J spec.name
set-by J b spec before (ShovelSet p n v) rest whole h =
    record { before = before; place = p; shovel_name = n; shovel = v; stands = (rest, whole); named = set-if J p n v spec (same_text p.broker b) h }
set-by J b spec before _ rest whole h = absurd h

set-of : (J : List Entry) (spec : LinkSpec) (d : Entry) → IsIn spec (links_of_broker J d) → IsSetBy J spec.name
set-of J spec (Begun b c k) h =
    let at : Split (λ e. IsIn spec (links_set_by J b e)) J = in-flat (links_set_by J b) spec J h in
    set-by J b spec at.before at.at at.rest at.whole at.holds
set-of J spec _ h = absurd h

described-set : (J : List Entry) (l : List ℕ) (spec : LinkSpec) → link_of J l ≡ Some spec → IsSetBy J l
unfolding link_of links_of
described-set J l spec h =
    let found : (is_named l spec ≡ true) × IsIn spec (flat_map (links_of_broker J) J) = find-in (is_named l) spec (flat_map (links_of_broker J) J) h in
    let at : Split (λ e. IsIn spec (links_of_broker J e)) J = in-flat (links_of_broker J) spec J found.1 in
    subst (IsSetBy J) (same_text-true spec.name l found.0) (set-of J spec at.at at.holds)

-- a second shovel of the link's name would be the one that is set
set-again : (K : List Entry) (l : List ℕ) (p : Place) (n : List ℕ) → EachCaused [] K → IsSetBy K l → same_text p.vhost (codes "/") ≡ true → shovel_link_name p n ≡ l → is_shovel_set K p n ≡ true
unfolding is_shovel_set
set-again K l p n caused s vhost same =
    let first : (same_text s.place.vhost (codes "/") ≡ true) × (is_shovel_set s.before s.place s.shovel_name ≡ false) = (caused-at K s.before (ShovelSet s.place s.shovel_name s.shovel) caused s.stands).1 in
    let parts : (s.place.broker ≡ p.broker) × (s.shovel_name ≡ n) = names-apart s.place p s.shovel_name n first.0 vhost (s.named ∙ sym same) in
    let vhosts : s.place.vhost ≡ p.vhost = same_text-true s.place.vhost (codes "/") first.0 ∙ sym (same_text-true p.vhost (codes "/") vhost) in
    let places : same_place s.place p ≡ true = and_from (same_text s.place.broker p.broker) (same_text s.place.vhost p.vhost) (ap (λ t. same_text t p.broker) parts.0 ∙ same_text-refl p.broker) (ap (λ t. same_text t p.vhost) vhosts ∙ same_text-refl p.vhost) in
    let sets : sets_shovel p n (ShovelSet s.place s.shovel_name s.shovel) ≡ true = and_from (same_place s.place p) (same_text s.shovel_name n) places (ap (λ t. same_text t n) parts.1 ∙ same_text-refl n) in
    subst (λ J. list_any (sets_shovel p n) J ≡ true) (sym s.stands.1) (any-middle (sets_shovel p n) (ShovelSet s.place s.shovel_name s.shovel) s.before s.stands.0 sets)

unlike : (K : List Entry) (l : List ℕ) (p : Place) (n : List ℕ) → EachCaused [] K → IsSetBy K l → same_text p.vhost (codes "/") ≡ true → is_shovel_set K p n ≡ false → (b : Bool) → same_text (shovel_link_name p n) l ≡ b → b ≡ false
unlike K l p n caused s vhost fresh true e = absurd (true≢false (sym (set-again K l p n caused s vhost (same_text-true (shovel_link_name p n) l e)) ∙ fresh))
unlike K l p n caused s vhost fresh false e = refl

other-if : (J : List Entry) (l : List ℕ) (p : Place) (n : List ℕ) (v : Shovel) (b : Bool) → same_text (shovel_link_name p n) l ≡ false → find (is_named l) (cond b (spec_of J p n v ∷ []) []) ≡ None
unfolding spec_of
other-if J l p n v true h = ap (λ b. cond b (Some (spec_of J p n v)) None) h
other-if J l p n v false h = refl

described-set_push : (K : List Entry) (l : List ℕ) (spec : LinkSpec) (p : Place) (n : List ℕ) (v : Shovel) → EachCaused [] K → Caused K (ShovelSet p n v) → link_of K l ≡ Some spec → link_of (K ++ ShovelSet p n v ∷ []) l ≡ Some spec
described-set_push K l spec p n v caused cause h =
    let other : same_text (shovel_link_name p n) l ≡ false = same-of (same_text (shovel_link_name p n) l) (unlike K l p n caused (described-set K l spec h) cause.0 cause.1) in
    link_of-push K (ShovelSet p n v) l (record { no_broker = λ b. refl; no_links = λ J. refl; no_link = λ J b. other-if J l p n v (same_text p.broker b) other }) ∙ h
  where
    same-of : (b : Bool) → ((c : Bool) → b ≡ c → c ≡ false) → b ≡ false
    same-of b f = f b refl

described-push : (K : List Entry) (l : List ℕ) (spec : LinkSpec) (e : Entry) → EachCaused [] K → Caused K e → is_begun e ≡ false → link_of K l ≡ Some spec → link_of (K ++ e ∷ []) l ≡ Some spec
described-push K l spec (Begun b c k) caused cause fresh h = absurd (true≢false fresh)
described-push K l spec (ShovelSet p n v) caused cause fresh h = described-set_push K l spec p n v caused cause h
described-push K l spec e caused cause fresh h = link_of-push K e l (record { no_broker = λ b. refl; no_links = λ J. refl; no_link = λ J b. refl }) ∙ h

not-all : (K : List Entry) (e : Entry) → is_begun e ≡ false → list_all is_begun (K ++ e ∷ []) ≡ false
not-all K e h = list_all-append is_begun K (e ∷ []) ∙ ap (λ b. list_all is_begun K && (b && true)) h ∙ and_false (list_all is_begun K)
  where
    and_false : (b : Bool) → (b && false) ≡ false
    and_false true = refl
    and_false false = refl

-- after another entry no broker begins
later-fresh : (K : List Entry) (e : Entry) → list_all is_begun K ≡ false → Caused K e → is_begun e ≡ false
later-fresh K (Begun b c k) h cause = absurd (true≢false (sym cause ∙ h))
later-fresh K _ h cause = refl

described-each : (K es : List Entry) (l : List ℕ) (spec : LinkSpec) → EachCaused [] K → EachCaused K es → list_all is_begun K ≡ false → link_of K l ≡ Some spec → link_of (K ++ es) l ≡ Some spec
described-each K [] l spec caused h fresh d = subst (λ J. link_of J l ≡ Some spec) (sym (append-nil K)) d
described-each K (e ∷ es) l spec caused h fresh d =
    let one : is_begun e ≡ false = later-fresh K e fresh h.0 in
    subst (λ J. link_of J l ≡ Some spec) (append_assoc K (e ∷ []) es)
    (described-each (K ++ e ∷ []) es l spec (caused-append [] K (e ∷ []) caused (h.0, tt)) h.1 (not-all K e one) (described-push K l spec e caused h.0 one d))

-- a link keeps its description after an entry that begins no broker
pub described-later : (K : List Entry) (e : Entry) (J : List Entry) (l : List ℕ) (spec : LinkSpec) → EachCaused [] J → StandsAfter K e J → is_begun e ≡ false → link_of K l ≡ Some spec → link_of J l ≡ Some spec
described-later K e J l spec caused stands fresh d =
    let at : EachCaused [] K × Caused K e = caused-at J K e caused stands in
    let back : EachCaused K (e ∷ stands.0) = caused-back [] K (e ∷ stands.0) (subst (EachCaused []) stands.1 caused) in
    subst (λ L. link_of L l ≡ Some spec) (sym stands.1)
    (subst (λ L. link_of L l ≡ Some spec) (append_assoc K (e ∷ []) stands.0)
    (described-each (K ++ e ∷ []) stands.0 l spec (caused-append [] K (e ∷ []) at.0 (at.1, tt)) back.1 (not-all K e fresh) (described-push K l spec e at.0 at.1 fresh d)))
