-- From what is reached to the queues that a message reaches.
use Rattle.std.proofs.Common.{◌≡◌, ◌≢◌, ℕ, ◌≤◌, Bool, true, false, not, ◌&&◌, cond, List, [], ◌∷◌, Option, Some, None, map, length, refl, ap, ◌∙◌, arith}
use Rattle.std.specs.Prelude.{filter}
use Rattle.std.specs.Bool.{one_answer}
use Rattle.std.specs.List.{Contains, filter_map, cons_option}
use Rattle.std.proofs.lemmas.Bool.{false≢true, and_parts, and_from}
use Rattle.std.proofs.lemmas.List.{length-map}
use Rattle.std.proofs.lemmas.List.Elements.{filter_agree, filter_passes, All-filter, All-contains, All-contains_itself}
use Rattle.std.proofs.lemmas.List.Filters.{length-filter_both}
use Rattle.route_core.specs.declared.object.Sort.TheVariants as sorts
use Rattle.route_core.specs.declared.object.Node.{Node}
use Rattle.route_core.specs.declared.object.Node.TheVariants as nodes
use Rattle.route_core.specs.declared.object.Object.{Object}
use Rattle.route_core.specs.Objects.{same_sort, sort_of, number_of}
use Rattle.route_core.specs.Routing.{Routing, object_named}
use Rattle.route_core.specs.Walks.{Publish, Stop, IsReached, Reaches, by_walk}
use Rattle.client_rules.specs.Names.{is_reserved}
use Rattle.route_core.specs.Spreading.{is_among, is_queue_at, number_at, AreStops}
use Rattle.route_core.specs.Routes.{is_reached, is_routed, routed, routed_names, routed_numbers}
use Rattle.route_core.specs.Laws.{IsReachedQueue}
use Rattle.route_core.proofs.Lists.{Contains-filter}
use Rattle.route_core.proofs.StopLemmas.{among_all}
use Rattle.route_core.proofs.RoundLemmas.{reached_yes, reached_back}
use Rattle.route_core.proofs.RouteLemmas.{walked, named_stops, named_sound, named_whole}

-- the queues of these names are those that the message reaches
record NamesReached (r : Routing) (p : Publish) (stops : List Stop) : Type 0 where
  sound : (name : List ℕ) → is_among stops sorts.Queue name ≡ true → Reaches r p name
  whole : (name : List ℕ) → Reaches r p name → is_among stops sorts.Queue name ≡ true

among_is : (r : Routing) (p : Publish) (stops : List Stop) → NamesReached r p stops → (name : List ℕ) → is_among stops sorts.Queue name ≡ is_reached r p name
among_is r p stops h name =
    one_answer (is_among stops sorts.Queue name) (is_reached r p name) (h.sound name, h.whole name) (reached_yes r p name, reached_back r p name)

queue_is : (r : Routing) (p : Publish) (stops : List Stop) → NamesReached r p stops → (o : Object) → is_queue_at stops o ≡ is_routed r p o
queue_is r p stops h o = ap (λ b. same_sort (sort_of o.node) sorts.Queue && b) (among_is r p stops h o.name)

names_are : (r : Routing) (p : Publish) (stops : List Stop) → NamesReached r p stops → map (λ (o : Object). o.name) (filter (is_queue_at stops) r.objects) ≡ routed_names r p
unfolding routed
names_are r p stops h =
    ap (λ (os : List Object). map (λ (o : Object). o.name) os) (filter_agree (is_queue_at stops) (is_routed r p) (queue_is r p stops h) r.objects)

by_walks : (r : Routing) (p : Publish) (stops : List Stop) → p.exchange ≢ [] → AreStops r p stops → NamesReached r p stops
by_walks r p stops other h = record {
  sound = λ name t. by_walk other (among_all (IsReached r p) stops sorts.Queue name h.sound t);
  whole = walked r p stops other h;
}

by_names : (r : Routing) (p : Publish) → p.exchange ≡ [] → NamesReached r p (named_stops p)
by_names r p d = record {
  sound = named_sound r p (is_reserved p.key) refl d;
  whole = named_whole r p (is_reserved p.key) refl d;
}

pub names_walked : (r : Routing) (p : Publish) (stops : List Stop) → p.exchange ≢ [] → AreStops r p stops → map (λ (o : Object). o.name) (filter (is_queue_at stops) r.objects) ≡ routed_names r p
names_walked r p stops other h = names_are r p stops (by_walks r p stops other h)

pub names_named : (r : Routing) (p : Publish) → p.exchange ≡ [] → map (λ (o : Object). o.name) (filter (is_queue_at (named_stops p)) r.objects) ≡ routed_names r p
names_named r p d = names_are r p (named_stops p) (by_names r p d)

-- ---- the numbers

abbrev number : Object → Option ℕ
number o = number_of o.node

queue_one : (name : List ℕ) (n : ℕ) (t : Bool) (numbers : List ℕ) (queues : List Object) → numbers ≡ filter_map number queues → cons_option (cond t (Some n) None) numbers ≡ filter_map number (cond t (object_named name (nodes.Queue n) ∷ queues) queues)
queue_one name n true numbers queues e = ap (λ (ns : List ℕ). n ∷ ns) e
queue_one name n false numbers queues e = e

none_one : (t : Bool) (numbers : List ℕ) → cons_option (cond t None None) numbers ≡ numbers
none_one true numbers = refl
none_one false numbers = refl

number_one : (stops : List Stop) (name : List ℕ) (node : Node) (numbers : List ℕ) (queues : List Object) → numbers ≡ filter_map number queues
    → cons_option (number_at stops (object_named name node)) numbers ≡ filter_map number (cond (is_queue_at stops (object_named name node)) (object_named name node ∷ queues) queues)
number_one stops name (nodes.Queue n) numbers queues e = queue_one name n (is_among stops sorts.Queue name) numbers queues e
number_one stops name (nodes.Exchange kind) numbers queues e = none_one (is_among stops sorts.Exchange name) numbers ∙ e
number_one stops name (nodes.Gate limit cluster vhost) numbers queues e = none_one (is_among stops sorts.Exchange name) numbers ∙ e

numbers_at : (stops : List Stop) (objects : List Object) → filter_map (number_at stops) objects ≡ filter_map number (filter (is_queue_at stops) objects)
numbers_at stops [] = refl
numbers_at stops (o ∷ objects) =
    number_one stops o.name o.node (filter_map (number_at stops) objects) (filter (is_queue_at stops) objects) (numbers_at stops objects)

numbers_are : (r : Routing) (p : Publish) (stops : List Stop) → NamesReached r p stops → filter_map (number_at stops) r.objects ≡ routed_numbers r p
unfolding routed
numbers_are r p stops h =
    numbers_at stops r.objects ∙ ap (λ (os : List Object). filter_map number os) (filter_agree (is_queue_at stops) (is_routed r p) (queue_is r p stops h) r.objects)

pub numbers_walked : (r : Routing) (p : Publish) (stops : List Stop) → p.exchange ≢ [] → AreStops r p stops → filter_map (number_at stops) r.objects ≡ routed_numbers r p
numbers_walked r p stops other h = numbers_are r p stops (by_walks r p stops other h)

pub numbers_named : (r : Routing) (p : Publish) → p.exchange ≡ [] → filter_map (number_at (named_stops p)) r.objects ≡ routed_numbers r p
numbers_named r p d = numbers_are r p (named_stops p) (by_names r p d)

-- ---- how many

few_routed : (r : Routing) (p : Publish) → length (routed_names r p) ≤ length r.objects
unfolding routed
few_routed r p =
    omega (arith, length-filter_both (is_routed r p) (λ (o : Object). not (is_routed r p o)) (λ _. refl) r.objects, length-map (filter (is_routed r p) r.objects) (λ (o : Object). o.name))

pub few_from : (r : Routing) (p : Publish) (names : List (List ℕ)) → names ≡ routed_names r p → length names ≤ length r.objects
few_from r p names e = omega (arith, ap (λ (ns : List (List ℕ)). length ns) e, few_routed r p)

-- ---- the queues themselves

is_queue : (node : Node) → same_sort (sort_of node) sorts.Queue ≡ true → (n : ℕ) × (node ≡ nodes.Queue n)
is_queue (nodes.Queue n) h = (n, refl)
is_queue (nodes.Exchange kind) h = absurd (false≢true h)
is_queue (nodes.Gate limit cluster vhost) h = absurd (false≢true h)

pub routed_yes : (r : Routing) (p : Publish) (o : Object) → Contains (routed r p) o → IsReachedQueue r p o
unfolding routed
routed_yes r p o c =
    let passes = All-contains (λ (x : Object). is_routed r p x ≡ true) (filter (is_routed r p) r.objects) o (filter_passes (is_routed r p) r.objects) c in
    let t = and_parts (same_sort (sort_of o.node) sorts.Queue) (is_reached r p o.name) passes in
    let q = is_queue o.node t.0 in
    record {
      number = q.0;
      queue = q.1;
      stands = All-contains (Contains r.objects) (filter (is_routed r p) r.objects) o (All-filter (is_routed r p) (Contains r.objects) r.objects (All-contains_itself r.objects)) c;
      reached = reached_yes r p o.name t.1;
    }

pub routed_back : (r : Routing) (p : Publish) (o : Object) → IsReachedQueue r p o → Contains (routed r p) o
unfolding routed
routed_back r p o h =
    Contains-filter (is_routed r p) r.objects o h.stands
    (and_from (same_sort (sort_of o.node) sorts.Queue) (is_reached r p o.name) (ap (λ (node : Node). same_sort (sort_of node) sorts.Queue) h.queue) (reached_back r p o.name h.reached))
