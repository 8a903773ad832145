-- The queues that a message reaches stand, and it reaches each once.
use Rattle.std.proofs.Common.{◌≡◌, ℕ, List, [], ◌∷◌, ◌++◌, Bool, true, false, cond, not, Option, Some, None, is_some, refl, sym, ap, ◌∙◌, map}
use Rattle.std.specs.Prelude.{All, filter, fold, if◌then◌else◌, ◌&&◌}
use Rattle.std.specs.List.{list_any}
use Rattle.std.specs.Option.{option_map}
use Rattle.std.specs.Str.{bytes_eq}
use Rattle.std.proofs.lemmas.Bool.{false≢true, and_parts, and_from, or_parts, or_from, or_left, or_right}
use Rattle.std.proofs.lemmas.List.Elements.{All-nil, All-cons, All-map, All-weaker}
use Rattle.route_core.specs.SameBindings.{sort_self}
use Rattle.amqp_props.specs.declared.message.Message.{Message}
use Rattle.route_core.specs.declared.binding.Binding.{Binding}
use Rattle.route_core.specs.declared.object.Node.{Node}
use Rattle.route_core.specs.declared.object.Node.TheVariants as nodes
use Rattle.route_core.specs.declared.object.Object.{Object}
use Rattle.route_core.specs.declared.object.Sort.{Sort}
use Rattle.route_core.specs.declared.object.Sort.TheVariants as sorts
use Rattle.route_core.specs.Bindings.{has_binding}
use Rattle.route_core.specs.Objects.{same_sort, sort_of, is_named, has}
use Rattle.route_core.specs.Routes.{is_reached, is_routed, routed}
use Rattle.route_core.specs.Routing.{Routing, predeclared, is_default, stands, with_object, without_object, with_binding, without_binding, object_named, bound, unbound, has_ends}
use Rattle.route_core.specs.Walks.{Publish, publish, headers_of}
use Rattle.fed_journal.specs.declared.place.Place.{Place}
use Rattle.fed_journal.specs.declared.entry.Entry.{Entry}
use Rattle.fed_journal.specs.declared.entry.Entry.TheVariants.{MadeQueue, MadeExchange, GoneQueue, Bound, Unbound}
use Rattle.fed_journal.specs.Configuration.{queue_options}
use Rattle.fed_journal.specs.Names.{same_text}
use Rattle.fed_journal.specs.Routes.{Site, first_site, site, site_at, site_step, is_at, made, gone, routes}
use Rattle.broker_store.specs.Queues.{Standing, queue_of}
use Rattle.mini_broker.specs.State.{VhostState}
use Rattle.broker_view.specs.View.{IsConfigured, AreDistinct}
use Rattle.broker_view.proofs.Names.{same_text-refl, same_text-sym}
use Rattle.broker_view.proofs.Tables.{none-push, none-filter}
use Rattle.broker_view.proofs.Sites.{filter-with}

-- ---- each stands

sort-sym : (s t : Sort) → same_sort s t ≡ same_sort t s
sort-sym sorts.Queue sorts.Queue = refl
sort-sym sorts.Queue sorts.Exchange = refl
sort-sym sorts.Exchange sorts.Queue = refl
sort-sym sorts.Exchange sorts.Exchange = refl

each-there : (objects : List Object) → All (λ o. has (sort_of o.node) o.name objects ≡ true) objects
each-there [] = All-nil (λ (o : Object). has (sort_of o.node) o.name [] ≡ true)
each-there (o ∷ objects) =
    All-cons (λ (x : Object). has (sort_of x.node) x.name (o ∷ objects) ≡ true) o objects
    (or_left (is_named (sort_of o.node) o.name o) (has (sort_of o.node) o.name objects) (and_from (same_sort (sort_of o.node) (sort_of o.node)) (bytes_eq o.name o.name) (sort_self (sort_of o.node)) (same_text-refl o.name)))
    (All-weaker (λ (x : Object). has (sort_of x.node) x.name objects ≡ true) (λ x. has (sort_of x.node) x.name (o ∷ objects) ≡ true) (λ x h. or_right (is_named (sort_of x.node) x.name o) (has (sort_of x.node) x.name objects) h) objects (each-there objects))

queue-there : (s : Sort) (name : List ℕ) (objects : List Object) → same_sort s sorts.Queue ≡ true → has s name objects ≡ true → has sorts.Queue name objects ≡ true
queue-there sorts.Queue name objects e h = h
queue-there sorts.Exchange name objects e h = absurd (false≢true e)

-- the queues that a message reaches are objects
routed-there : (r : Routing) (p : Publish) → All (λ name. has sorts.Queue name r.objects ≡ true) (map (λ o. o.name) (routed r p))
unfolding routed
routed-there r p =
    All-map (λ name. has sorts.Queue name r.objects ≡ true) (λ (o : Object). o.name) (filter (is_routed r p) r.objects)
    (filter-with (λ (o : Object). has (sort_of o.node) o.name r.objects ≡ true) (λ o. has sorts.Queue o.name r.objects ≡ true) (is_routed r p)
    (λ o h on. queue-there (sort_of o.node) o.name r.objects (and_parts (same_sort (sort_of o.node) sorts.Queue) (is_reached r p o.name) on).0 h) r.objects (each-there r.objects))

some-options : (o : Option (Standing Message)) → is_some (option_map (λ s. s.options) o) ≡ is_some o
some-options None = refl
some-options (Some s) = refl

-- a queue that the router knows stands
known-stands : (J : List Entry) (p : Place) (v : VhostState) (name : List ℕ) → IsConfigured J p v → has sorts.Queue name (site J p).routing.objects ≡ true → is_some (queue_options J p name) ≡ true
known-stands J p v name h there =
    ap is_some (sym (h.options name))
    ∙ some-options (queue_of name v.queues)
    ∙ sym (h.routed.queue_names name)
    ∙ ap (λ (r : Routing). has sorts.Queue name r.objects) h.routing
    ∙ there

-- a message reaches queues that stand (AMQP 0-9-1, 3.1.3)
pub routes-stand : (J : List Entry) (p : Place) (v : VhostState) (m : Message) → IsConfigured J p v → All (λ q. is_some (queue_options J p q) ≡ true) (routes J p m)
unfolding routes
routes-stand J p v m h =
    All-weaker (λ name. has sorts.Queue name (site J p).routing.objects ≡ true) (λ q. is_some (queue_options J p q) ≡ true) (λ name there. known-stands J p v name h there) (map (λ o. o.name) (routed (site J p).routing (publish m.exchange m.key (headers_of m)))) (routed-there (site J p).routing (publish m.exchange m.key (headers_of m)))

-- ---- each stands once

-- no two objects of a sort have the same name
abbrev pub AreApart : List Object → Type 0
AreApart [] = Unit {0}
AreApart (o ∷ objects) = (has (sort_of o.node) o.name objects ≡ false) × AreApart objects

named-sym : (one other : Object) → is_named (sort_of one.node) one.name other ≡ is_named (sort_of other.node) other.name one
named-sym one other =
    ap (λ b. b && bytes_eq other.name one.name) (sort-sym (sort_of other.node) (sort_of one.node)) ∙ ap (λ b. same_sort (sort_of one.node) (sort_of other.node) && b) (same_text-sym other.name one.name)

apart-push : (objects : List Object) (new : Object) → AreApart objects → has (sort_of new.node) new.name objects ≡ false → AreApart (objects ++ new ∷ [])
apart-push [] new h off = (refl, tt)
apart-push (o ∷ objects) new h off =
    let parts : (is_named (sort_of new.node) new.name o ≡ false) × (has (sort_of new.node) new.name objects ≡ false) = or_parts (is_named (sort_of new.node) new.name o) (has (sort_of new.node) new.name objects) off in
    (none-push (is_named (sort_of o.node) o.name) objects new h.0 (named-sym o new ∙ parts.0), apart-push objects new h.1 parts.1)

apart-filter : (keep : Object → Bool) (objects : List Object) → AreApart objects → AreApart (filter keep objects)
apart-filter keep [] h = tt
apart-filter keep (o ∷ objects) h =
    elim (keep o) as (λ b. AreApart (cond b (o ∷ filter keep objects) (filter keep objects))) [
      | true ↦ (none-filter (is_named (sort_of o.node) o.name) keep objects h.0, apart-filter keep objects h.1)
      | false ↦ apart-filter keep objects h.1
    ]

made-apart : (name : List ℕ) (node : Node) (r : Routing) → AreApart r.objects → AreApart (made name node r).objects
made-apart name node r h =
    elim (stands (sort_of node) name r) as (λ b. stands (sort_of node) name r ≡ b → AreApart (if b then r else with_object name node r).objects) [
      | true ↦ (λ _. h)
      | false ↦ (λ off. apart-push r.objects (object_named name node) h (or_parts (is_default (sort_of node) name) (has (sort_of node) name r.objects) off).1)
    ] refl

gone-apart : (queue : List ℕ) (r : Routing) → AreApart r.objects → AreApart (gone queue r).objects
gone-apart queue r h =
    elim (has sorts.Queue queue r.objects) as (λ b. AreApart (if b then without_object sorts.Queue queue r else r).objects) [
      | true ↦ apart-filter (λ o. not (is_named sorts.Queue queue o)) r.objects h
      | false ↦ h
    ]

bound-apart : (b : Binding) (r : Routing) → AreApart r.objects → AreApart (bound b r).objects
bound-apart b r h = elim (has_ends b r && not (has_binding b r.bindings)) as (λ v. AreApart (if v then with_binding b r else r).objects) [ true ↦ h | false ↦ h ]

unbound-apart : (b : Binding) (r : Routing) → AreApart r.objects → AreApart (unbound b r).objects
unbound-apart b r h = elim (has_binding b r.bindings) as (λ v. AreApart (if v then without_binding b r else r).objects) [ true ↦ h | false ↦ h ]

site_at-apart : (s : Site) (e : Entry) → AreApart s.routing.objects → AreApart (site_at s e).routing.objects
site_at-apart s (MadeQueue place queue options owner) h = made-apart queue (nodes.Queue s.queues) s.routing h
site_at-apart s (MadeExchange place exchange shape) h = made-apart exchange (nodes.Exchange shape.kind) s.routing h
site_at-apart s (GoneQueue place queue) h = gone-apart queue s.routing h
site_at-apart s (Bound place binding) h = bound-apart binding s.routing h
site_at-apart s (Unbound place binding) h = unbound-apart binding s.routing h
site_at-apart s _ h = h

fold-apart : (p : Place) (s : Site) (J : List Entry) → AreApart s.routing.objects → AreApart (fold (site_step p) s J).routing.objects
fold-apart p s [] h = h
fold-apart p s (e ∷ J) h =
    fold-apart p (site_step p s e) J (elim (is_at p e) as (λ b. AreApart (if b then site_at s e else s).routing.objects) [ true ↦ site_at-apart s e h | false ↦ h ])

first-apart : AreApart predeclared
first-apart = (refl, (refl, (refl, (refl, (refl, tt)))))

pub site-apart : (J : List Entry) (p : Place) → AreApart (site J p).routing.objects
unfolding site
site-apart J p = fold-apart p first_site J first-apart

-- ---- their names

off-by : (s q r : Bool) → (s && q) ≡ false → (s && r) ≡ true → q ≡ false
off-by true q r h on = h
off-by false q r h on = absurd (false≢true on)

named-once : (r : Routing) (p : Publish) (name : List ℕ) (objects : List Object) → has sorts.Queue name objects ≡ false → list_any (same_text name) (map (λ o. o.name) (filter (is_routed r p) objects)) ≡ false
named-once r p name [] h = refl
named-once r p name (o ∷ objects) h =
    let parts : (is_named sorts.Queue name o ≡ false) × (has sorts.Queue name objects ≡ false) = or_parts (is_named sorts.Queue name o) (has sorts.Queue name objects) h in
    elim (is_routed r p o) as (λ b. is_routed r p o ≡ b → list_any (same_text name) (map (λ (x : Object). x.name) (cond b (o ∷ filter (is_routed r p) objects) (filter (is_routed r p) objects))) ≡ false) [
      | true ↦ (λ on. or_from (same_text name o.name) (list_any (same_text name) (map (λ (x : Object). x.name) (filter (is_routed r p) objects)))
          (same_text-sym name o.name ∙ off-by (same_sort (sort_of o.node) sorts.Queue) (bytes_eq o.name name) (is_reached r p o.name) parts.0 on) (named-once r p name objects parts.1))
      | false ↦ (λ _. named-once r p name objects parts.1)
    ] refl

queue-apart : (s : Sort) (name : List ℕ) (objects : List Object) → same_sort s sorts.Queue ≡ true → has s name objects ≡ false → has sorts.Queue name objects ≡ false
queue-apart sorts.Queue name objects e h = h
queue-apart sorts.Exchange name objects e h = absurd (false≢true e)

names-distinct : (r : Routing) (p : Publish) (objects : List Object) → AreApart objects → AreDistinct (map (λ o. o.name) (filter (is_routed r p) objects))
names-distinct r p [] h = tt
names-distinct r p (o ∷ objects) h =
    elim (is_routed r p o) as (λ b. is_routed r p o ≡ b → AreDistinct (map (λ (x : Object). x.name) (cond b (o ∷ filter (is_routed r p) objects) (filter (is_routed r p) objects)))) [
      | true ↦ (λ on. (named-once r p o.name objects (queue-apart (sort_of o.node) o.name objects (and_parts (same_sort (sort_of o.node) sorts.Queue) (is_reached r p o.name) on).0 h.0), names-distinct r p objects h.1))
      | false ↦ (λ _. names-distinct r p objects h.1)
    ] refl

-- a message reaches each queue once (AMQP 0-9-1, 3.1.3)
pub routes-distinct : (J : List Entry) (p : Place) (m : Message) → AreDistinct (routes J p m)
unfolding routes routed
routes-distinct J p m = names-distinct (site J p).routing (publish m.exchange m.key (headers_of m)) (site J p).routing.objects (site-apart J p)
