-- What a place's router knows.
use Rattle.std.proofs.Common.{◌≡◌, ℕ, List, [], ◌∷◌, ◌++◌, Bool, true, false, cond, not, Option, Some, None, is_some, refl, sym, ap, ◌∙◌}
use Rattle.std.specs.Prelude.{All, filter, fold, if◌then◌else◌, ◌&&◌}
use Rattle.std.specs.List.{list_any}
use Rattle.std.specs.Map.{lookup}
use Rattle.std.specs.Str.{bytes_eq}
use Rattle.std.proofs.lemmas.Bool.{true≢false, false≢true, and_parts, or_parts, or_left, not-true}
use Rattle.std.proofs.lemmas.List.Elements.{All-nil, All-cons, All-head, All-tail, All-push, All-weaker, All-filter}
use Rattle.std.proofs.lemmas.List.Folds.{list_any-append}
use Rattle.std.proofs.lemmas.Map.Entries.{lookup-filter-keys}
use Rattle.std.proofs.lemmas.Map.Views.{any-filter_same}
use Rattle.route_core.specs.declared.binding.Binding.{Binding}
use Rattle.route_core.specs.declared.object.Node.{Node}
use Rattle.route_core.specs.declared.object.Node.TheVariants as nodes
use Rattle.route_core.specs.declared.object.Object.{Object}
use Rattle.route_core.specs.declared.object.Sort.{Sort}
use Rattle.route_core.specs.declared.object.Sort.TheVariants as sorts
use Rattle.route_core.specs.Bindings.{has_binding, is_same, ends_with}
use Rattle.route_core.specs.Objects.{same_sort, sort_of, is_named, has, number_of, rises}
use Rattle.route_core.specs.Routing.{Routing, stands, with_object, without_object, with_binding, without_binding, object_named, bound, unbound, has_ends}
use Rattle.fed_journal.specs.declared.place.Place.{Place}
use Rattle.fed_journal.specs.declared.entry.Entry.{Entry}
use Rattle.fed_journal.specs.declared.entry.Entry.TheVariants.{MadeQueue, MadeExchange, GoneQueue, Bound, Unbound}
use Rattle.fed_journal.specs.Routes.{Site, first_site, site, site_at, site_step, is_at, made, gone}
use Rattle.amqp_props.specs.declared.message.Message.{Message}
use Rattle.broker_store.specs.Exchanges.{NamedShape}
use Rattle.broker_store.specs.Queues.{Named, queue_of}
use Rattle.mini_broker.specs.State.{AreRouted}
use Rattle.broker_view.proofs.Names.{same_text-true}

-- ---- lists

-- each of those that stay has what each has, and passes the test
pub filter-with : {X : Type 0} (P Q : X → Type 0) (test : X → Bool) → ((x : X) → P x → test x ≡ true → Q x) → (xs : List X) → All P xs → All Q (filter test xs)
filter-with P Q test step [] h = All-nil Q
filter-with P Q test step (x ∷ xs) h =
    let rest : All Q (filter test xs) = filter-with P Q test step xs (All-tail P x xs h) in
    elim (test x) as (λ b. test x ≡ b → All Q (cond b (x ∷ filter test xs) (filter test xs))) [
      | true ↦ (λ on. All-cons Q x (filter test xs) (step x (All-head P x xs h) on) rest)
      | false ↦ (λ _. rest)
    ] refl

-- none goes
filter-all : {X : Type 0} (test : X → Bool) (xs : List X) → All (λ x. test x ≡ true) xs → filter test xs ≡ xs
filter-all test [] h = refl
filter-all test (x ∷ xs) h =
    ap (λ b. cond b (x ∷ filter test xs) (filter test xs)) (All-head (λ y. test y ≡ true) x xs h)
    ∙ ap (λ ys. x ∷ ys) (filter-all test xs (All-tail (λ y. test y ≡ true) x xs h))

none-pass : {X : Type 0} (test : X → Bool) (xs : List X) → list_any test xs ≡ false → All (λ x. not (test x) ≡ true) xs
none-pass test [] h = All-nil (λ x. not (test x) ≡ true)
none-pass test (x ∷ xs) h =
    let parts : (test x ≡ false) × (list_any test xs ≡ false) = or_parts (test x) (list_any test xs) h in
    All-cons (λ y. not (test y) ≡ true) x xs (ap not parts.0) (none-pass test xs parts.1)

-- ---- ends of bindings

-- what a binding leads to stands
abbrev pub HaveEnds : Routing → Type 0
HaveEnds r = All (λ (b : Binding). has b.sort b.dest r.objects ≡ true) r.bindings

made-ends : (name : List ℕ) (node : Node) (r : Routing) → HaveEnds r → HaveEnds (made name node r)
made-ends name node r h =
    elim (stands (sort_of node) name r) as (λ v. HaveEnds (if v then r else with_object name node r)) [
      | true ↦ h
      | false ↦ All-weaker (λ (b : Binding). has b.sort b.dest r.objects ≡ true) (λ (b : Binding). has b.sort b.dest (r.objects ++ object_named name node ∷ []) ≡ true)
          (λ b k. list_any-append (is_named b.sort b.dest) r.objects (object_named name node ∷ []) ∙ or_left (has b.sort b.dest r.objects) (has b.sort b.dest (object_named name node ∷ [])) k) r.bindings h
    ]

-- an object that a binding leads to isn't the queue, where the binding doesn't end with it
apart : (s t : Sort) (name dest queue : List ℕ) → (same_sort t sorts.Queue && bytes_eq dest queue) ≡ false → (same_sort s t && bytes_eq name dest) ≡ true → not (same_sort s sorts.Queue && bytes_eq name queue) ≡ true
apart sorts.Exchange t name dest queue h k = refl
apart sorts.Queue sorts.Exchange name dest queue h k = absurd (false≢true k)
apart sorts.Queue sorts.Queue name dest queue h k = ap (λ n. not (bytes_eq n queue)) (same_text-true name dest k) ∙ ap not h

gone-ends : (queue : List ℕ) (r : Routing) → HaveEnds r → HaveEnds (gone queue r)
gone-ends queue r h =
    elim (has sorts.Queue queue r.objects) as (λ v. HaveEnds (if v then without_object sorts.Queue queue r else r)) [
      | true ↦ filter-with (λ (b : Binding). has b.sort b.dest r.objects ≡ true) (λ (b : Binding). has b.sort b.dest (filter (λ (o : Object). not (is_named sorts.Queue queue o)) r.objects) ≡ true) (λ (b : Binding). not (ends_with sorts.Queue queue b))
          (λ b k on. any-filter_same (is_named b.sort b.dest) (λ (o : Object). not (is_named sorts.Queue queue o)) true (λ o is. apart (sort_of o.node) b.sort o.name b.dest queue (not-true (same_sort b.sort sorts.Queue && bytes_eq b.dest queue) on) is) r.objects ∙ k) r.bindings h
      | false ↦ h
    ]

bound-ends : (b : Binding) (r : Routing) → HaveEnds r → HaveEnds (bound b r)
bound-ends b r h =
    elim (has_ends b r && not (has_binding b r.bindings)) as (λ v. (has_ends b r && not (has_binding b r.bindings)) ≡ v → HaveEnds (if v then with_binding b r else r)) [
      | true ↦ (λ e.
          let ends : has_ends b r ≡ true = (and_parts (has_ends b r) (not (has_binding b r.bindings)) e).0 in
          All-push (λ (x : Binding). has x.sort x.dest r.objects ≡ true) r.bindings b h (and_parts (has sorts.Exchange b.source r.objects) (has b.sort b.dest r.objects) ends).1)
      | false ↦ (λ _. h)
    ] refl

unbound-ends : (b : Binding) (r : Routing) → HaveEnds r → HaveEnds (unbound b r)
unbound-ends b r h =
    elim (has_binding b r.bindings) as (λ v. HaveEnds (if v then without_binding b r else r)) [
      | true ↦ All-filter (λ (other : Binding). not (is_same b other)) (λ (x : Binding). has x.sort x.dest r.objects ≡ true) r.bindings h
      | false ↦ h
    ]

site_at-ends : (s : Site) (e : Entry) → HaveEnds s.routing → HaveEnds (site_at s e).routing
site_at-ends s (MadeQueue place queue options owner) h = made-ends queue (nodes.Queue s.queues) s.routing h
site_at-ends s (MadeExchange place exchange shape) h = made-ends exchange (nodes.Exchange shape.kind) s.routing h
site_at-ends s (GoneQueue place queue) h = gone-ends queue s.routing h
site_at-ends s (Bound place binding) h = bound-ends binding s.routing h
site_at-ends s (Unbound place binding) h = unbound-ends binding s.routing h
site_at-ends s _ h = h

fold-ends : (p : Place) (s : Site) (J : List Entry) → HaveEnds s.routing → HaveEnds (fold (site_step p) s J).routing
fold-ends p s [] h = h
fold-ends p s (e ∷ J) h =
    fold-ends p (site_step p s e) J (elim (is_at p e) as (λ b. HaveEnds (if b then site_at s e else s).routing) [ true ↦ site_at-ends s e h | false ↦ h ])

-- what the bindings of a place lead to stands there (AMQP 0-9-1, queue.bind)
pub site-ends : (J : List Entry) (p : Place) → HaveEnds (site J p).routing
unfolding site
site-ends J p = fold-ends p first_site J (All-nil (λ (b : Binding). has b.sort b.dest first_site.routing.objects ≡ true))

leads-not : (queue : List ℕ) (objects : List Object) (t : Sort) (dest : List ℕ) (b : Bool) → (same_sort t sorts.Queue && bytes_eq dest queue) ≡ b → has sorts.Queue queue objects ≡ false → has t dest objects ≡ true → not b ≡ true
leads-not queue objects t dest false e off on = refl
leads-not queue objects sorts.Exchange dest true e off on = absurd (false≢true e)
leads-not queue objects sorts.Queue dest true e off on =
    absurd (true≢false (sym on ∙ ap (λ n. has sorts.Queue n objects) (same_text-true dest queue e) ∙ off))

-- a queue that isn't there takes nothing with it
pub without-absent : (queue : List ℕ) (r : Routing) → HaveEnds r → has sorts.Queue queue r.objects ≡ false → without_object sorts.Queue queue r ≡ r
without-absent queue r h off =
    let objects : filter (λ (o : Object). not (is_named sorts.Queue queue o)) r.objects ≡ r.objects = filter-all (λ (o : Object). not (is_named sorts.Queue queue o)) r.objects (none-pass (is_named sorts.Queue queue) r.objects off) in
    let bindings : filter (λ (b : Binding). not (ends_with sorts.Queue queue b)) r.bindings ≡ r.bindings =
    filter-all (λ (b : Binding). not (ends_with sorts.Queue queue b)) r.bindings (All-weaker (λ (b : Binding). has b.sort b.dest r.objects ≡ true) (λ (b : Binding). not (ends_with sorts.Queue queue b) ≡ true)
    (λ b k. leads-not queue r.objects b.sort b.dest (same_sort b.sort sorts.Queue && bytes_eq b.dest queue) refl off k) r.bindings h) in
    λ i. record { objects = objects i; bindings = bindings i }

-- ---- a queue is gone

named-same : (s : Sort) (n other name : List ℕ) → (same_sort s sorts.Queue && bytes_eq n other) ≡ true → not (same_sort s sorts.Queue && bytes_eq n name) ≡ not (bytes_eq other name)
named-same sorts.Queue n other name h = ap (λ k. not (bytes_eq k name)) (same_text-true n other h)
named-same sorts.Exchange n other name h = absurd (false≢true h)

exchange-stays : (s : Sort) (n other name : List ℕ) → (same_sort s sorts.Exchange && bytes_eq n other) ≡ true → not (same_sort s sorts.Queue && bytes_eq n name) ≡ true
exchange-stays sorts.Queue n other name h = absurd (false≢true h)
exchange-stays sorts.Exchange n other name h = refl

both-by : {A : Type 0} (b x : Bool) (o : Option A) → x ≡ is_some o → (b && x) ≡ is_some (cond b o None)
both-by true x o h = h
both-by false x o h = refl

-- what is found once the queue of that name is gone
pub lookup-without : {V : Type 0} (other name : List ℕ) (es : List (List ℕ × V)) → lookup (bytes_eq other) (filter (λ e. not (bytes_eq e.0 name)) es) ≡ cond (not (bytes_eq other name)) (lookup (bytes_eq other) es) None
lookup-without other name es =
    lookup-filter-keys (bytes_eq other) (λ k. not (bytes_eq k name)) (not (bytes_eq other name)) (λ k on. ap (λ n. not (bytes_eq n name)) (sym (same_text-true other k on))) es

pub routed-gone : (r : Routing) (queues : List (Named Message)) (exchanges : List NamedShape) (number : ℕ) (name : List ℕ) → AreRouted r queues exchanges number → AreRouted (without_object sorts.Queue name r) (filter (λ q. not (bytes_eq q.0 name)) queues) exchanges number
routed-gone r queues exchanges number name h = record {
  queue_names = λ other.
      any-filter_same (is_named sorts.Queue other) (λ (o : Object). not (is_named sorts.Queue name o)) (not (bytes_eq other name)) (λ o is. named-same (sort_of o.node) o.name other name is) r.objects
      ∙ both-by (not (bytes_eq other name)) (has sorts.Queue other r.objects) (queue_of other queues) (h.queue_names other)
      ∙ ap is_some (sym (lookup-without other name queues));
  exchange_names = λ other.
      any-filter_same (is_named sorts.Exchange other) (λ (o : Object). not (is_named sorts.Queue name o)) true (λ o is. exchange-stays (sort_of o.node) o.name other name is) r.objects
      ∙ h.exchange_names other;
  numbers = All-filter (λ (o : Object). not (is_named sorts.Queue name o)) (λ (o : Object). rises (number_of o.node) (Some number) ≡ true) r.objects h.numbers;
}
