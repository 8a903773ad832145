-- What stands in a virtual host follows the journal.
use Rattle.std.proofs.Common.{◌≡◌, ℕ, ◌+◌, List, [], ◌∷◌, ◌++◌, Bool, true, false, cond, not, Option, Some, None, refl, sym, ap, subst, ◌∙◌, map}
use Rattle.std.specs.Prelude.{All, filter, if◌then◌else◌, ◌&&◌}
use Rattle.std.specs.Option.{option_map, option_and_then, option_or}
use Rattle.std.specs.Str.{bytes_eq}
use Rattle.std.proofs.lemmas.List.Sums.{fold-append}
use Rattle.amqp_props.specs.declared.link.QueueOptions.{QueueOptions}
use Rattle.route_core.specs.declared.binding.Binding.{Binding}
use Rattle.route_core.specs.declared.object.Node.{Node}
use Rattle.route_core.specs.declared.object.Node.TheVariants as nodes
use Rattle.route_core.specs.declared.object.Sort.TheVariants as sorts
use Rattle.route_core.specs.Bindings.{has_binding}
use Rattle.route_core.specs.declared.object.Object.{Object}
use Rattle.route_core.specs.Objects.{sort_of, has, number_of, rises}
use Rattle.route_core.specs.Routing.{Routing, stands, with_object, without_object, with_binding, without_binding, bound, unbound, has_ends}
use Rattle.fed_journal.specs.declared.place.Place.{Place}
use Rattle.client_rules.specs.declared.client.Client.{Client}
use Rattle.client_rules.specs.declared.client.ExchangeShape.{ExchangeShape}
use Rattle.fed_journal.specs.declared.entry.Entry.{Entry}
use Rattle.fed_journal.specs.declared.entry.Entry.TheVariants.{MadeQueue, MadeExchange, GoneQueue, Bound, Unbound, Published, Flushed, Took, Settled, Consumed, Cancelled, Delivered, Acked, Rejected, Requeued, Purged, Closed}
use Rattle.fed_journal.specs.Names.{same_text, same_place}
use Rattle.route_core.specs.Predeclared.{predeclared_shape}
use Rattle.fed_journal.specs.Configuration.{queue_options, options_step, queue_owner, owner_step, queues_of, queues_step, exchange_shape, shape_step}
use Rattle.fed_journal.specs.Routes.{Site, site, site_of, site_step, first_site, made, gone}
use Rattle.amqp_props.specs.declared.message.Message.{Message}
use Rattle.broker_store.specs.declared.consumer.Consumer.{Consumer}
use Rattle.broker_store.specs.declared.mailbox.Sweep.TheVariants as sweeps
use Rattle.broker_store.specs.Mail.{swept, purged, handed, left, released, given}
use Rattle.broker_store.specs.Queues.{Standing, Named, queue_of, changed, all_changed, with_mail, all_entered}
use Rattle.broker_store.specs.Exchanges.{NamedShape, shape_of, declared_shape}
use Rattle.mini_broker.specs.State.{VhostState, AreRouted}
use Rattle.mini_broker.specs.Declare.{with_queue, with_exchange, made_queue}
use Rattle.mini_broker.specs.Bind.{with_routing}
use Rattle.broker_store.specs.Consumers.{registered}
use Rattle.mini_broker.specs.Consume.{new_consumer, without_consumer}
use Rattle.mini_broker.specs.Deliver.{handed_over}
use Rattle.mini_broker.specs.Close.{without_queue, freed_from, disconnected}
use Rattle.mini_broker.specs.Record.{holder_as}
use Rattle.mini_broker.proofs.RoutedLemmas.{routed_queue, routed_exchange, free_queue, free_exchange, not_declared}
use Rattle.broker_view.specs.View.{IsConfigured, AreDistinct}
use Rattle.broker_view.specs.Suits.{Suits}
use Rattle.broker_view.specs.Recorded.{recorded, session_holder}
use Rattle.broker_view.proofs.Names.{same_text-true, same_text-sym, same_place-true}
use Rattle.broker_view.proofs.Tables.{map-push, lookup-other, lookup-new, none-from, names-filter, distinct-push, distinct-filter, absent-any, plain, same-names, same-options, same-owner, same-some, plain-changed, plain-all, plain-entered, plain-freed}
use Rattle.broker_view.proofs.Sites.{HaveEnds, site-ends, without-absent, lookup-without, routed-gone}

-- ---- one more entry

pub options-push : (J : List Entry) (e : Entry) (p : Place) (q : List ℕ) → queue_options (J ++ e ∷ []) p q ≡ options_step p q (queue_options J p q) e
unfolding queue_options
options-push J e p q = fold-append (options_step p q) None J (e ∷ [])

pub owner-push : (J : List Entry) (e : Entry) (p : Place) (q : List ℕ) → queue_owner (J ++ e ∷ []) p q ≡ owner_step p q (queue_owner J p q) e
unfolding queue_owner
owner-push J e p q = fold-append (owner_step p q) None J (e ∷ [])

pub queues-push : (J : List Entry) (e : Entry) (p : Place) → queues_of (J ++ e ∷ []) p ≡ queues_step p (queues_of J p) e
unfolding queues_of
queues-push J e p = fold-append (queues_step p) [] J (e ∷ [])

pub shape-push : (J : List Entry) (e : Entry) (p : Place) (x : List ℕ) → exchange_shape (J ++ e ∷ []) p x ≡ shape_step p x (exchange_shape J p x) e
unfolding exchange_shape
shape-push J e p x = fold-append (shape_step p x) (predeclared_shape x) J (e ∷ [])

pub site-push : (J : List Entry) (e : Entry) (p : Place) → site (J ++ e ∷ []) p ≡ site_step p (site J p) e
unfolding site
site-push J e p = fold-append (site_step p) first_site J (e ∷ [])

-- ---- what stands, whatever the journal

-- what a journal says of a place
record Known : Type 0 where
  options : List ℕ → Option QueueOptions
  owner : List ℕ → Option ℕ
  names : List (List ℕ)
  shape : List ℕ → Option ExchangeShape
  site : Site

record Stands (v : VhostState) (k : Known) : Type 0 where
  has_options : (q : List ℕ) → option_map (λ (x : Standing Message). x.options) (queue_of q v.queues) ≡ k.options q
  has_owner : (q : List ℕ) → option_and_then (λ (x : Standing Message). x.owner) (queue_of q v.queues) ≡ k.owner q
  has_names : map (λ q. q.0) v.queues ≡ k.names
  distinct : AreDistinct (map (λ q. q.0) v.queues)
  has_shape : (x : List ℕ) → shape_of x v.exchanges ≡ k.shape x
  routing : v.routing ≡ k.site.routing
  made : v.made ≡ k.site.queues
  routed : AreRouted v.routing v.queues v.exchanges v.made

abbrev known : List Entry → Place → Known
known J p = record { options = queue_options J p; owner = queue_owner J p; names = queues_of J p; shape = exchange_shape J p; site = site J p }

abbrev known_after : List Entry → Place → Entry → Known
known_after J p e = record {
  options = λ q. options_step p q (queue_options J p q) e;
  owner = λ q. owner_step p q (queue_owner J p q) e;
  names = queues_step p (queues_of J p) e;
  shape = λ x. shape_step p x (exchange_shape J p x) e;
  site = site_step p (site J p) e;
}

before : (J : List Entry) (p : Place) (v : VhostState) → IsConfigured J p v → Stands v (known J p)
before J p v h = record {
  has_options = h.options;
  has_owner = h.owners;
  has_names = h.names;
  distinct = h.distinct;
  has_shape = h.shapes;
  routing = h.routing;
  made = h.made;
  routed = h.routed;
}

after : (J : List Entry) (p : Place) (e : Entry) (v : VhostState) → Stands v (known_after J p e) → IsConfigured (J ++ e ∷ []) p v
after J p e v h = record {
  options = λ q. h.has_options q ∙ sym (options-push J e p q);
  owners = λ q. h.has_owner q ∙ sym (owner-push J e p q);
  names = h.has_names ∙ sym (queues-push J e p);
  distinct = h.distinct;
  shapes = λ x. h.has_shape x ∙ sym (shape-push J e p x);
  routing = h.routing ∙ ap (λ (s : Site). s.routing) (sym (site-push J e p));
  made = h.made ∙ ap (λ (s : Site). s.queues) (sym (site-push J e p));
  routed = h.routed;
}

-- ---- what changes copies and consumers alone

abbrev state : VhostState → List (Named Message) → List Client → List Consumer → ℕ → VhostState
state v queues clients consumers begun =
    record { routing = v.routing; queues = queues; exchanges = v.exchanges; clients = clients; consumers = consumers; made = v.made; begun = begun }

change-at : (b : Bool) (v : VhostState) (k : Known) (queues : List (Named Message)) (clients : List Client) (consumers : List Consumer) (begun : ℕ) → plain queues ≡ plain v.queues → Stands v k → Stands (if b then state v queues clients consumers begun else v) k
change-at false v k queues clients consumers begun same h = h
change-at true v k queues clients consumers begun same h = record {
  has_options = λ q. same-options v.queues queues same q ∙ h.has_options q;
  has_owner = λ q. same-owner v.queues queues same q ∙ h.has_owner q;
  has_names = same-names v.queues queues same ∙ h.has_names;
  distinct = subst AreDistinct (sym (same-names v.queues queues same)) h.distinct;
  has_shape = h.has_shape;
  routing = h.routing;
  made = h.made;
  routed = record {
    queue_names = λ other. h.routed.queue_names other ∙ sym (same-some v.queues queues same other);
    exchange_names = h.routed.exchange_names;
    numbers = h.routed.numbers;
  };
}

-- ---- a queue or an exchange is made

-- what doesn't stand yet is made
made-free : (name : List ℕ) (node : Node) (r s : Routing) → r ≡ s → stands (sort_of node) name r ≡ false → with_object name node r ≡ made name node s
made-free name node r s same free = sym (ap (λ b. if b then r else with_object name node r) free) ∙ ap (made name node) same

abbrev with_made : Bool → List ℕ → QueueOptions → Option ℕ → Known → Known
with_made b queue options owner k = record {
  options = λ q. if b && same_text queue q then Some options else k.options q;
  owner = λ q. if b && same_text queue q then owner else k.owner q;
  names = if b then k.names ++ queue ∷ [] else k.names;
  shape = k.shape;
  site = if b then site_of (made queue (nodes.Queue k.site.queues) k.site.routing) (k.site.queues + 1) else k.site;
}

-- what is found under a name once a queue is made
found-by : {A : Type 0} (f : Option (Standing Message) → Option A) (queues : List (Named Message)) (queue q : List ℕ) (new : Standing Message) (was : Option A) (c : Bool) → same_text queue q ≡ c → queue_of queue queues ≡ None → f (queue_of q queues) ≡ was → f (queue_of q (queues ++ (queue, new) ∷ [])) ≡ (if c then f (Some new) else was)
found-by f queues queue q new was true on none h =
    ap f (lookup-new q queues queue new (same_text-sym q queue ∙ on) (subst (λ n. queue_of n queues ≡ None) (same_text-true queue q on) none))
found-by f queues queue q new was false off none h = ap f (lookup-other q queues queue new (same_text-sym q queue ∙ off)) ∙ h

made-at : (b : Bool) (v : VhostState) (k : Known) (queue : List ℕ) (options : QueueOptions) (owner : Option ℕ) → Stands v k → (b ≡ true → k.options queue ≡ None) → Stands (if b then with_queue queue options owner v else v) (with_made b queue options owner k)
made-at false v k queue options owner h free = h
made-at true v k queue options owner h free =
    let new : Standing Message = made_queue v.made options owner in
    let none : queue_of queue v.queues ≡ None = none-from (λ (x : Standing Message). x.options) (queue_of queue v.queues) (h.has_options queue ∙ free refl) in
    record {
      has_options = λ q. found-by (option_map (λ (x : Standing Message). x.options)) v.queues queue q new (k.options q) (same_text queue q) refl none (h.has_options q);
      has_owner = λ q. found-by (option_and_then (λ (x : Standing Message). x.owner)) v.queues queue q new (k.owner q) (same_text queue q) refl none (h.has_owner q);
      has_names = map-push (λ (q : Named Message). q.0) v.queues (queue, new) ∙ ap (λ ns. ns ++ queue ∷ []) h.has_names;
      distinct = subst AreDistinct (sym (map-push (λ (q : Named Message). q.0) v.queues (queue, new))) (distinct-push (map (λ q. q.0) v.queues) queue h.distinct (absent-any queue v.queues none));
      has_shape = h.has_shape;
      routing = made-free queue (nodes.Queue v.made) v.routing k.site.routing h.routing (free_queue v.routing v.queues v.exchanges v.made queue h.routed none) ∙ ap (λ n. made queue (nodes.Queue n) k.site.routing) h.made;
      made = ap (λ n. n + 1) h.made;
      routed = routed_queue v.routing v.queues v.exchanges v.made queue new h.routed;
    }

abbrev with_shape : Bool → List ℕ → ExchangeShape → Known → Known
with_shape b exchange shape k = record {
  options = k.options;
  owner = k.owner;
  names = k.names;
  shape = λ x. if b && same_text exchange x then Some shape else k.shape x;
  site = if b then site_of (made exchange (nodes.Exchange shape.kind) k.site.routing) k.site.queues else k.site;
}

shape-by : (exchanges : List NamedShape) (exchange x : List ℕ) (shape : ExchangeShape) (was : Option ExchangeShape) (c : Bool) → same_text exchange x ≡ c → declared_shape exchange exchanges ≡ None → shape_of x exchanges ≡ was → shape_of x (exchanges ++ (exchange, shape) ∷ []) ≡ (if c then Some shape else was)
shape-by exchanges exchange x shape was true on none h =
    ap (λ o. option_or o (predeclared_shape x)) (lookup-new x exchanges exchange shape (same_text-sym x exchange ∙ on) (subst (λ n. declared_shape n exchanges ≡ None) (same_text-true exchange x on) none))
shape-by exchanges exchange x shape was false off none h =
    ap (λ o. option_or o (predeclared_shape x)) (lookup-other x exchanges exchange shape (same_text-sym x exchange ∙ off)) ∙ h

exchange-at : (b : Bool) (v : VhostState) (k : Known) (exchange : List ℕ) (shape : ExchangeShape) → Stands v k → (b ≡ true → k.shape exchange ≡ None) → bytes_eq exchange [] ≡ false → Stands (if b then with_exchange exchange shape v else v) (with_shape b exchange shape k)
exchange-at false v k exchange shape h free named = h
exchange-at true v k exchange shape h free named =
    let none : shape_of exchange v.exchanges ≡ None = h.has_shape exchange ∙ free refl in
    record {
      has_options = h.has_options;
      has_owner = h.has_owner;
      has_names = h.has_names;
      distinct = h.distinct;
      has_shape = λ x. shape-by v.exchanges exchange x shape (k.shape x) (same_text exchange x) refl (not_declared exchange v.exchanges none) (h.has_shape x);
      routing = made-free exchange (nodes.Exchange shape.kind) v.routing k.site.routing h.routing (free_exchange v.routing v.queues v.exchanges v.made exchange h.routed none named);
      made = h.made;
      routed = routed_exchange v.routing v.queues v.exchanges v.made exchange shape h.routed;
    }

-- ---- a queue is gone

abbrev with_gone : Bool → List ℕ → Known → Known
with_gone b queue k = record {
  options = λ q. if b && same_text queue q then None else k.options q;
  owner = λ q. if b && same_text queue q then None else k.owner q;
  names = if b then filter (λ q. not (same_text q queue)) k.names else k.names;
  shape = k.shape;
  site = if b then site_of (gone queue k.site.routing) k.site.queues else k.site;
}

gone-by : {A : Type 0} (f : Option (Standing Message) → Option A) (found : Option (Standing Message)) (was : Option A) (c : Bool) → f None ≡ None → f found ≡ was → f (cond (not c) found None) ≡ (if c then None else was)
gone-by f found was true none h = none
gone-by f found was false none h = h

lost-by : {A : Type 0} (f : Option (Standing Message) → Option A) (queues : List (Named Message)) (queue q : List ℕ) (was : Option A) → f None ≡ None → f (queue_of q queues) ≡ was → f (queue_of q (filter (λ x. not (bytes_eq x.0 queue)) queues)) ≡ (if same_text queue q then None else was)
lost-by f queues queue q was none h =
    ap f (lookup-without q queue queues)
    ∙ ap (λ c. f (cond (not c) (queue_of q queues) None)) (same_text-sym q queue)
    ∙ gone-by f (queue_of q queues) was (same_text queue q) none h

gone-is : (queue : List ℕ) (r : Routing) → HaveEnds r → without_object sorts.Queue queue r ≡ gone queue r
gone-is queue r ends =
    elim (has sorts.Queue queue r.objects) as (λ b. has sorts.Queue queue r.objects ≡ b → without_object sorts.Queue queue r ≡ (if b then without_object sorts.Queue queue r else r)) [
      | true ↦ (λ _. refl)
      | false ↦ (λ off. without-absent queue r ends off)
    ] refl

gone-at : (b : Bool) (v : VhostState) (k : Known) (queue : List ℕ) → Stands v k → HaveEnds k.site.routing → Stands (if b then without_queue queue v else v) (with_gone b queue k)
gone-at false v k queue h ends = h
gone-at true v k queue h ends =
    let names : map (λ (q : Named Message). q.0) (filter (λ q. not (bytes_eq q.0 queue)) v.queues) ≡ filter (λ n. not (same_text n queue)) (map (λ q. q.0) v.queues) = names-filter (λ n. not (bytes_eq n queue)) v.queues in
    record {
      has_options = λ q. lost-by (option_map (λ (x : Standing Message). x.options)) v.queues queue q (k.options q) refl (h.has_options q);
      has_owner = λ q. lost-by (option_and_then (λ (x : Standing Message). x.owner)) v.queues queue q (k.owner q) refl (h.has_owner q);
      has_names = names ∙ ap (filter (λ n. not (same_text n queue))) h.has_names;
      distinct = subst AreDistinct (sym names) (distinct-filter (λ n. not (same_text n queue)) (map (λ q. q.0) v.queues) h.distinct);
      has_shape = h.has_shape;
      routing = ap (without_object sorts.Queue queue) h.routing ∙ gone-is queue k.site.routing ends;
      made = h.made;
      routed = routed-gone v.routing v.queues v.exchanges v.made queue h.routed;
    }

-- ---- a binding begins or ends

abbrev with_site : Bool → Routing → Known → Known
with_site b routing k = record {
  options = k.options;
  owner = k.owner;
  names = k.names;
  shape = k.shape;
  site = if b then site_of routing k.site.queues else k.site;
}

routed-objects : (r now : Routing) (queues : List (Named Message)) (exchanges : List NamedShape) (number : ℕ) → now.objects ≡ r.objects → AreRouted r queues exchanges number → AreRouted now queues exchanges number
routed-objects r now queues exchanges number same h = record {
  queue_names = λ name. ap (has sorts.Queue name) same ∙ h.queue_names name;
  exchange_names = λ name. ap (has sorts.Exchange name) same ∙ h.exchange_names name;
  numbers = subst (All (λ (o : Object). rises (number_of o.node) (Some number) ≡ true)) (sym same) h.numbers;
}

bound-objects : (binding : Binding) (r : Routing) → (bound binding r).objects ≡ r.objects
bound-objects binding r =
    elim (has_ends binding r && not (has_binding binding r.bindings)) as (λ b. (if b then with_binding binding r else r).objects ≡ r.objects) [ true ↦ refl | false ↦ refl ]

unbound-objects : (binding : Binding) (r : Routing) → (unbound binding r).objects ≡ r.objects
unbound-objects binding r = elim (has_binding binding r.bindings) as (λ b. (if b then without_binding binding r else r).objects ≡ r.objects) [ true ↦ refl | false ↦ refl ]

routing-at : (b : Bool) (v : VhostState) (k : Known) (was now : Routing) → was ≡ now → was.objects ≡ v.routing.objects → Stands v k → Stands (if b then with_routing was v else v) (with_site b now k)
routing-at false v k was now same objects h = h
routing-at true v k was now same objects h = record {
  has_options = h.has_options;
  has_owner = h.has_owner;
  has_names = h.has_names;
  distinct = h.distinct;
  has_shape = h.has_shape;
  routing = same;
  made = h.made;
  routed = routed-objects v.routing was v.queues v.exchanges v.made objects h.routed;
}

-- ---- each entry

step : (J : List Entry) (p : Place) (e : Entry) (v : VhostState) → Stands v (known J p) → Suits J e → Stands (recorded p e v) (known_after J p e)
step J p (MadeQueue place queue options owner) v h suits =
    made-at (same_place place p) v (known J p) queue options owner h (λ here. subst (λ r. queue_options J r queue ≡ None) (same_place-true place p here) suits)
step J p (MadeExchange place exchange shape) v h suits =
    exchange-at (same_place place p) v (known J p) exchange shape h (λ here. subst (λ r. exchange_shape J r exchange ≡ None) (same_place-true place p here) suits.0) suits.1
step J p (GoneQueue place queue) v h suits = gone-at (same_place place p) v (known J p) queue h (site-ends J p)
step J p (Bound place binding) v h suits =
    routing-at (same_place place p) v (known J p) (bound binding v.routing) (bound binding (site J p).routing) (ap (bound binding) h.routing) (bound-objects binding v.routing) h
step J p (Unbound place binding) v h suits =
    routing-at (same_place place p) v (known J p) (unbound binding v.routing) (unbound binding (site J p).routing) (ap (unbound binding) h.routing) (unbound-objects binding v.routing) h
step J p (Published x) v h suits =
    change-at (same_place x.place p) v (known J p) (all_entered x.queues x.first x.message v.queues) v.clients v.consumers v.begun (plain-entered x.queues x.first x.message v.queues) h
step J p (Flushed broker) v h suits =
    change-at (same_text broker p.broker) v (known J p) (all_changed (with_mail (swept sweeps.Store)) v.queues) v.clients v.consumers v.begun (plain-all (swept sweeps.Store) v.queues) h
step J p (Took l session copy) v h suits =
    change-at true v (known J p) (all_changed (with_mail (handed copy (session_holder session))) v.queues) v.clients v.consumers v.begun (plain-all (handed copy (session_holder session)) v.queues) h
step J p (Settled l session copy) v h suits =
    change-at true v (known J p) (all_changed (with_mail (left copy)) v.queues) v.clients v.consumers v.begun (plain-all (left copy) v.queues) h
step J p (Consumed place client queue tag no_ack prefetch) v h suits =
    change-at (same_place place p) v (known J p) v.queues (registered client v.clients) (v.consumers ++ new_consumer client queue tag no_ack prefetch v ∷ []) (v.begun + 1) refl h
step J p (Cancelled place client tag) v h suits =
    change-at (same_place place p) v (known J p) v.queues v.clients (without_consumer client tag v).consumers v.begun refl h
step J p (Delivered place client tag queue copy no_ack) v h suits =
    change-at (same_place place p) v (known J p) (handed_over queue copy (holder_as client tag v) no_ack v.queues) (registered client v.clients) v.consumers v.begun (plain-changed queue (given copy (holder_as client tag v) no_ack) v.queues) h
step J p (Acked place client copy) v h suits =
    change-at true v (known J p) (all_changed (with_mail (left copy)) v.queues) v.clients v.consumers v.begun (plain-all (left copy) v.queues) h
step J p (Rejected place client copy) v h suits =
    change-at true v (known J p) (all_changed (with_mail (left copy)) v.queues) v.clients v.consumers v.begun (plain-all (left copy) v.queues) h
step J p (Requeued place client copy) v h suits =
    change-at true v (known J p) (all_changed (with_mail (released copy)) v.queues) v.clients v.consumers v.begun (plain-all (released copy) v.queues) h
step J p (Purged place queue) v h suits =
    change-at (same_place place p) v (known J p) (changed queue (with_mail purged) v.queues) v.clients v.consumers v.begun (plain-changed queue purged v.queues) h
step J p (Closed place connection) v h suits =
    change-at (same_place place p) v (known J p) (freed_from connection 0 v.clients v.queues) v.clients (disconnected connection v).consumers v.begun (plain-freed connection 0 v.clients v.queues) h
step J p _ v h suits = h

-- what was declared and bound follows the journal (AMQP 0-9-1, 3.1 "The AMQ model")
pub configured-step : (J : List Entry) (p : Place) (e : Entry) (v : VhostState) → IsConfigured J p v → Suits J e → IsConfigured (J ++ e ∷ []) p (recorded p e v)
configured-step J p e v h suits = after J p e (recorded p e v) (step J p e v (before J p v h) suits)
