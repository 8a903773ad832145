-- Codes of objects and bindings, by which a proof tells two routers apart.
use Rattle.std.specs.Prelude.{◌≡◌, ℕ, ◌==◌, Bool, true, false, List, [], if◌then◌else◌, refl}
use Rattle.std.specs.Coded.{Coded, code_by, coded×, coded_ℕ, coded_bool, coded_list}
use Rattle.field_tables.specs.Fields.{Pairs}
use Rattle.amqp_props.specs.Codes.{coded_octets, coded_pairs}
use Rattle.amqp_props.specs.declared.link.ExchangeKind.{ExchangeKind}
use Rattle.amqp_props.specs.declared.link.ExchangeKind.TheVariants as kinds
use Rattle.route_core.specs.declared.object.Sort.{Sort}
use Rattle.route_core.specs.declared.object.Sort.TheVariants as sorts
use Rattle.route_core.specs.declared.object.Node.{Node}
use Rattle.route_core.specs.declared.object.Node.TheVariants as nodes
use Rattle.route_core.specs.declared.object.Object.{Object}
use Rattle.route_core.specs.declared.binding.Binding.{Binding}
use Rattle.route_core.specs.Routing.{Routing, RouterState}

abbrev is_queue : Sort → Bool
is_queue sorts.Queue = true
is_queue sorts.Exchange = false

abbrev sort_from : Bool → Sort
sort_from true = sorts.Queue
sort_from false = sorts.Exchange

pub sort_back : (s : Sort) → sort_from (is_queue s) ≡ s
sort_back sorts.Queue = refl
sort_back sorts.Exchange = refl

abbrev pub coded_sort : Coded Sort
coded_sort = code_by Bool coded_bool is_queue sort_from sort_back

abbrev kind_number : ExchangeKind → ℕ
kind_number kinds.Direct = 0
kind_number kinds.Fanout = 1
kind_number kinds.Headers = 2
kind_number kinds.Topic = 3

abbrev kind_from : ℕ → ExchangeKind
kind_from n = if n == 0 then kinds.Direct else (if n == 1 then kinds.Fanout else (if n == 2 then kinds.Headers else kinds.Topic))

-- a number of what it is, a number of its own, and two names
abbrev NodeCode : Type 0
NodeCode = (ℕ × ℕ) × (List ℕ × List ℕ)

abbrev node_code : Node → NodeCode
node_code (nodes.Queue number) = ((0, number), ([], []))
node_code (nodes.Exchange kind) = ((1, kind_number kind), ([], []))
node_code (nodes.Gate limit cluster vhost) = ((2, limit), (cluster, vhost))

abbrev node_from : NodeCode → Node
node_from c =
    if c.0.0 == 0 then nodes.Queue c.0.1 else (if c.0.0 == 1 then nodes.Exchange (kind_from c.0.1) else nodes.Gate c.0.1 c.1.0 c.1.1)

pub node_back : (node : Node) → node_from (node_code node) ≡ node
node_back (nodes.Queue number) = refl
node_back (nodes.Exchange kinds.Direct) = refl
node_back (nodes.Exchange kinds.Fanout) = refl
node_back (nodes.Exchange kinds.Headers) = refl
node_back (nodes.Exchange kinds.Topic) = refl
node_back (nodes.Gate limit cluster vhost) = refl

abbrev pub coded_node : Coded Node
coded_node = code_by NodeCode (coded× (coded× coded_ℕ coded_ℕ) (coded× coded_octets coded_octets)) node_code node_from node_back

abbrev pub coded_object : Coded Object
coded_object = code_by (List ℕ × Node) (coded× coded_octets coded_node) (λ o. (o.name, o.node)) (λ p. record { name = p.0; node = p.1 }) (λ _. refl)

abbrev BindingCode : Type 0
BindingCode = (List ℕ × (Sort × List ℕ)) × (List ℕ × Pairs)

abbrev binding_code : Binding → BindingCode
binding_code b = ((b.source, (b.sort, b.dest)), (b.key, b.args))

abbrev binding_from : BindingCode → Binding
binding_from c = record { source = c.0.0; sort = c.0.1.0; dest = c.0.1.1; key = c.1.0; args = c.1.1 }

abbrev pub coded_binding : Coded Binding
coded_binding = code_by BindingCode (coded× (coded× coded_octets (coded× coded_sort coded_octets)) (coded× coded_octets coded_pairs)) binding_code binding_from (λ _. refl)

abbrev pub coded_routing : Coded Routing
coded_routing = code_by (List Object × List Binding) (coded× (coded_list coded_object) (coded_list coded_binding)) (λ r. (r.objects, r.bindings)) (λ p. record { objects = p.0; bindings = p.1 }) (λ _. refl)

abbrev pub coded_state : Coded RouterState
coded_state = code_by (Routing × (ℕ × ℕ)) (coded× coded_routing (coded× coded_ℕ coded_ℕ)) (λ s. (s.routing, (s.spare_objects, s.spare_bindings))) (λ p. record { routing = p.0; spare_objects = p.1.0; spare_bindings = p.1.1 }) (λ _. refl)
