-- The exchanges, queues and bindings of a virtual host (AMQP 0-9-1, 3.1 "The AMQ model").
use Rattle.std.specs.Prelude.{ℕ, Bool, true, not, ◌||◌, ◌&&◌, ◌≡◌, All, List, [], ◌∷◌, ◌++◌, filter, codes, if◌then◌else◌}
use Rattle.std.specs.Str.{bytes_eq}
use Rattle.field_tables.specs.Fields.{Pairs}
use Rattle.amqp_props.specs.declared.link.ExchangeKind.TheVariants as kinds
use Rattle.route_core.specs.declared.object.Sort.{Sort}
use Rattle.route_core.specs.declared.object.Sort.TheVariants as sorts
use Rattle.route_core.specs.declared.object.Node.{Node}
use Rattle.route_core.specs.declared.object.Node.TheVariants as nodes
use Rattle.route_core.specs.declared.object.Object.{Object}
use Rattle.route_core.specs.declared.binding.Binding.{Binding}
use Rattle.route_core.specs.Objects.{same_sort, is_named, has, number_of, rises}
use Rattle.route_core.specs.Bindings.{is_same, leaves, ends_with, has_binding}

-- Queues and exchanges in the order of their making, and bindings in the order of binding.
pub record Routing : Type 0 where
  pub objects : List Object
  pub bindings : List Binding

-- A router, and for how many objects and bindings it has taken memory ahead.
pub record RouterState : Type 0 where
  pub routing : Routing
  pub spare_objects : ℕ
  pub spare_bindings : ℕ

abbrev pub object_named : List ℕ → Node → Object
object_named name node = record { name = name; node = node }

-- The default exchange has the empty name, and always stands (AMQP 0-9-1, 3.1.3.1 "The Direct Exchange Type": the default exchange).
abbrev pub is_default : Sort → List ℕ → Bool
is_default sort name = same_sort sort sorts.Exchange && bytes_eq name []

abbrev pub stands : Sort → List ℕ → Routing → Bool
stands sort name r = is_default sort name || has sort name r.objects

-- The exchanges with which a virtual host begins (AMQP 0-9-1, 3.1.3 "Exchange Types": amq.direct and the others that the server pre-declares).
abbrev pub predeclared : List Object
predeclared =
    object_named (codes "amq.direct") (nodes.Exchange kinds.Direct)
    ∷ object_named (codes "amq.fanout") (nodes.Exchange kinds.Fanout)
    ∷ object_named (codes "amq.headers") (nodes.Exchange kinds.Headers)
    ∷ object_named (codes "amq.match") (nodes.Exchange kinds.Headers)
    ∷ object_named (codes "amq.topic") (nodes.Exchange kinds.Topic)
    ∷ []

-- If it is a queue, its number is above those of all queues.
abbrev pub IsNext : Node → Routing → Type 0
IsNext node r = All (λ o. rises (number_of o.node) (number_of node) ≡ true) r.objects

abbrev pub with_object : List ℕ → Node → Routing → Routing
with_object name node r = record { objects = r.objects ++ object_named name node ∷ []; bindings = r.bindings }

-- The object is gone, and each binding that had an end there.
abbrev pub without_object : Sort → List ℕ → Routing → Routing
without_object sort name r = record {
  objects = filter (λ o. not (is_named sort name o)) r.objects;
  bindings = filter (λ b. not (ends_with sort name b)) r.bindings;
}

abbrev pub with_binding : Binding → Routing → Routing
with_binding b r = record { objects = r.objects; bindings = r.bindings ++ b ∷ [] }

abbrev pub without_binding : Binding → Routing → Routing
without_binding b r = record { objects = r.objects; bindings = filter (λ other. not (is_same b other)) r.bindings }

abbrev pub bindings_from : List ℕ → Routing → List Binding
bindings_from exchange r = filter (leaves exchange) r.bindings

abbrev pub key_and_arguments : Binding → List ℕ × Pairs
key_and_arguments b = (b.key, b.args)

-- both ends of a binding stand (AMQP 0-9-1, queue.bind)
abbrev pub has_ends : Binding → Routing → Bool
has_ends b r = has sorts.Exchange b.source r.objects && has b.sort b.dest r.objects

-- an equal binding isn't made again (AMQP 0-9-1, queue.bind: a duplicate is ignored)
abbrev pub bound : Binding → Routing → Routing
bound b r = if has_ends b r && not (has_binding b r.bindings) then with_binding b r else r

-- a binding that isn't there isn't removed (AMQP 0-9-1, queue.unbind)
abbrev pub unbound : Binding → Routing → Routing
unbound b r = if has_binding b r.bindings then without_binding b r else r
