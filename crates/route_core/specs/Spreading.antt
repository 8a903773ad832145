-- How the search for routes goes on: what has been reached, and what is left to look at.
use Rattle.std.specs.Prelude.{◌≡◌, ℕ, ◌+◌, ◌<◌, ◌≤◌, Bool, true, false, not, ◌&&◌, List, ◌++◌, Option, Some, None, All, length, filter, if◌then◌else◌}
use Rattle.std.specs.List.{list_any, Any}
use Rattle.std.specs.Str.{bytes_eq}
use Rattle.route_core.specs.declared.object.Sort.{Sort}
use Rattle.route_core.specs.declared.object.Sort.TheVariants as sorts
use Rattle.route_core.specs.declared.object.Node.{Node}
use Rattle.route_core.specs.declared.object.Node.TheVariants as nodes
use Rattle.route_core.specs.declared.object.Object.{Object}
use Rattle.route_core.specs.declared.binding.Binding.{Binding}
use Rattle.route_core.specs.Objects.{same_sort, number_of, sort_of}
use Rattle.route_core.specs.Routing.{Routing}
use Rattle.route_core.specs.Walks.{Publish, Stop, stop, exchange_stop, source_of, exchange_node, Matches, IsReached}

abbrev pub is_at : Sort → List ℕ → Stop → Bool
is_at sort name s = same_sort s.sort sort && bytes_eq s.name name

abbrev pub is_among : List Stop → Sort → List ℕ → Bool
is_among stops sort name = list_any (is_at sort name) stops

-- how many of the bindings lead to what isn't reached yet
abbrev pub left : List Stop → List Binding → ℕ
left stops bindings = length (filter (λ b. not (is_among stops b.sort b.dest)) bindings)

-- the bindings that leave the stop and match lead to what is reached
abbrev pub IsFollowed : List Object → Publish → List Binding → List Stop → Stop → Type 0
IsFollowed objects p bindings stops from =
    All (λ b. source_of b ≡ from → Matches objects p b → is_among stops b.sort b.dest ≡ true) bindings

-- these bindings have been followed from the stop
pub record Spreads (r : Routing) (p : Publish) (from : Stop) (bindings : List Binding) (before after : List Stop) : Type 0 where
  pub more : List Stop
  pub kept : after ≡ before ++ more
  pub sound : IsReached r p from → All (IsReached r p) before → All (IsReached r p) after
  pub followed : IsFollowed r.objects p bindings after from
  pub falls : left after r.bindings + length after ≤ left before r.bindings + length before

-- exactly what the message reaches
pub record AreStops (r : Routing) (p : Publish) (stops : List Stop) : Type 0 where
  pub sound : All (IsReached r p) stops
  pub whole : (sort : Sort) (name : List ℕ) → IsReached r p (stop sort name) → is_among stops sort name ≡ true

-- the number of a queue that is reached
abbrev pub number_at : List Stop → Object → Option ℕ
number_at stops o = if is_among stops (sort_of o.node) o.name then number_of o.node else None

-- a queue that is reached
abbrev pub is_queue_at : List Stop → Object → Bool
is_queue_at stops o = same_sort (sort_of o.node) sorts.Queue && is_among stops sorts.Queue o.name

abbrev pub exchange_by : Sort → List ℕ → Option (List ℕ)
exchange_by sorts.Queue name = None
exchange_by sorts.Exchange name = Some name

abbrev pub exchange_of : Stop → Option (List ℕ)
exchange_of s = exchange_by s.sort s.name

-- the binding leaves the exchange, matches, and leads to what isn't reached yet
pub record LeadsOn (objects : List Object) (p : Publish) (b : Binding) (from : List ℕ) (stops : List Stop) : Type 0 where
  pub leaves : b.source ≡ from
  pub matches : Matches objects p b
  pub fresh : is_among stops b.sort b.dest ≡ false

-- the limit of a gate that is passed over this binding, if there is one
abbrev pub gate_limit : Node → ℕ
gate_limit (nodes.Queue number) = 0
gate_limit (nodes.Exchange kind) = 0
gate_limit (nodes.Gate limit cluster vhost) = limit

-- the exchange of this name is a gate with this limit
pub record IsGate (objects : List Object) (name : List ℕ) (limit : ℕ) : Type 0 where
  pub cluster : List ℕ
  pub vhost : List ℕ
  pub is : exchange_node name objects ≡ Some (nodes.Gate limit cluster vhost)

-- a gate with this limit is reached, and passed over the binding
pub record GateAt (objects : List Object) (p : Publish) (stops : List Stop) (b : Binding) (limit : ℕ) : Type 0 where
  pub there : is_among stops sorts.Exchange b.source ≡ true
  pub matches : Matches objects p b
  pub gate : IsGate objects b.source limit

-- the binding leaves the exchange of this name, and matches
pub record IsOver (objects : List Object) (p : Publish) (name : List ℕ) (b : Binding) : Type 0 where
  pub leaves : b.source ≡ name
  pub matches : Matches objects p b

-- the limit of the gate of this name, if the message passes it, else 0
pub record IsLimitFrom (objects : List Object) (p : Publish) (bindings : List Binding) (name : List ℕ) (limit : ℕ) : Type 0 where
  pub gate : 0 < limit → IsGate objects name limit
  pub some : 0 < limit → Any (IsOver objects p name) bindings
  pub greatest : (other : ℕ) → IsGate objects name other → All (λ b. IsOver objects p name b → other ≤ limit) bindings

-- the same for what was reached; a queue is no gate
pub record IsLimitAt (objects : List Object) (p : Publish) (bindings : List Binding) (at : Stop) (limit : ℕ) : Type 0 where
  pub gate : 0 < limit → (at ≡ exchange_stop at.name) × IsLimitFrom objects p bindings at.name limit
  pub greatest : at ≡ exchange_stop at.name → IsLimitFrom objects p bindings at.name limit
