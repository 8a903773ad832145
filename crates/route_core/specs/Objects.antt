-- Queues and exchanges under their names (AMQP 0-9-1, 3.1.1 "The Message Queue" and 3.1.2 "The Exchange").
use Rattle.std.specs.Prelude.{ℕ, Bool, true, false, not, ◌&&◌, nat_lt, List, Option, Some, None}
use Rattle.std.specs.List.{list_any}
use Rattle.std.specs.Str.{bytes_eq}
use Rattle.route_core.specs.declared.object.Sort.{Sort}
use Rattle.route_core.specs.declared.object.Sort.TheVariants as sorts
use Rattle.route_core.specs.declared.object.Node.{Node}
use Rattle.route_core.specs.declared.object.Node.TheVariants as nodes
use Rattle.route_core.specs.declared.object.Object.{Object}

abbrev pub same_sort : Sort → Sort → Bool
same_sort sorts.Queue sorts.Queue = true
same_sort sorts.Exchange sorts.Exchange = true
same_sort _ _ = false

-- A gate is an exchange.
abbrev pub sort_of : Node → Sort
sort_of (nodes.Queue number) = sorts.Queue
sort_of (nodes.Exchange kind) = sorts.Exchange
sort_of (nodes.Gate limit cluster vhost) = sorts.Exchange

-- Queues and exchanges have names of their own: one of each may have the same name.
abbrev pub is_named : Sort → List ℕ → Object → Bool
is_named sort name object = same_sort (sort_of object.node) sort && bytes_eq object.name name

abbrev pub has : Sort → List ℕ → List Object → Bool
has sort name objects = list_any (is_named sort name) objects

abbrev pub number_of : Node → Option ℕ
number_of (nodes.Queue number) = Some number
number_of (nodes.Exchange kind) = None
number_of (nodes.Gate limit cluster vhost) = None

-- If both are queues, the one that was made later has the greater number.
abbrev pub rises : Option ℕ → Option ℕ → Bool
rises (Some earlier) (Some later) = nat_lt earlier later
rises _ _ = true

abbrev pub is_after : Object → Object → Bool
is_after earlier later =
    not (is_named (sort_of later.node) later.name earlier) && rises (number_of earlier.node) (number_of later.node)
