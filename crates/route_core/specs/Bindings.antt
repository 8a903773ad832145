-- Bindings: their parts, and which of them are one (AMQP 0-9-1, 3.1.4 "The Binding"; queue.bind: a duplicate is ignored).
use Rattle.std.specs.Prelude.{ℕ, Bool, ◌&&◌, ◌||◌, List}
use Rattle.std.specs.List.{list_any}
use Rattle.std.specs.Str.{bytes_eq}
use Rattle.field_tables.specs.Fields.{Pairs}
use Rattle.field_tables.specs.Same.{same_pairs}
use Rattle.route_core.specs.declared.object.Sort.{Sort}
use Rattle.route_core.specs.declared.object.Sort.TheVariants as sorts
use Rattle.route_core.specs.declared.binding.Binding.{Binding}
use Rattle.route_core.specs.Objects.{same_sort}

abbrev pub binding_of : List ℕ → Sort → List ℕ → List ℕ → Pairs → Binding
binding_of source sort dest key args = record { source = source; sort = sort; dest = dest; key = key; args = args }

-- Two bindings are one where they have the same ends, routing key and arguments.
abbrev pub is_same : Binding → Binding → Bool
is_same asked b =
    (((bytes_eq b.source asked.source && same_sort b.sort asked.sort) && bytes_eq b.dest asked.dest) && bytes_eq b.key asked.key) && same_pairs b.args asked.args

abbrev pub has_binding : Binding → List Binding → Bool
has_binding asked bindings = list_any (is_same asked) bindings

abbrev pub leaves : List ℕ → Binding → Bool
leaves exchange b = bytes_eq b.source exchange

-- A binding ends with each of its ends (AMQP 0-9-1, exchange.delete and queue.delete: the bindings are deleted with it).
abbrev pub ends_with : Sort → List ℕ → Binding → Bool
ends_with sort name b =
    (same_sort sort sorts.Exchange && leaves name b) || (same_sort b.sort sort && bytes_eq b.dest name)
