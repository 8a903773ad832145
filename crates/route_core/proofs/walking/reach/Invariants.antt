use Rattle.std.proofs.Common.{◌+◌, ◌-◌, length}
use Rattle.field_tables.specs.View.{table_view}
use Rattle.route_core.specs.Walks.{publish}
use Rattle.route_core.specs.Spreading.{left}
use Rattle.route_core.proofs.StopLemmas.{IsSearched}
use Rattle.route_core.proofs.walking.reach.Given as goal

abbrev pub invariant-loop-next : goal.invariant-loop-next
invariant-loop-next l = IsSearched (record { objects = l.objects; bindings = l.bindings }) (publish l.publication.exchange.now l.publication.key.now (table_view l.publication.headers.now)) l.next l.stops.items

abbrev pub decreases-loop-next : goal.decreases-loop-next
decreases-loop-next l = left l.stops.items l.bindings + (length l.stops.items - l.next)
