use Rattle.std.proofs.Common.{◌≡◌, ◌-◌, ◌<◌, ◌≤◌, length, get_or}
use Rattle.field_tables.specs.View.{table_view}
use Rattle.route_core.specs.Sources.{source_code}
use Rattle.route_core.specs.Walks.{publish}
use Rattle.route_core.proofs.SpreadLemmas.{SpreadsFrom}
use Rattle.route_core.proofs.walking.spread.Given as goal

abbrev pub invariant-loop-at : goal.invariant-loop-at
invariant-loop-at l =
    (l.at ≤ length l.bindings)
    × (0 < l.at → get_or l.sources.codes (l.at - 1) 0 ≡ source_code l.from)
    × SpreadsFrom (record { objects = l.objects; bindings = l.bindings }) (publish l.publication.exchange.now l.publication.key.now (table_view l.publication.headers.now)) l.from l.at l.initial.stops.items l.stops.items

abbrev pub decreases-loop-at : goal.decreases-loop-at
decreases-loop-at l = l.at
