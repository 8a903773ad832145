use Rattle.std.proofs.Common.{take}
use Rattle.field_tables.specs.View.{table_view}
use Rattle.route_core.specs.Walks.{publish}
use Rattle.route_core.proofs.RouteLemmas.{IsLimitOf}
use Rattle.route_core.proofs.routes.greatest_limit.Given as goal

abbrev pub invariant-loop-stop : goal.invariant-loop-stop
invariant-loop-stop l = IsLimitOf l.objects (publish l.publication.exchange.now l.publication.key.now (table_view l.publication.headers.now)) l.stops l.bindings (take l.stop-index l.stops) l.greatest
