use Rattle.std.proofs.Common.{rules}
use Rattle.field_tables.specs.View.{table_view}
use Rattle.route_core.specs.Walks.{publish}
use Rattle.route_core.proofs.RoutedLemmas.{few_from}
use Rattle.route_core.proofs.router.Router.names.Goals as goal

pub returns-then-is_empty-clause-few : goal.returns-then-is_empty-clause-few
returns-then-is_empty-clause-few c =
    few_from c.args.self.now.routing (publish c.args.exchange.now c.args.key.now (table_view c.args.headers.now)) _
    (rw (← c.self.view_is) (rw c.deref.ensures.value at (c.in_ok-names_named.ensures c.self.inside.bindings.items)))

pub returns-clause-few : goal.returns-clause-few
returns-clause-few c =
    few_from c.args.self.now.routing (publish c.args.exchange.now c.args.key.now (table_view c.args.headers.now)) _ (search rules)
