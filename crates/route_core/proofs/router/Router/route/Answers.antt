use Rattle.std.proofs.Common.{◌≡◌, length, sym, ◌∙◌, rules}
use Rattle.std.proofs.lemmas.Bool.Decides.{Decides-eqb}
use Rattle.field_tables.specs.View.{table_view}
use Rattle.route_core.specs.Walks.{publish, IsWalkLimit}
use Rattle.route_core.proofs.LimitLemmas.{empty_is, limit_value}
use Rattle.route_core.proofs.RouteLemmas.{limit_named}
use Rattle.route_core.proofs.router.Router.route.Goals as goal

pub returns-then-is_empty-clause-routes : goal.returns-then-is_empty-clause-routes
returns-then-is_empty-clause-routes c =
    rw (← c.self.view_is) (rw c.deref.ensures.value at (c.in_ok-numbers.ensures.routes c.self.inside.bindings.items))

pub returns-then-is_empty-clause-numbers : goal.returns-then-is_empty-clause-numbers
returns-then-is_empty-clause-numbers c =
    rw (← c.self.view_is) (rw c.deref.ensures.value at (c.in_ok-numbers.ensures.numbers c.self.inside.bindings.items))

pub returns-then-is_empty-clause-limit_value : goal.returns-then-is_empty-clause-limit_value
returns-then-is_empty-clause-limit_value c =
    let none : length c.args.exchange.now ≡ 0 = (Decides-eqb (length c.args.exchange.now) 0).0 (sym c.is_empty.ensures ∙ c.if-is_empty.true) in
    limit_value _ _ 0 (limit_named _ _ (empty_is c.args.exchange.now none))

pub returns-clause-limit_value : goal.returns-clause-limit_value
returns-clause-limit_value c =
    let limit : IsWalkLimit c.args.self.now.routing (publish c.args.exchange.now c.args.key.now (table_view c.args.headers.now)) c.in_ok-walked.field-0.1 = search rules in
    limit_value _ _ _ limit
