use Rattle.route_core.proofs.RouteLemmas.{routes_named}
use Rattle.route_core.proofs.RoutedLemmas.{numbers_named}
use Rattle.route_core.proofs.routes.named.Goals as goal

pub returns-clause-routes : goal.returns-clause-routes
returns-clause-routes c = λ others. rw (c.in_ok-numbers.ensures, c.deref.ensures.value, c.in_ok-stops.ensures) (routes_named _ _ c.requires.order c.requires.default)

pub returns-clause-numbers : goal.returns-clause-numbers
returns-clause-numbers c = λ others. rw (c.in_ok-numbers.ensures, c.deref.ensures.value, c.in_ok-stops.ensures) (numbers_named _ _ c.requires.default)
