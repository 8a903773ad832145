use Rattle.route_core.proofs.RouteLemmas.{routes_walked, limit_walked}
use Rattle.route_core.proofs.RoutedLemmas.{numbers_walked}
use Rattle.route_core.proofs.routes.walked.Goals as goal

pub returns-clause-routes : goal.returns-clause-routes
returns-clause-routes c =
    rw (c.in_ok-numbers.ensures, c.deref.ensures.value) (routes_walked _ _ _ c.requires.order c.requires.named c.in_ok-stops.ensures)

pub returns-clause-numbers : goal.returns-clause-numbers
returns-clause-numbers c =
    rw (c.in_ok-numbers.ensures, c.deref.ensures.value) (numbers_walked _ _ _ c.requires.named c.in_ok-stops.ensures)

pub returns-clause-limit : goal.returns-clause-limit
returns-clause-limit c =
    limit_walked _ _ _ _ c.requires.named c.in_ok-stops.ensures (rw c.deref-2.ensures.value at c.greatest_limit-limit.ensures.some) (rw c.deref-2.ensures.value at c.greatest_limit-limit.ensures.greatest)
