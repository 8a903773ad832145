use Rattle.route_core.specs.Walks.{IsReached}
use Rattle.route_core.specs.Routes.{stops}
use Rattle.route_core.proofs.StopLemmas.{among_all}
use Rattle.route_core.proofs.TakingLemmas.{matches_yes, matches_back}
use Rattle.route_core.proofs.RoundLemmas.{stops_are, reached_yes, reached_back}
use Rattle.route_core.proofs.RoutedLemmas.{routed_yes, routed_back}
use Rattle.route_core.proofs.laws.rounds_are_walks.Goals as goal

pub returns-clause-matches : goal.returns-clause-matches
returns-clause-matches c = λ objects p b. (matches_yes objects p b, matches_back objects p b)

pub returns-clause-walks : goal.returns-clause-walks
returns-clause-walks c = λ r p sort name.
    (λ h. among_all (IsReached r p) (stops r p) sort name (stops_are r p).sound h, λ h. (stops_are r p).whole sort name h)

pub returns-clause-reached : goal.returns-clause-reached
returns-clause-reached c = λ r p name. (reached_yes r p name, reached_back r p name)

pub returns-clause-routed : goal.returns-clause-routed
returns-clause-routed c = λ r p o. (routed_yes r p o, routed_back r p o)
