use Rattle.route_core.proofs.RoutedLemmas.{names_named}
use Rattle.route_core.proofs.routes.names_named.Goals as goal

pub returns : goal.returns
returns c = λ others. rw (c.in_ok-names.ensures, c.deref.ensures.value, c.in_ok-stops.ensures) (names_named _ _ c.requires.default)
