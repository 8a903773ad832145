use Rattle.route_core.proofs.RoutedLemmas.{names_walked}
use Rattle.route_core.proofs.routes.names_walked.Goals as goal

pub returns : goal.returns
returns c = rw (c.in_ok-names.ensures, c.deref.ensures.value) (names_walked _ _ _ c.requires.named c.in_ok-stops.ensures)
