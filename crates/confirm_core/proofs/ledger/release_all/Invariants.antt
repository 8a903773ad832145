use Rattle.std.proofs.Common.{◌≡◌, map, take}
use Rattle.confirm_core.specs.Openings.{released_among}
use Rattle.confirm_core.proofs.ledger.release_all.Given as goal

abbrev pub invariant-loop-opening : goal.invariant-loop-opening
invariant-loop-opening l = l.openings ≡ map (released_among (take l.opening-index l.waiting) l.copy) l.initial.openings
