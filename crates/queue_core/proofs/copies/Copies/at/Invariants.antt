-- The copy at the place is at what is left of it among those that are left.
use Rattle.std.proofs.Common.{◌≡◌}
use Rattle.std.specs.Prelude.{slice_get}
use Rattle.queue_core.specs.Rows.{copy_at}
use Rattle.queue_core.proofs.copies.Copies.at.Given as goal

abbrev pub invariant-loop-copy : goal.invariant-loop-copy
invariant-loop-copy l = slice_get l.copy-iterator l.left ≡ copy_at l.self l.place
