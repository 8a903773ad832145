use Rattle.std.proofs.Common.{[], refl}
use Rattle.fed_world.proofs.RowSuits.{begin-suits}
use Rattle.fed_world.proofs.SoundLemmas.{IsSound-empty, EachFits-begin}
use Rattle.fed_world.proofs.world.World.begin.Goals as goal

-- the empty journal is sound
pub extend-requires-clause-sound : goal.extend-requires-clause-sound
extend-requires-clause-sound c = rw c.new-journal.ensures IsSound-empty

-- the brokers' entries fit any journal
pub extend-requires-clause-fits : goal.extend-requires-clause-fits
extend-requires-clause-fits c = rw c.in_ok-entries.ensures (EachFits-begin _ _)

-- brokers begin before all else
pub extend-requires-clause-suits : goal.extend-requires-clause-suits
extend-requires-clause-suits c = rw (c.new-journal.ensures, c.in_ok-entries.ensures) (begin-suits [] _ refl)
