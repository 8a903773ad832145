use Rattle.fed_world.proofs.SoundLemmas.{sized-each}
use Rattle.fed_world.proofs.world.make_room.Goals as goal

-- entries that fit have their sizes
pub bytes_of-requires-clause-sized : goal.bytes_of-requires-clause-sized
bytes_of-requires-clause-sized c = sized-each _ _ c.requires.fits
