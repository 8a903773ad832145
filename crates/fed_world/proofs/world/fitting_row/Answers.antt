use Rattle.std.proofs.Common.{◌<◌, ◌^◌}
use Rattle.fed_journal.specs.Copies.{copy_count}
use Rattle.fed_world.proofs.Reached.{reached-caused}
use Rattle.fed_world.proofs.RowFits.{next-fits}
use Rattle.fed_world.proofs.RowSuits.{next-suits}
use Rattle.fed_world.proofs.SoundLemmas.{copies-small}
use Rattle.fed_world.proofs.world.fitting_row.Goals as goal

-- whatever the event, its entries fit
pub returns-clause-fits : goal.returns-clause-fits
returns-clause-fits c =
    let small : copy_count c.args.journal.now.entries < 2 ^ 63 = copies-small c.entries.ensures.same c.entries.ensures.within c.entries.ensures.copies in
    rw (c.in_ok-row.ensures, c.run-run.ensures, c.entries.ensures.same) (next-fits _ c.args.event.now c.requires.writable c.requires.sound.within small c.requires.sound.sessions c.requires.sound.sized)

-- and suit the journal
pub returns-clause-suits : goal.returns-clause-suits
returns-clause-suits c = rw (c.in_ok-row.ensures, c.run-run.ensures, c.entries.ensures.same) (next-suits _ c.args.event.now (reached-caused _ c.requires.reached))
