use Rattle.std.proofs.Common.{◌≡◌, ◌+◌, ◌≤◌, ◌++◌, None, length, subst}
use Rattle.fed_journal.specs.Limits.{most_entries, most_links}
use Rattle.fed_journal.specs.Links.{links_of}
use Rattle.fed_world.specs.Limits.{limit_of}
use Rattle.fed_world.proofs.LimitLemmas.{limit-kept}
use Rattle.fed_world.proofs.SoundLemmas.{IsSound-append, fitting-each, sized-each}
use Rattle.fed_world.proofs.world.extend.Goals as goal

-- entries that fit have numbers that fit, and their sizes
pub follow-requires-clause-fits : goal.follow-requires-clause-fits
follow-requires-clause-fits c = rw c.as_slice-2.ensures.value (fitting-each _ _ c.requires.fits)

pub append-requires-clause-sized : goal.append-requires-clause-sized
append-requires-clause-sized c = sized-each _ _ c.requires.fits

-- the journal is the old one with entries that fit, and passes no limit
pub returns-clause-sound : goal.returns-clause-sound
returns-clause-sound c =
    let within : limit_of c.args.journal.now.entries c.args.entries.items ≡ None = subst (λ es. limit_of c.args.journal.now.entries es ≡ None) c.as_slice.ensures.value c.in_ok-make_room.ensures.within in
    let most : (length (links_of (c.args.journal.now.entries ++ c.args.entries.items)) ≤ most_links) × (length c.args.journal.now.entries + length c.args.entries.items ≤ most_entries) = limit-kept c.args.journal.now.entries c.args.entries.items within in
    rw (c.append.ensures, c.make_room.ensures.same) (IsSound-append _ _ c.requires.sound c.requires.fits most.1 most.0)
