use Rattle.std.proofs.Common.{◌+◌, ◌<◌, ◌^◌, take, arith, sym, subst}
use Rattle.fed_journal.specs.Routes as routes
use Rattle.fed_journal.specs.SiteLaws.{IsNumbering, site-numbering, site-few}
use Rattle.std.proofs.lemmas.List.{length-take-le}
use Rattle.journal_scan.proofs.routing.place_after.Goals as goal

-- the numbers of the queues so far rise
pub enter-requires-clause-numbered : goal.enter-requires-clause-numbered
enter-requires-clause-numbered c =
    subst IsNumbering (sym c.loop-entry.invariant) (site-numbering (take c.loop-entry.entry-index c.args.journal.now) c.args.place.now)

-- they are fewer than the entries
pub enter-requires-clause-few : goal.enter-requires-clause-few
enter-requires-clause-few c =
    subst (λ (s : routes.Site). s.queues + 1 < 2 ^ 32) (sym c.loop-entry.invariant)
    (omega (arith, (site-few (take c.loop-entry.entry-index c.args.journal.now) c.args.place.now).1, length-take-le c.loop-entry.entry-index c.args.journal.now (omega (arith, c.loop-entry-test.true)), c.loop-entry-test.true, c.requires))
