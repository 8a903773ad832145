use Rattle.std.proofs.Common.{◌<◌, length, arith, sym, subst}
use Rattle.fed_journal.specs.SiteLaws.{routes-few}
use Rattle.broker_view.proofs.run.Run.routes.Goals as goal

pub new-requires : goal.new-requires
new-requires c = subst (λ names. length names < 4294967296) (sym c.in_ok-names.ensures) (omega (arith, routes-few c.args.self.now c.args.place.now c.args.message.now, c.requires.within))
