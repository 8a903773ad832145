use Rattle.std.proofs.Common.{sym, arith}
use Rattle.std.proofs.lemmas.Bool.Decides.{nat_tests}
use Rattle.std.proofs.lemmas.Grind.{common_steps}
use Rattle.std.proofs.lemmas.List.{take_all}
use Rattle.route_core.proofs.Lists.{take_step}
use Rattle.route_core.proofs.RouteLemmas.{limit_none, limit_more, limit_all}
use Rattle.route_core.proofs.routes.greatest_limit.Goals as goal

pub loop-stop-init : goal.loop-stop-init
loop-stop-init c = limit_none _ _ _ _

pub loop-stop-preserved : goal.loop-stop-preserved
loop-stop-preserved c =
    let now = take_step c.args.stops.now c.loop-stop.stop-index c.stop-item.result c.loop-stop-test.true c.stop-item.is in
    rw now (limit_more _ _ _ _ _ c.stop-item.result _ _ _ c.loop-stop.invariant (c.loop-stop.stop-index, c.loop-stop-test.true, sym c.stop-item.is) c.limit_at.ensures (grind (arith, common_steps, nat_tests, c.max-greatest.ensures)))

pub returns-clause-some : goal.returns-clause-some
returns-clause-some c = c.loop-stop.invariant.some

pub returns-clause-greatest : goal.returns-clause-greatest
returns-clause-greatest c = limit_all _ _ _ _ _ (rw (take_all c.loop-stop.stop-index c.args.stops.now c.loop-stop-test.false) at c.loop-stop.invariant)
