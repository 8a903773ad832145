use Rattle.std.proofs.Common.{◌<◌, ◌-◌, refl, arith}
use Rattle.route_core.proofs.ChainLemmas.{sought_start, sought_step, sought_none}
use Rattle.route_core.proofs.chains.seek.Goals as goal

pub loop-at-init : goal.loop-at-init
loop-at-init c = (c.requires.within, λ below le last. sought_start _ _ _ _ _ last)

pub loop-at-preserved : goal.loop-at-preserved
loop-at-preserved c =
    let at = c.loop-at.at in
    let pos : 0 < at = omega (arith, c.loop-at-test.true) in
    let last = c.requires.linked.before_last (at - 1) (omega (arith, c.loop-at.invariant.0)) in
    (omega (arith, last.within, c.loop-at.invariant.0), λ below le is. sought_step _ _ _ _ _ _ _ _ le c.requires.linked pos c.if-codes-at.false refl (c.loop-at.invariant.1 below le is))

pub returns : goal.returns
returns c = λ below le is. sought_none _ _ _ _ c.loop-at.at (omega (arith, c.loop-at-test.false)) (c.loop-at.invariant.1 below le is)
