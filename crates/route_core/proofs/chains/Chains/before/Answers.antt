use Rattle.std.proofs.Common.{sym, rules, arith}
use Rattle.route_core.proofs.ChainLemmas.{seek_before}
use Rattle.route_core.proofs.chains.Chains.before.Goals as goal

pub returns : goal.returns
returns c =
    rw (← c.self.view_is) (seek_before c.self.inside.codes.items c.self.inside.before.items c.self.inside.heads.items c.deref.result.now c.deref-3.result.now _ _ c.args.place _ _ _ c.deref.ensures.value (sym c.deref-3.ensures.len) c.self.invariant.linked (omega (arith, rw (← c.self.view_is) at c.requires)) (search rules) (search rules) (search rules) (search rules) c.seek.ensures)
