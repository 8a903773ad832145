use Rattle.std.proofs.Common.{sym, rules}
use Rattle.route_core.proofs.ChainLemmas.{seek_last}
use Rattle.route_core.proofs.chains.Chains.last.Goals as goal

pub returns : goal.returns
returns c =
    rw (← c.self.view_is) (seek_last c.self.inside.codes.items c.self.inside.before.items c.self.inside.heads.items c.deref.result.now c.deref-3.result.now _ _ _ c.bucket_of-bucket.result _ _ c.deref.ensures.value (sym c.deref-3.ensures.len) c.self.invariant.linked (search rules) (search rules) (search rules) (search rules) (search rules) c.seek.ensures)
