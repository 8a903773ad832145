use Rattle.std.specs.Prelude.{vec_len}
use Rattle.route_core.specs.Chains.{IsLinked}
use Rattle.route_core.proofs.chains.link_all.Given as goal

abbrev pub invariant-loop-place : goal.invariant-loop-place
invariant-loop-place l = IsLinked (vec_len l.heads) l.codes l.before.items l.heads.items l.place
