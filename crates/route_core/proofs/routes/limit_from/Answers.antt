use Rattle.std.proofs.Common.{◌≤◌, arith}
use Rattle.route_core.proofs.RouteLemmas.{from_none, from_zero}
use Rattle.route_core.proofs.routes.limit_from.Goals as goal
use Rattle.route_core.proofs.routes.limit_from.Goals.{else-limit-gt0-via-then-limit-gt0+else-lets_on, else-limit-gt0-via-else-limit-gt0}

pub returns-else-limit-gt0 : goal.returns-else-limit-gt0
returns-else-limit-gt0 c = elim c.else-limit-gt0.branch [
  | else-limit-gt0-via-then-limit-gt0+else-lets_on w ↦ from_none _ _ _ _ (w.lets_on.ensures.no w.if-lets_on.false)
  | else-limit-gt0-via-else-limit-gt0 w ↦
      let zero : c.gate_limit-limit.result ≤ 0 = omega (arith, w.if-limit-gt0.false) in
      from_zero _ _ _ _ _ zero c.gate_limit-limit.ensures.greatest
]
