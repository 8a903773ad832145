use Rattle.std.proofs.Common.{subst}
use Rattle.std.specs.Prelude.{IfSome}
use Rattle.fed_world.specs.Ends.{HasEnds}
use Rattle.fed_world.proofs.Ends.{link-ends}
use Rattle.fed_world.proofs.row.link_of.Goals as goal

-- the journal has the link
pub returns-clause-ends : goal.returns-clause-ends
returns-clause-ends c = subst (λ J. IfSome c.in_ok-spec.spec (HasEnds J)) c.entries.ensures (link-ends c.entries.result.now c.args.link.now c.in_ok-spec.spec c.in_ok-spec.ensures)
