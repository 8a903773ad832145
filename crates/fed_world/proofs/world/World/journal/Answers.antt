use Rattle.std.proofs.Common.{subst}
use Rattle.fed_world.specs.Kept.{RemovesMoved, RemovesHeld}
use Rattle.fed_world.proofs.Reached.{reached-moved, reached-held}
use Rattle.fed_world.proofs.world.World.journal.Goals as goal

pub returns-clause-moved : goal.returns-clause-moved
returns-clause-moved c = subst RemovesMoved c.self.view_is (reached-moved _ c.self.invariant.1)

pub returns-clause-held : goal.returns-clause-held
returns-clause-held c = subst RemovesHeld c.self.view_is (reached-held _ c.self.invariant.1)
