use Rattle.std.proofs.Common.{sym, subst, ap, ◌∙◌}
use Rattle.fed_world.specs.RowOf.{row_of}
use Rattle.fed_world.specs.Kept.{LeavesStored, RemovesMoved, RemovesHeld}
use Rattle.fed_world.specs.Run.{IsReached}
use Rattle.fed_world.proofs.Reached.{reached-moved, reached-held, extended-reached, extended-leaves_stored, same-leaves_stored}
use Rattle.fed_world.proofs.world.World.step.Goals as goal
use Rattle.fed_world.proofs.world.World.step.Goals.{in-Ok, in-Err-extend}

pub invariant_of-self : goal.invariant_of-self
invariant_of-self c = (
  c.extend.ensures.sound,
  elim c.match-extend.branch [
    | in-Ok w ↦ extended-reached _ _ _ c.args.event.now c.self.invariant.1 (sym (ap row_of c.in-Ok-Ok.field-0-is) ∙ c.in-Ok-Ok.ensures.row) w.in-Ok.ensures.ok
    | in-Err-extend w ↦ subst IsReached (sym w.in-Err-extend.ensures.err) c.self.invariant.1
  ],
  c.extend.ensures.followed,
)

pub returns-in_default-clause-moved : goal.returns-in_default-clause-moved
returns-in_default-clause-moved c = subst RemovesMoved c.self.view_is (reached-moved _ c.self.invariant.1)

pub returns-in_default-clause-held : goal.returns-in_default-clause-held
returns-in_default-clause-held c = subst RemovesHeld c.self.view_is (reached-held _ c.self.invariant.1)

pub returns-in-Err-clause-moved : goal.returns-in-Err-clause-moved
returns-in-Err-clause-moved c = subst RemovesMoved c.self.view_is (reached-moved _ c.self.invariant.1)

pub returns-in-Err-clause-held : goal.returns-in-Err-clause-held
returns-in-Err-clause-held c = subst RemovesHeld c.self.view_is (reached-held _ c.self.invariant.1)

pub returns-in-Ok-Err-clause-moved : goal.returns-in-Ok-Err-clause-moved
returns-in-Ok-Err-clause-moved c = subst RemovesMoved c.self.view_is (reached-moved _ c.self.invariant.1)

pub returns-in-Ok-Err-clause-held : goal.returns-in-Ok-Err-clause-held
returns-in-Ok-Err-clause-held c = subst RemovesHeld c.self.view_is (reached-held _ c.self.invariant.1)

pub returns-after-extend-clause-stored : goal.returns-after-extend-clause-stored
returns-after-extend-clause-stored c = subst (λ J. LeavesStored J c.args.event.now c.extend.new.journal.entries) c.self.view_is (elim c.match-extend.branch [
  | in-Ok w ↦ extended-leaves_stored _ _ _ c.args.event.now c.self.invariant.1 (sym (ap row_of c.in-Ok-Ok.field-0-is) ∙ c.in-Ok-Ok.ensures.row) w.in-Ok.ensures.ok
  | in-Err-extend w ↦ same-leaves_stored _ _ c.args.event.now w.in-Err-extend.ensures.err
])

pub returns-after-extend-clause-moved : goal.returns-after-extend-clause-moved
returns-after-extend-clause-moved c = reached-moved _ (elim c.match-extend.branch [
  | in-Ok w ↦ extended-reached _ _ _ c.args.event.now c.self.invariant.1 (sym (ap row_of c.in-Ok-Ok.field-0-is) ∙ c.in-Ok-Ok.ensures.row) w.in-Ok.ensures.ok
  | in-Err-extend w ↦ subst IsReached (sym w.in-Err-extend.ensures.err) c.self.invariant.1
])

pub returns-after-extend-clause-held : goal.returns-after-extend-clause-held
returns-after-extend-clause-held c = reached-held _ (elim c.match-extend.branch [
  | in-Ok w ↦ extended-reached _ _ _ c.args.event.now c.self.invariant.1 (sym (ap row_of c.in-Ok-Ok.field-0-is) ∙ c.in-Ok-Ok.ensures.row) w.in-Ok.ensures.ok
  | in-Err-extend w ↦ subst IsReached (sym w.in-Err-extend.ensures.err) c.self.invariant.1
])
