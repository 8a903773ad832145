use Rattle.std.proofs.Common.{◌≡◌, true, sym, ap, ◌∙◌}
use Rattle.fed_journal.specs.Phases.{phase, is_open}
use Rattle.fed_world.proofs.Reached.{reached-caused}
use Rattle.fed_world.proofs.Targets.{published-at_target, nothing-confirmed}
use Rattle.fed_world.proofs.rows.confirm.confirm_row.Goals as goal

-- a link without a target has published nothing
pub returns-in_default-target : goal.returns-in_default-target
returns-in_default-target c =
    let live : is_open (phase c.args.run.now c.args.link.now) ≡ true = ap (λ J. is_open (phase J c.args.link.now)) (sym c.entries.ensures) ∙ sym c.if-not-is_open.ensures in
    sym (nothing-confirmed c.args.run.now c.args.link.now c.in-Some.spec (reached-caused c.args.run.now c.requires) (sym c.in_ok-spec.ensures.spec ∙ c.in-Some.is) live c.in_default-target.is)

-- and one with a target has published there alone
pub confirm_first-requires-clause-there : goal.confirm_first-requires-clause-there
confirm_first-requires-clause-there c =
    published-at_target c.args.run.now c.args.link.now c.session-session.result c.in-Some.spec c.in-Some-target.target (reached-caused c.args.run.now c.requires) (sym c.in_ok-spec.ensures.spec ∙ c.in-Some.is) c.in-Some-target.is
