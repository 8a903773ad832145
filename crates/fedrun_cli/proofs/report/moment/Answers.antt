use Rattle.fed_world.specs.Limits.{limit_passed}
use Rattle.fed_world.specs.Step.{next}
use Rattle.fedrun_cli.proofs.report.moment.Goals as goal

-- the step says which limit is passed
pub returns-in-Err-clause-limit : goal.returns-in-Err-clause-limit
returns-in-Err-clause-limit c =
    c.halted.ensures (limit_passed c.args.world.now (next c.args.world.now c.args.event.now)) c.in-Err.ensures.limit
