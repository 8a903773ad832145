use Rattle.fed_schedule.specs.Schedule.{state_of}
use Rattle.fed_schedule.proofs.Writable.{judged_writable}
use Rattle.fed_schedule.proofs.schedule.statement_at.Goals as goal

pub returns-in-Ok-clause-writable : goal.returns-in-Ok-clause-writable
returns-in-Ok-clause-writable c = rw c.in-Ok.ensures (judged_writable (state_of c.args.script.now c.args.shovels.now.keys) c.args.words.now c.requires)
