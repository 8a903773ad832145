use Rattle.fedrun_cli.proofs.ReportLemmas.{ended-report, ended-long}
use Rattle.fedrun_cli.proofs.report.report.Goals as goal

pub returns-in-Ok-clause-report : goal.returns-in-Ok-clause-report
returns-in-Ok-clause-report c = (ended-report _ c.args.events.now _ c.in-Ok.ensures.page).0

pub returns-in-Ok-clause-short : goal.returns-in-Ok-clause-short
returns-in-Ok-clause-short c = (ended-report _ c.args.events.now _ c.in-Ok.ensures.page).1

pub returns-in-Err-clause-ending : goal.returns-in-Err-clause-ending
returns-in-Err-clause-ending c = ended-long _ c.args.events.now _ c.in-Err.ensures.ending
