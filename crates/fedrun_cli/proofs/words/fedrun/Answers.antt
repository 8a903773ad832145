use Rattle.fedrun_cli.proofs.words.fedrun.Goals as goal

-- the command says so of the schedule that is asked for
pub returns-in-Some-clause-complete : goal.returns-in-Some-clause-complete
returns-in-Some-clause-complete g c = rw (← c.schedule_asked.ensures, c.in-Some.is) c.run_command.ensures.complete
