use Rattle.fedrun_cli.proofs.CompleteLemmas.{ends-complete}
use Rattle.fedrun_cli.proofs.command.run_command.Goals as goal

pub returns-clause-complete : goal.returns-clause-complete
returns-clause-complete g c = ends-complete _ _ _ _ c.run_to_end.ensures
