use Rattle.std.proofs.Common.{◌≡◌, ◌+◌, ◌≤◌, [], Some, drop}
use Rattle.std.specs.Prelude.{sum_by}
use Rattle.fed_world.specs.Run.{run}
use Rattle.fedrun_cli.specs.Report.{told_run, done_at, last_journal, first_limit}
use Rattle.fedrun_cli.proofs.report.run_events.Given as goal

-- what is left of the run completes the output, the journal and the count, and passes the limits that the run passes
abbrev pub invariant-loop-line : goal.invariant-loop-line
invariant-loop-line l = record {
  output : told_run l.output (run l.world (drop l.line-index l.events)) ≡ told_run (Some []) (run l.fn.world l.events);
  world : last_journal l.world (run l.world (drop l.line-index l.events)) ≡ last_journal l.fn.world (run l.fn.world l.events);
  done : l.done + sum_by done_at (run l.world (drop l.line-index l.events)) ≡ sum_by done_at (run l.fn.world l.events);
  few : l.done ≤ l.line-index;
  limit : first_limit (run l.world (drop l.line-index l.events)) l.world ≡ first_limit (run l.fn.world l.events) l.fn.world;
}
