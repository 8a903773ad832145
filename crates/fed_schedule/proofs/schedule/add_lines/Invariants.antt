use Rattle.std.proofs.Common.{◌≡◌, ◌+◌, drop}
use Rattle.std.specs.Prelude.{Ok}
use Rattle.fed_schedule.specs.Schedule.{AreWritable, with_lines, state_of}
use Rattle.fed_schedule.proofs.schedule.add_lines.Given as goal

-- the rest of the lines decides
abbrev pub invariant-loop-index : goal.invariant-loop-index
invariant-loop-index l = record {
  rest : with_lines (l.index + 1) (Ok (state_of l.script l.shovels.keys)) (drop l.index l.lines) ≡ with_lines 1 (Ok (state_of l.fn.script l.fn.shovels.keys)) l.fn.lines;
  named : l.names.keys ≡ l.script.brokers.items;
  writable : AreWritable l.script.events.items;
}
