use Rattle.std.proofs.Common.{◌≡◌, ◌+◌, ◌≤◌, ◌++◌, take}
use Rattle.std.specs.Prelude.{sum_by}
use Rattle.fed_world.specs.Limits.{links_begun}
use Rattle.fed_journal.specs.Limits.{most_links}
use Rattle.fed_world.proofs.limits.with_links_in.Given as goal

-- the links of the brokers so far
abbrev pub invariant-loop-entry : goal.invariant-loop-entry
invariant-loop-entry l = record {
  all : l.all ≡ l.count + sum_by (links_begun (l.before ++ l.entries)) (take l.entry-index l.part);
  few : l.all ≤ most_links;
}
