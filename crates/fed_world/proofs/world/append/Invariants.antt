use Rattle.std.proofs.Common.{◌≡◌, ◌+◌, ◌≤◌, ◌++◌, length}
use Rattle.fed_journal.specs.Sizes.{byte_count}
use Rattle.fed_journal.specs.Limits.{most_bytes}
use Rattle.fed_world.proofs.world.append.Given as goal

-- the entries so far are appended, and the others have their room
abbrev pub invariant-loop-entry : goal.invariant-loop-entry
invariant-loop-entry l = record {
  can : (goal.iterator-loop-entry).can_next l.entry-iterator;
  finite : (goal.iterator-loop-entry).is_finite l.entry-iterator;
  entries : l.journal.entries ≡ l.initial.journal.entries ++ l.yielded;
  room : length l.fn.entries.items ≤ length l.yielded + l.journal.room;
  bytes : byte_count l.journal.entries + byte_count l.entry-iterator.rest.items ≤ most_bytes;
}
