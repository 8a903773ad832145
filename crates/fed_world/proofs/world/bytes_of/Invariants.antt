use Rattle.std.proofs.Common.{◌≡◌, ◌*◌, ◌^◌, ◌≤◌, take}
use Rattle.fed_journal.specs.Sizes.{byte_count}
use Rattle.fed_world.proofs.world.bytes_of.Given as goal

-- the octets of the entries so far
abbrev pub invariant-loop-entry : goal.invariant-loop-entry
invariant-loop-entry l = record {
  sum : l.bytes ≡ byte_count (take l.entry-index l.entries);
  most : l.bytes ≤ l.entry-index * 2 ^ 34;
}
