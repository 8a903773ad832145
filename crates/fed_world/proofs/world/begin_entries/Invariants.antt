use Rattle.std.proofs.Common.{◌≡◌, take}
use Rattle.std.specs.Prelude.{map}
use Rattle.fed_world.specs.Run.{begun}
use Rattle.fed_world.proofs.world.begin_entries.Given as goal

-- the entries of the brokers so far
abbrev pub invariant-loop-broker : goal.invariant-loop-broker
invariant-loop-broker l = l.entries.items ≡ map begun (take l.broker-index l.brokers)
