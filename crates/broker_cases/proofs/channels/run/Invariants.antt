use Rattle.std.proofs.Common.{◌≡◌, true}
use Rattle.broker_channels.specs.Tags.{is_known}
use Rattle.broker_cases.proofs.channels.run.Given as goal

abbrev pub invariant-loop-text : goal.invariant-loop-text
invariant-loop-text b l = (is_known 1 l.channel ≡ true) × (is_known 2 l.channel ≡ true)
