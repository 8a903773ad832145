-- The value is that of the digits so far, up to the bound.
use Rattle.std.proofs.Common.{◌≡◌, min, take}
use Rattle.amqp_uri.specs.Uri.{decimal_value}
use Rattle.amqp_uri.proofs.uri.bounded_decimal.Given as goal

abbrev pub invariant-loop-digit : goal.invariant-loop-digit
invariant-loop-digit l = l.value ≡ min 65536 (decimal_value (take l.digit-index l.digits))
