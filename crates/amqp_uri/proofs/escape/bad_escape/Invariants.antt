-- What is found behind the bytes that were passed is what is found in all.
use Rattle.std.proofs.Common.{◌≡◌, ◌+◌, drop}
use Rattle.amqp_uri.specs.Uri.{bad_escape}
use Rattle.amqp_uri.proofs.escape.bad_escape.Given as goal

abbrev pub invariant-loop-i : goal.invariant-loop-i
invariant-loop-i l = bad_escape (l.place + l.i) (drop l.i l.part) ≡ bad_escape l.place l.part
