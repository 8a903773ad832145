use Rattle.std.proofs.Common.{arith, ◌∙◌, length, ◌<◌}
use Rattle.std.proofs.lemmas.Grind.{common_steps}
use Rattle.std.proofs.lemmas.Bool.Decides.{nat_tests}
use Rattle.amqp_uri.proofs.EscapeLemmas.{bad_escape_more}
use Rattle.amqp_uri.proofs.escape.bad_escape.Goals as goal
use Rattle.amqp_uri.proofs.escape.bad_escape.Goals.{else-byte-eq37-via-then-byte-eq37+else-not-begin_with_digits, else-byte-eq37-via-else-byte-eq37}

pub loop-i-preserved : goal.loop-i-preserved
loop-i-preserved c =
    let part = c.args.part.now in
    let within : c.loop-i.i < length part = omega arith in
    elim c.else-byte-eq37.branch [
      | else-byte-eq37-via-then-byte-eq37+else-not-begin_with_digits w ↦
          bad_escape_more c.args.place c.loop-i.i part within (grind (arith, common_steps, nat_tests)) ∙ c.loop-i.invariant
      | else-byte-eq37-via-else-byte-eq37 w ↦
          bad_escape_more c.args.place c.loop-i.i part within (grind (arith, common_steps, nat_tests)) ∙ c.loop-i.invariant
    ]
