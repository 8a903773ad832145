use Rattle.std.proofs.Common.{◌≡◌, ℕ, ◌+◌, ◌-◌, List, take, drop, refl, ap, ◌∙◌, arith}
use Rattle.std.proofs.lemmas.List.{drop-drop}
use Rattle.amqp_frames.specs.declared.frame.Frame.{Frame}
use Rattle.amqp_frames.proofs.cut.frame_at.Goals as goal

pub returns : goal.returns
returns c =
    let block = c.args.block.now in
    let used = c.args.used in
    let size = c.args.head.size in
    let width : used + 7 + size - (used + 7) ≡ size = omega arith in
    let payload : c.in_ok-payload.payload ≡ take size (drop 7 (drop used block)) =
    c.in_ok-payload.ensures.ok ∙ rw (width, drop-drop 7 used block) refl in
    let made : List ℕ → Frame = λ p. record { kind = c.args.head.kind; channel = c.args.head.channel; payload = p } in
    ap made payload
