use Rattle.std.proofs.Common.{◌≡◌, ◌++◌, ◌∷◌, [], List, ℕ, drop, subst, ap, ◌∙◌}
use Rattle.amqp_frames.specs.declared.frame.Frame.{Frame}
use Rattle.amqp_frames.specs.Cuts.{frame_of, BeginsWith}
use Rattle.amqp_frames.proofs.CutLemmas.{spells_more, tail_whole}
use Rattle.amqp_frames.proofs.cut.cut_frames.Goals as goal

-- the frame that is pushed is the next one
pub loop-head-preserved : goal.loop-head-preserved
loop-head-preserved c =
    let octets = c.args.octets.now in
    let used = c.loop-head.used in
    let head = c.in-Whole.head in
    let frame : c.in_ok-frame_at-in-Whole.field-0 ≡ frame_of head (drop used octets) =
    c.in_ok-frame_at-in-Whole.ensures ∙ ap (λ (b : List ℕ). frame_of head (drop used b)) c.in_ok-block.ensures in
    let items : c.push.new.self.items ≡ c.loop-head.frames.items ++ frame_of head (drop used octets) ∷ [] =
    c.in_ok-push-in-Whole.ensures.items ∙ ap (λ (f : Frame). c.loop-head.frames.items ++ f ∷ []) frame in
    let begins : BeginsWith head (drop used octets) = subst (λ (t : List ℕ). BeginsWith head t) (tail_whole used octets) c.in-Whole.ensures in
    rw items (spells_more octets c.loop-head.frames.items used head c.loop-head.invariant begins)
