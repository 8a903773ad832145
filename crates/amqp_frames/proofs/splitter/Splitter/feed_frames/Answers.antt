use Rattle.std.proofs.Common.{◌≡◌, ◌++◌, ap, ◌∙◌}
use Rattle.amqp_frames.specs.Streams.{Progress}
use Rattle.amqp_frames.proofs.StreamLemmas.{settled, frames_on, advances_same, live_frames}
use Rattle.amqp_frames.proofs.splitter.Splitter.feed_frames.Goals as goal

-- what was held and the piece begin with the frames that are appended
pub returns-in-Ok : goal.returns-in-Ok
returns-in-Ok c =
    let ok = c.in-Ok.ensures.ok in
    let old = c.args.self.now in
    let piece = c.args.piece.now in
    let reached = c.in-Ok.reached in
    let at : c.self.inside.at ≡ old.at = ap (λ (p : Progress). p.at) c.self.view_is in
    let octets : c.deref-2.result.now ≡ old.held ++ piece =
    c.deref-2.ensures.value ∙ c.in_ok-extend_from_slice.ensures.items ∙ ap (λ (p : Progress). p.held ++ piece) c.self.view_is in
    let all = advances_same c.self.inside.at old.at c.deref-2.result.now (old.held ++ piece) ok.0 reached.rest.items reached.at reached.fault ok.2 at octets in (
      ok.0,
      ok.1,
      settled old c.settle.new.self piece ok.0 reached.rest.items reached.at reached.fault c.settle.result (live_frames old.stage c.requires)
          (frames_on old piece ok.0 reached.rest.items reached.at reached.fault c.requires all) ok.2.end c.settle.ensures,
    )
