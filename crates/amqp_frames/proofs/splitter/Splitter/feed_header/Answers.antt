use Rattle.std.proofs.Common.{◌≡◌, ◌+◌, ◌-◌, length, [], refl, take, ap, sym, drop}
use Rattle.std.proofs.lemmas.List.{append-nil}
use Rattle.amqp_frames.specs.Streams.{Progress}
use Rattle.amqp_frames.specs.declared.stage.Stage.TheVariants as stage
use Rattle.amqp_frames.proofs.CutLemmas.{tail_whole}
use Rattle.amqp_frames.proofs.StreamLemmas.{settled, header_on, header_more, header_fault, advances_same, live_header}
use Rattle.amqp_frames.proofs.splitter.Splitter.feed_header.Goals as goal

pub returns-in-None : goal.returns-in-None
returns-in-None c =
    let old = c.args.self.now in (
      [],
      sym (append-nil c.args.frames.now.items),
      (
        header_fault old c.args.came c.args.piece.now c.requires.stage c.requires.came c.in-None.ensures.none,
        live_header old.stage c.args.came c.requires.stage,
        c.fail.ensures,
      ),
    )

pub returns-then-came-count-lt8 : goal.returns-then-came-count-lt8
returns-then-came-count-lt8 c =
    let old = c.args.self.now in
    let count = c.in-Some.count in
    let at : c.self.inside.at ≡ old.at = ap (λ (p : Progress). p.at) c.self.view_is in
    let held : c.self.inside.held.items ≡ old.held = ap (λ (p : Progress). p.held) c.self.view_is in (
      [],
      sym (append-nil c.args.frames.now.items),
      (
        header_more old c.args.came count c.self.inside.at c.args.piece.now c.self.inside.held.items c.requires.stage c.in-Some.ensures.count
            c.in-Some.ensures.some c.if-came-count-lt8.true at held,
        live_header old.stage c.args.came c.requires.stage,
        live_header (stage.Header (c.args.came + count)) (c.args.came + count) refl,
      ),
    )

pub returns-in-Ok : goal.returns-in-Ok
returns-in-Ok c =
    let old = c.args.self.now in
    let piece = c.args.piece.now in
    let count = c.in-Some.count in
    let ok = c.in-Ok.ensures.ok in
    let reached = c.in-Ok.reached in
    let behind = advances_same 8 8 (take (length piece - count) (drop count piece)) (drop count piece) ok.0 reached.rest.items reached.at reached.fault ok.2 refl
    (tail_whole count piece) in (
      ok.0,
      ok.1,
      settled old c.settle.new.self piece ok.0 reached.rest.items reached.at reached.fault c.settle.result
          (live_header old.stage c.args.came c.requires.stage)
          (header_on old c.args.came count piece ok.0 reached.rest.items reached.at reached.fault c.requires.stage c.requires.came c.in-Some.ensures.count
          c.in-Some.ensures.some c.if-came-count-lt8.false behind) ok.2.end c.settle.ensures,
    )
