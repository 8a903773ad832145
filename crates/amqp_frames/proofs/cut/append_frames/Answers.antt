use Rattle.std.proofs.Common.{◌∙◌}
use Rattle.amqp_frames.proofs.CutLemmas.{advances, tail_whole}
use Rattle.amqp_frames.proofs.cut.append_frames.Goals as goal

-- the frames that were cut are those that are appended
pub returns-clause-ok : goal.returns-clause-ok
returns-clause-ok c =
    let octets = c.args.octets.now in
    let cut = c.in_ok-cut.cut in (
      cut.frames.items,
      c.in_ok-append.ensures.items,
      advances c.args.at octets cut.frames.items cut.used cut.fault c.in_ok-rest.rest.items c.saturating_add.result c.in_ok-cut.ensures
          (c.in_ok-rest.ensures.items ∙ tail_whole cut.used octets) c.saturating_add.ensures,
    )
