use Rattle.std.proofs.Common.{◌∙◌}
use Rattle.std.specs.Prelude.{nat_eq}
use Rattle.indexmap.proofs.CallerLemmas.{insert_entry-new}
use Rattle.broker_channels.proofs.shares.begin.Goals as goal

pub returns : goal.returns
returns c = c.in-Ok.ensures.entries ∙ insert_entry-new nat_eq c.args.shares.now c.args.number (record { window = c.args.window; held = 0 }) c.requires.unknown
