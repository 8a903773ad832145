use Rattle.std.proofs.Common.{◌∙◌}
use Rattle.broker_channels.proofs.SpanLemmas.{all-span}
use Rattle.broker_channels.proofs.tags.span.Goals as goal

pub returns-then-tag-eq0-clause-span : goal.returns-then-tag-eq0-clause-span
returns-then-tag-eq0-clause-span c =
    all-span c.args.tag c.args.multiple c.args.deliveries.now.items c.len.result c.if-tag-eq0.true c.if-multiple.true (c.len.ensures ∙ c.args.deliveries.now.ok.0)
