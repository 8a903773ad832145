use Rattle.std.proofs.Common.{◌∙◌, sym}
use Rattle.broker_channels.proofs.SpanLemmas.{outstanding-given, outstanding-none, none-given, there-given, up_to-span, one-span}
use Rattle.broker_channels.proofs.tags.given_span.Goals as goal

pub returns-then-not-is_at-clause-none : goal.returns-then-not-is_at-clause-none
returns-then-not-is_at-clause-none c =
    let ds = c.args.deliveries.now.items in
    let first = c.first_from-place.ensures in
    outstanding-none c.args.tag c.args.multiple ds c.requires.given (none-given c.args.tag ds c.first_from-place.result c.requires.rises first.below first.from first.bound (sym c.is_at.ensures ∙ c.if-not-is_at.true))

pub returns-then-multiple-clause-outstanding : goal.returns-then-multiple-clause-outstanding
returns-then-multiple-clause-outstanding c =
    outstanding-given c.args.tag c.args.multiple c.args.deliveries.now.items (there-given c.args.tag c.args.deliveries.now.items c.first_from-place.result (sym c.is_at.ensures ∙ c.if-not-is_at.false))

pub returns-then-multiple-clause-span : goal.returns-then-multiple-clause-span
returns-then-multiple-clause-span c =
    up_to-span c.args.tag c.args.multiple c.args.deliveries.now.items c.first_from-place.result c.requires.rises c.if-multiple.true c.requires.given (sym c.is_at.ensures ∙ c.if-not-is_at.false)

pub returns-else-multiple-clause-outstanding : goal.returns-else-multiple-clause-outstanding
returns-else-multiple-clause-outstanding c =
    outstanding-given c.args.tag c.args.multiple c.args.deliveries.now.items (there-given c.args.tag c.args.deliveries.now.items c.first_from-place.result (sym c.is_at.ensures ∙ c.if-not-is_at.false))

pub returns-else-multiple-clause-span : goal.returns-else-multiple-clause-span
returns-else-multiple-clause-span c =
    one-span c.args.tag c.args.multiple c.args.deliveries.now.items c.first_from-place.result c.requires.rises c.if-multiple.false (sym c.is_at.ensures ∙ c.if-not-is_at.false)
