use Rattle.std.proofs.Common.{◌≡◌, ◌∙◌, ◌≤◌, not, sym, arith}
use Rattle.std.proofs.lemmas.List.Elements.{All-filter}
use Rattle.broker_channels.specs.declared.delivery.Delivery.{Delivery}
use Rattle.broker_channels.specs.Tags.{unsettled, is_settled}
use Rattle.broker_channels.proofs.TagLemmas.{Rises-filter}
use Rattle.broker_channels.proofs.ShareLemmas.{known-kept}
use Rattle.broker_channels.proofs.channel.Channel.settle.Goals as goal

pub invariant_of-self : goal.invariant_of-self
invariant_of-self c =
    let ds = c.self.inside.deliveries.items in
    let stays = λ (delivery : Delivery). not (is_settled c.args.tag c.args.multiple delivery) in
    let is : c.take_out.new.deliveries.items ≡ unsettled c.args.tag c.args.multiple ds = c.take_out.ensures.stay ∙ sym c.in-Some.ensures.span.stays in (
      rw is (Rises-filter stays ds c.self.invariant.0),
      rw is (All-filter stays (λ (delivery : Delivery). delivery.tag ≤ c.self.inside.last_tag) ds c.self.invariant.1),
      c.take_out.ensures.counted,
      c.take_out.ensures.pushed,
      rw (is, c.take_out.ensures.consumers) (known-kept stays ds _ c.self.invariant.4),
      λ reserved. let old = c.self.invariant.5 reserved in (old.0, omega arith, omega arith),
    )
