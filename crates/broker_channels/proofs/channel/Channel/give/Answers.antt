use Rattle.std.proofs.Common.{◌≡◌, ◌==◌, ◌∙◌, ℕ, ◌+◌, true, cond, refl, ap, sym}
use Rattle.std.specs.Prelude.{IfSome, is_some}
use Rattle.std.specs.List.{list_any}
use Rattle.std.proofs.lemmas.Bool.{false≢true}
use Rattle.std.proofs.lemmas.List.Sums.{sum_by_push}
use Rattle.broker_channels.specs.declared.delivery.Consumer.{Consumer}
use Rattle.broker_channels.specs.declared.delivery.Delivery.{Delivery}
use Rattle.broker_channels.specs.Tags.{Deliveries, with_delivery, is_pushed}
use Rattle.broker_channels.specs.Held.{consumers_of}
use Rattle.broker_channels.proofs.TagLemmas.{Rises-push, within-push}
use Rattle.broker_channels.proofs.ShareLemmas.{counted-more, consumers-more, known-given}
use Rattle.broker_channels.proofs.channel.Channel.give.Goals as goal

pub returns-clause-ok : goal.returns-clause-ok
returns-clause-ok c =
    rw (c.push_back_reserved.ensures.items, c.count_in.ensures.shares, consumers-more c.args.consumer c.self.inside.shares.entries) (ap (with_delivery c.args.copy c.args.consumer) (c.self.view_is ∙ c.in_ok-reserve.ensures.ok))

pub invariant_of-self : goal.invariant_of-self
invariant_of-self c =
    let ds = c.self.inside.deliveries.items in
    let es = c.self.inside.shares.entries in
    let last = c.self.inside.last_tag in
    let d : Delivery = record { tag = last + 1; copy = c.args.copy; consumer = c.args.consumer } in
    let consumers : consumers_of es ≡ c.args.self.now.consumers = ap (λ (channel : Deliveries). channel.consumers) (c.self.view_is ∙ c.in_ok-reserve.ensures.ok) in
    let known : IfSome c.args.consumer (λ number. list_any (λ (consumer : Consumer). consumer.number == number) (consumers_of es) ≡ true) = rw consumers c.requires in
    rw (c.push_back_reserved.ensures.items, c.count_in.ensures.shares) (
      Rises-push ds last d c.self.invariant.0 c.self.invariant.1 refl,
      within-push ds last d c.self.invariant.1 refl,
      counted-more ds d es c.self.invariant.2,
      c.count_in.ensures.pushed ∙ ap {B = ℕ} (λ n. n + cond (is_some c.args.consumer) 1 0) c.self.invariant.3 ∙ sym (sum_by_push (λ x. cond (is_pushed x) 1 0) ds d),
      rw (consumers-more c.args.consumer es) (known-given ds d (consumers_of es) known c.self.invariant.4),
      λ reserved. absurd (false≢true reserved),
    )
