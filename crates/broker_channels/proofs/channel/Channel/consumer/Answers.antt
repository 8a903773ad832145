use Rattle.std.proofs.Common.{◌≡◌, ◌==◌, ◌∙◌, false, ap, sym}
use Rattle.std.specs.List.{list_any}
use Rattle.std.proofs.lemmas.Bool.{false≢true}
use Rattle.std.proofs.lemmas.List.Elements.{All-push}
use Rattle.broker_channels.specs.declared.delivery.Consumer.{Consumer}
use Rattle.broker_channels.specs.Tags.{is_known}
use Rattle.broker_channels.specs.Held.{consumers_of, IsCounted}
use Rattle.broker_channels.proofs.ShareLemmas.{unknown-is, known-begun}
use Rattle.broker_channels.proofs.channel.Channel.consumer.Goals as goal

pub begin-requires-clause-unknown : goal.begin-requires-clause-unknown
begin-requires-clause-unknown c =
    unknown-is c.args.number c.self.inside.shares.entries (ap (is_known c.args.number) (c.self.view_is ∙ c.in_ok-reserve.ensures.ok) ∙ c.requires)

pub invariant_of-self : goal.invariant_of-self
invariant_of-self c =
    let ds = c.self.inside.deliveries.items in
    let es = c.self.inside.shares.entries in
    let number = c.args.number in
    let window = c.self.inside.prefetch in
    let unknown : list_any (λ (consumer : Consumer). consumer.number == number) (consumers_of es) ≡ false = ap (is_known number) (c.self.view_is ∙ c.in_ok-reserve.ensures.ok) ∙ c.requires in (
      c.self.invariant.0,
      c.self.invariant.1,
      rw c.begin.ensures (All-push (IsCounted ds) es (number, record { window = window; held = 0 }) c.self.invariant.2 (sym (c.self.invariant.4 number unknown))),
      c.self.invariant.3,
      rw c.begin.ensures (known-begun number window ds es c.self.invariant.4),
      λ reserved. absurd (false≢true reserved),
    )
