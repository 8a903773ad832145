use Rattle.std.proofs.Common.{ap, ap₂, ◌∙◌}
use Rattle.std.specs.Option.{option_map}
use Rattle.fed_journal.specs.Row.{channel_of}
use Rattle.mini_broker.specs.Bind.{bind_refusal}
use Rattle.broker_view.specs.Reasons.{reason_of}
use Rattle.broker_view.proofs.Refusals.{bind-refusal-is}
use Rattle.broker_view.proofs.run.Run.bind_refusal.Goals as goal

pub returns : goal.returns
returns c =
    c.reason_in.ensures
    ∙ ap (option_map reason_of) (c.bind_refusal.ensures.refusal
    ∙ ap (λ k. bind_refusal k c.as_str-source.result.now c.args.binding.now.sort c.as_str-dest.result.now c.in_ok-vhost.vhost.now) c.channel_of.ensures
    ∙ ap₂ (λ s d. bind_refusal (channel_of c.args.client) s c.args.binding.now.sort d c.in_ok-vhost.vhost.now) c.as_str-source.ensures c.as_str-dest.ensures)
    ∙ bind-refusal-is c.args.self.now c.args.place.now c.in_ok-vhost.vhost.now (channel_of c.args.client) c.args.binding.now c.in_ok-vhost.ensures.view.configured
