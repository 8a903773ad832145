use Rattle.std.proofs.Common.{false, ap, ◌∙◌}
use Rattle.mini_broker.specs.Deliver.{handed_over}
use Rattle.mini_broker.proofs.deliver.give_to.Goals as goal

pub returns-clause-given : goal.returns-clause-given
returns-clause-given c =
    c.hand_over.ensures.given
    ∙ ap (λ n. handed_over c.args.name.now c.in-Ok.delivered.copy (record { link = false; number = n; part = c.args.part }) c.args.no_ack c.args.queues.now) c.in-Ok-number.ensures
