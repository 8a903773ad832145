use Rattle.std.proofs.Common.{ℕ, sym, ap, ◌∙◌}
use Rattle.broker_store.specs.Mail.{is_held_at}
use Rattle.broker_store.specs.Messages.{message_at}
use Rattle.broker_store.specs.Queues.{Standing, named, is_held_in}
use Rattle.broker_store.proofs.QueueLemmas.{any_named}
use Rattle.broker_store.proofs.KeyLemmas.{is_held_in_with}
use Rattle.broker_store.proofs.queues.Queues.is_held_at.Goals as goal

pub returns : goal.returns
returns c =
    c.is_held_among.ensures
    ∙ any_named (λ (queue : Standing ℕ). is_held_at c.args.client c.args.number queue.mail) c.self.inside.table.entries
    ∙ sym (is_held_in_with (message_at c.self.inside.messages) c.args.client c.args.number (named c.self.inside.table.entries))
    ∙ ap (is_held_in c.args.client c.args.number) c.self.view_is
