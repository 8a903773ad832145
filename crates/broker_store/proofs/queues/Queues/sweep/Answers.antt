use Rattle.std.proofs.Common.{ap, ◌∙◌}
use Rattle.broker_store.specs.Mail.{swept}
use Rattle.broker_store.specs.Messages.{message_at, queues_with}
use Rattle.broker_store.specs.Queues.{named, with_mail, all_changed}
use Rattle.broker_store.proofs.QueueLemmas.{named_swept}
use Rattle.broker_store.proofs.KeyLemmas.{queues_all_changed, mail_swept}
use Rattle.broker_store.proofs.CountLemmas.{remains_seen}
use Rattle.broker_store.proofs.queues.Queues.sweep.Goals as goal

pub returns : goal.returns
returns c =
    remains_seen c.self.inside.messages c.sweep_table.new.messages (named c.sweep_table.new.table.entries) c.sweep_table.ensures.remains
    ∙ ap (λ es. queues_with (message_at c.self.inside.messages) (named es)) c.sweep_table.ensures.swept
    ∙ ap (queues_with (message_at c.self.inside.messages)) (named_swept (with_mail (swept c.args.sweep)) c.self.inside.table.entries)
    ∙ queues_all_changed (message_at c.self.inside.messages) (swept c.args.sweep) (swept c.args.sweep) (mail_swept (message_at c.self.inside.messages) c.args.sweep) (named c.self.inside.table.entries)
    ∙ ap (all_changed (with_mail (swept c.args.sweep))) c.self.view_is
