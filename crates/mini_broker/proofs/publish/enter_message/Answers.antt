use Rattle.std.proofs.Common.{ap, ◌∙◌, is_some}
use Rattle.broker_store.specs.Queues.{queue_of}
use Rattle.mini_broker.proofs.PublishLemmas.{entered_names}
use Rattle.mini_broker.proofs.publish.enter_message.Goals as goal

pub returns-in-Ok-clause-names : goal.returns-in-Ok-clause-names
returns-in-Ok-clause-names c = λ name.
    ap (λ queues. is_some (queue_of name queues)) c.in-Ok.ensures.ok ∙ entered_names c.args.names.now c.args.number c.args.message c.args.queues.now name
