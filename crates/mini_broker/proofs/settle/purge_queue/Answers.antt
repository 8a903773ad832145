use Rattle.std.proofs.Common.{ap, ◌∙◌, is_some}
use Rattle.broker_store.specs.Mail.{purged}
use Rattle.broker_store.specs.Queues.{with_mail, queue_of}
use Rattle.broker_store.proofs.NameLemmas.{stands_changed}
use Rattle.mini_broker.proofs.settle.purge_queue.Goals as goal

pub returns-clause-names : goal.returns-clause-names
returns-clause-names c = λ name. ap (λ queues. is_some (queue_of name queues)) c.purge.ensures.purged ∙ stands_changed name c.args.name.now (with_mail purged) c.args.queues.now
