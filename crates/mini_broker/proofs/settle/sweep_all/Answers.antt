use Rattle.std.proofs.Common.{ap, ◌∙◌, is_some}
use Rattle.broker_store.specs.Mail.{swept}
use Rattle.broker_store.specs.Queues.{with_mail, queue_of}
use Rattle.broker_store.proofs.NameLemmas.{stands_mapped}
use Rattle.mini_broker.proofs.settle.sweep_all.Goals as goal

pub returns-clause-names : goal.returns-clause-names
returns-clause-names c = λ name. ap (λ queues. is_some (queue_of name queues)) c.sweep.ensures ∙ stands_mapped name (with_mail (swept c.args.sweep)) c.args.queues.now
