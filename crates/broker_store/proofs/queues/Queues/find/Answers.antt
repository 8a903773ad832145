use Rattle.std.proofs.Common.{sym, ap, ◌∙◌}
use Rattle.std.specs.Option.{option_map}
use Rattle.broker_store.specs.Queues.{named, queue_of, bare_queue}
use Rattle.broker_store.specs.Messages.{message_at}
use Rattle.broker_store.proofs.QueueLemmas.{lookup_named}
use Rattle.broker_store.proofs.KeyLemmas.{bare_with}
use Rattle.broker_store.proofs.queues.Queues.find.Goals as goal

pub returns : goal.returns
returns c =
    ap (option_map bare_queue) (c.get.ensures.value ∙ sym (lookup_named c.args.name.now c.self.inside.table.entries))
    ∙ bare_with (message_at c.self.inside.messages) c.args.name.now (named c.self.inside.table.entries)
    ∙ ap (λ queues. option_map bare_queue (queue_of c.args.name.now queues)) c.self.view_is
