use Rattle.std.proofs.Common.{sym, ap, ◌∙◌, subst}
use Rattle.broker_store.specs.Queues.{others, named}
use Rattle.broker_store.specs.Messages.{message_at, queues_with, IsCounted}
use Rattle.broker_store.proofs.QueueLemmas.{named_others}
use Rattle.broker_store.proofs.KeyLemmas.{others_with}
use Rattle.broker_store.proofs.CountLemmas.{remains_seen}
use Rattle.broker_store.proofs.queues.Queues.remove.Goals as goal

pub returns : goal.returns
returns c =
    ap (queues_with (message_at c.free_named.new.messages)) (ap named c.keep_others.ensures ∙ named_others c.args.name.now c.self.inside.table.entries)
    ∙ remains_seen c.self.inside.messages c.free_named.new.messages (others c.args.name.now (named c.self.inside.table.entries)) c.free_named.ensures
    ∙ others_with (message_at c.self.inside.messages) c.args.name.now (named c.self.inside.table.entries)
    ∙ ap (others c.args.name.now) c.self.view_is

pub invariant_of-self : goal.invariant_of-self
invariant_of-self c = subst (IsCounted c.free_named.new.messages) (sym (ap named c.keep_others.ensures ∙ named_others c.args.name.now c.self.inside.table.entries)) c.free_named.ensures.counted
