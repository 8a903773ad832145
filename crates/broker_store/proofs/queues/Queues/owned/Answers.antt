use Rattle.std.proofs.Common.{sym, ap, ◌∙◌, subst}
use Rattle.broker_store.specs.Queues.{owned_names, StandInTurn, named}
use Rattle.broker_store.specs.Messages.{message_at}
use Rattle.broker_store.proofs.KeyLemmas.{owned_with, turn_with}
use Rattle.broker_store.proofs.TableLemmas.{if_ok}
use Rattle.broker_store.proofs.queues.Queues.owned.Goals as goal

pub returns-clause-names : goal.returns-clause-names
returns-clause-names c =
    if_ok c.owned_among.result (λ names is.
    is
    ∙ sym (owned_with (message_at c.self.inside.messages) c.args.connection (named c.self.inside.table.entries))
    ∙ ap (owned_names c.args.connection) c.self.view_is) c.owned_among.ensures.names

pub returns-clause-standing : goal.returns-clause-standing
returns-clause-standing c =
    if_ok c.owned_among.result (λ names stand. subst (StandInTurn names.items) c.self.view_is (turn_with (message_at c.self.inside.messages) names.items (named c.self.inside.table.entries) stand)) c.owned_among.ensures.standing
