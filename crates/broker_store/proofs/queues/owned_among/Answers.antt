use Rattle.std.proofs.Common.{◌≡◌, sym, subst, arith}
use Rattle.std.proofs.lemmas.Grind.{common_steps}
use Rattle.broker_store.specs.Queues.{owned_names, StandInTurn, named}
use Rattle.broker_store.proofs.OwnedLemmas.{owned_stand}
use Rattle.broker_store.proofs.queues.owned_among.Goals as goal

pub returns-clause-standing : goal.returns-clause-standing
returns-clause-standing c =
    let all : c.loop-name.names.items ≡ owned_names c.args.connection (named c.args.table.now.entries) = grind (arith, common_steps) in
    subst (λ names. StandInTurn names (named c.args.table.now.entries)) (sym all) (owned_stand c.args.connection c.args.table.now.entries c.iter-name-items.ensures.unique)
