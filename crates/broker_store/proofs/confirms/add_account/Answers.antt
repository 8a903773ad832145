use Rattle.std.proofs.Common.{arith}
use Rattle.broker_store.proofs.ConfirmLemmas.{opened_new}
use Rattle.broker_store.proofs.confirms.add_account.Goals as goal

pub returns-clause-ok : goal.returns-clause-ok
returns-clause-ok c = grind (arith, opened_new c.args.link.now c.args.session c.args.number c.args.waits.now c.args.accounts.now.items c.requires)
