use Rattle.std.proofs.Common.{cond}
use Rattle.std.proofs.lemmas.List.Edits.{map_over_more}
use Rattle.confirm_core.specs.Waits.{without}
use Rattle.broker_store.specs.declared.account.Account.{Account}
use Rattle.broker_store.specs.Confirms.{is_of, with_ledger}
use Rattle.broker_store.proofs.confirms.answer.Goals as goal

pub loop-account-preserved : goal.loop-account-preserved
loop-account-preserved c =
    rw (c.answered.ensures, ← c.account-item.is)
    (map_over_more (λ (account : Account). cond (is_of c.args.link.now c.args.session account) (with_ledger (without c.args.number) account) account)
    _ _ _ c.account-item.result c.loop-account-test.true c.loop-account.invariant c.account-item.is)
