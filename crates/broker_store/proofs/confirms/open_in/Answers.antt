use Rattle.std.proofs.Common.{[], ◌∷◌, ◌++◌, cond, arith}
use Rattle.std.proofs.lemmas.List.{set-get_or}
use Rattle.std.proofs.lemmas.List.Edits.{map_over_more}
use Rattle.broker_store.specs.declared.account.Account.{Account}
use Rattle.broker_store.specs.Confirms.{is_of, with_ledger}
use Rattle.broker_store.proofs.ConfirmLemmas.{after_error}
use Rattle.broker_store.proofs.QueueLemmas.{always_err}
use Rattle.broker_store.proofs.confirms.open_in.Goals as goal

pub loop-account-preserved : goal.loop-account-preserved
loop-account-preserved c =
    rw (c.in_ok-open.ensures.ok, ← c.account-item.is)
    (map_over_more (λ (account : Account). cond (is_of c.args.link.now c.args.session account) (with_ledger (λ ledger. ledger ++ record { number = c.args.number; waits = c.args.waits.now } ∷ []) account) account)
    _ _ _ c.account-item.result c.loop-account-test.true c.loop-account.invariant c.account-item.is)

pub returns-in_err-open-clause-err : goal.returns-in_err-open-clause-err
returns-in_err-open-clause-err c =
    always_err c.from_residual.result
    (rw (c.in_err-open.ensures.err, set-get_or c.loop-account.account-items c.loop-account.account-index _)
    (after_error c.args.link.now c.args.session c.args.number c.args.waits.now c.loop-account.account-index c.args.accounts.now.len c.loop-account.account-items c.deref_mut-account-items.result.now c.args.accounts.now.items c.loop-account.invariant c.deref_mut-account-items.ensures.value (grind (arith, c.deref_mut-account-items.ensures.len, c.deref_mut-account-items.ensures.value)) c.requires))
