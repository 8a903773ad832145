use Rattle.std.proofs.Common.{sym, ap, is_some, cond}
use Rattle.broker_store.specs.Mail.{entered}
use Rattle.broker_store.specs.Queues.{named, with_mail, IsLast}
use Rattle.broker_store.proofs.QueueLemmas.{changed_absent, changed_at, set_same, all_at, always_err}
use Rattle.broker_store.proofs.TableLemmas.{found_at, found_none}
use Rattle.broker_store.proofs.queues.enter.Goals as goal

pub enter-requires : goal.enter-requires
enter-requires c = (all_at (IsLast c.args.number) c.args.table.now.entries c.in-Some.place c.index_mut.result.now c.requires c.index_mut.ensures.value).0

pub returns-in_err-enter-in-Some-clause-err : goal.returns-in_err-enter-in-Some-clause-err
returns-in_err-enter-in-Some-clause-err c =
    always_err c.from_residual.result (ap named (set_same c.args.table.now.entries c.in-Some.place c.index_mut.result.now (record c.index_mut.result.now { mail = c.enter.new.self }) c.index_mut.ensures.value (ap (λ m. record c.index_mut.result.now { mail = m }) c.in_err-enter-in-Some.ensures.err)))

pub returns-in_ok-enter-in-Some-clause-ok : goal.returns-in_ok-enter-in-Some-clause-ok
returns-in_ok-enter-in-Some-clause-ok c =
    changed_at c.args.name.now (with_mail (entered c.args.number c.args.key)) c.args.table.now.entries c.in-Some.place c.index_mut.result.now (record c.index_mut.result.now { mail = c.enter.new.self }) c.in-Some.ensures.index c.index_mut.ensures.value (ap (λ m. record c.index_mut.result.now { mail = m }) c.in_ok-enter-in-Some.ensures.ok)

pub returns-in_ok-enter-in-Some-clause-count : goal.returns-in_ok-enter-in-Some-clause-count
returns-in_ok-enter-in-Some-clause-count c =
    sym (ap (λ found. cond (is_some found) 1 0) (found_at c.args.name.now c.args.table.now.entries c.in-Some.place c.index_mut.result.now c.in-Some.ensures.value c.index_mut.ensures.value))

pub returns-in-None-clause-ok : goal.returns-in-None-clause-ok
returns-in-None-clause-ok c = sym (changed_absent c.args.name.now (with_mail (entered c.args.number c.args.key)) (named c.args.table.now.entries) (found_none c.args.name.now c.args.table.now.entries c.in-None.ensures.found))

pub returns-in-None-clause-count : goal.returns-in-None-clause-count
returns-in-None-clause-count c = sym (ap (λ found. cond (is_some found) 1 0) (found_none c.args.name.now c.args.table.now.entries c.in-None.ensures.found))
