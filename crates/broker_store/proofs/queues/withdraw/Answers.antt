use Rattle.std.proofs.Common.{sym, ap}
use Rattle.broker_store.specs.Mail.{left}
use Rattle.broker_store.specs.Queues.{named, with_mail}
use Rattle.broker_store.proofs.QueueLemmas.{changed_absent, changed_at}
use Rattle.broker_store.proofs.TableLemmas.{found_none}
use Rattle.broker_store.proofs.queues.withdraw.Goals as goal

pub returns-in-Some : goal.returns-in-Some
returns-in-Some c =
    changed_at c.args.name.now (with_mail (left c.args.number)) c.args.table.now.entries c.in-Some.place c.index_mut.result.now (record c.index_mut.result.now { mail = c.withdraw.new.self }) c.in-Some.ensures.index c.index_mut.ensures.value (ap (λ m. record c.index_mut.result.now { mail = m }) c.withdraw.ensures.left)

pub returns-in-None : goal.returns-in-None
returns-in-None c = sym (changed_absent c.args.name.now (with_mail (left c.args.number)) (named c.args.table.now.entries) (found_none c.args.name.now c.args.table.now.entries c.in-None.ensures.found))
