use Rattle.std.proofs.Common.{ap, add-one}
use Rattle.broker_store.specs.Mail.{swept}
use Rattle.broker_store.specs.Queues.{with_mail}
use Rattle.broker_store.proofs.QueueLemmas.{swept_more}
use Rattle.broker_store.proofs.CountLemmas.{covers_at, remains_at}
use Rattle.broker_store.proofs.queues.sweep_table.Goals as goal

pub sweep-requires : goal.sweep-requires
sweep-requires c = covers_at c.loop-place.messages c.loop-place.table.entries c.loop-place.place c.index_mut.result.now c.loop-place.invariant.1.counted c.index_mut.ensures.value

pub loop-place-preserved : goal.loop-place-preserved
loop-place-preserved c = (
  rw add-one (swept_more (with_mail (swept c.args.sweep)) c.args.table.now.entries c.loop-place.table.entries c.loop-place.place c.index_mut.result.now (record c.index_mut.result.now { mail = c.sweep.new.self }) c.loop-place.invariant.0 c.index_mut.ensures.value (ap (λ m. record c.index_mut.result.now { mail = m }) c.sweep.ensures.swept)),
  remains_at c.args.messages.now c.loop-place.messages c.sweep.new.messages c.loop-place.table.entries c.loop-place.place c.index_mut.result.now (record c.index_mut.result.now { mail = c.sweep.new.self }) c.loop-place.invariant.1 c.index_mut.ensures.value c.sweep.ensures.follows,
)
