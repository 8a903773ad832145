use Rattle.broker_view.proofs.ViewsStep.{leads-more}
use Rattle.broker_view.proofs.brokers.Brokers.record.Goals as goal

pub loop-entry-preserved : goal.loop-entry-preserved
loop-entry-preserved c = leads-more c.args.before.now c.args.entries.now c.loop-entry.entry-index c.entry-item.result c.loop-entry.self.hosts.items c.record_entry.new.hosts.items c.loop-entry.invariant c.loop-entry-test.true c.entry-item.is c.in_ok-record_entry.ensures
