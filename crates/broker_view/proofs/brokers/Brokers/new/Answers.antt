use Rattle.std.proofs.Common.{[], sym, subst}
use Rattle.broker_view.specs.Hosts.{AreViews}
use Rattle.broker_view.proofs.ViewsStep.{no-views}
use Rattle.broker_view.proofs.brokers.Brokers.new.Goals as goal

pub returns : goal.returns
returns c = subst (AreViews []) (sym c.new.ensures.items) no-views
