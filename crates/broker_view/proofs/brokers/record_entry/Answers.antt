use Rattle.std.proofs.Common.{[], ◌∷◌, ◌++◌, sym, subst}
use Rattle.broker_view.specs.Hosts.{AreViews}
use Rattle.broker_view.specs.Suits.{Suits}
use Rattle.broker_view.proofs.ViewsStep.{begun-step, recorded-step, not-begun, all-recordable, all-tellable}
use Rattle.broker_view.proofs.brokers.record_entry.Goals as goal

pub returns-in_ok-add_host-in-Begun : goal.returns-in_ok-add_host-in-Begun
returns-in_ok-add_host-in-Begun c = λ J views suits.
    subst (λ e. AreViews (J ++ e ∷ []) c.add_host.new.hosts.items) (sym c.in-Begun.is)
    (subst (AreViews (J ++ _ ∷ [])) (sym c.in_ok-add_host-in-Begun.ensures) (begun-step c.in-Begun.broker c.in-Begun.cluster c.in-Begun.kept c.args.hosts.now.items J views (subst (Suits J) c.in-Begun.is suits)))

pub returns-in_ok-record_each-in_default : goal.returns-in_ok-record_each-in_default
returns-in_ok-record_each-in_default c = recorded-step c.args.entry.now c.args.hosts.now.items c.record_each.new.hosts.items (not-begun c.args.entry.now c.in_default.not-Begun) c.in_ok-record_each-in_default.ensures

pub record_each-requires : goal.record_each-requires
record_each-requires c = record {
  recordable = all-recordable c.args.hosts.now.items c.args.entry.now c.requires.next;
  tellable = all-tellable c.args.hosts.now.items c.args.entry.now c.requires.next;
  fits = c.requires.fits;
}
