use Rattle.std.proofs.Common.{ap, ◌∙◌, inl, inr}
use Rattle.mini_broker.specs.Record.{with_taken}
use Rattle.fed_journal.specs.declared.entry.Entry.TheVariants.{Settled, Acked, Rejected}
use Rattle.broker_view.proofs.HostLemmas.{recorded-as}
use Rattle.broker_view.proofs.host.record_moved.Goals as goal

pub returns-in-Took : goal.returns-in-Took
returns-in-Took c = λ moving. recorded-as c.args.entry.now _ c.args.host.now c.take.new.self c.in-Took.is (c.take.ensures ∙ ap (λ h. with_taken c.in-Took.copy h c.args.host.now.vhost) c.session_holder.ensures)

pub returns-in-Requeued : goal.returns-in-Requeued
returns-in-Requeued c = λ moving. recorded-as c.args.entry.now _ c.args.host.now c.release.new.self c.in-Requeued.is c.release.ensures

pub returns-in-Settled : goal.returns-in-Settled
returns-in-Settled c = λ moving. elim c.in-Settled.is [
  | inl s ↦ recorded-as c.args.entry.now (Settled s.0 s.1 c.in-Settled.copy) c.args.host.now c.settle.new.self s.2 c.settle.ensures
  | inr (inl a) ↦ recorded-as c.args.entry.now (Acked a.0 a.1 c.in-Settled.copy) c.args.host.now c.settle.new.self a.2 c.settle.ensures
  | inr (inr r) ↦ recorded-as c.args.entry.now (Rejected r.0 r.1 c.in-Settled.copy) c.args.host.now c.settle.new.self r.2 c.settle.ensures
]
