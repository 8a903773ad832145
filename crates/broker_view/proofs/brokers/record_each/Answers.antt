use Rattle.std.proofs.Common.{◌<◌, length, slice_index_or, arith, sym, ap, subst, ◌∙◌}
use Rattle.std.proofs.lemmas.Grind.{common_steps}
use Rattle.std.proofs.lemmas.List.Edits.{map_over_more}
use Rattle.broker_view.specs.Hosts.{recorded_at, IsRecordable, IsTellable}
use Rattle.broker_view.proofs.RecordLemmas.{left-at}
use Rattle.broker_view.proofs.brokers.record_each.Goals as goal

pub record-requires-clause-recordable : goal.record-requires-clause-recordable
record-requires-clause-recordable c =
    subst (λ h. IsRecordable h c.args.entry.now)
    (sym (ap (λ hs. slice_index_or hs c.loop-host.host-index c.host-item.result) c.loop-host.invariant ∙ left-at (recorded_at c.args.entry.now) c.loop-host.host-index c.deref_mut-host-items.result.now c.host-item.result))
    (subst (λ hs. IsRecordable (slice_index_or hs c.loop-host.host-index c.host-item.result) c.args.entry.now) (sym c.deref_mut-host-items.ensures.value)
    (c.requires.recordable c.loop-host.host-index c.host-item.result (subst (λ hs. c.loop-host.host-index < length hs) c.deref_mut-host-items.ensures.value c.loop-host-test.true)))

pub record-requires-clause-tellable : goal.record-requires-clause-tellable
record-requires-clause-tellable c =
    subst (λ h. IsTellable h c.args.entry.now)
    (sym (ap (λ hs. slice_index_or hs c.loop-host.host-index c.host-item.result) c.loop-host.invariant ∙ left-at (recorded_at c.args.entry.now) c.loop-host.host-index c.deref_mut-host-items.result.now c.host-item.result))
    (subst (λ hs. IsTellable (slice_index_or hs c.loop-host.host-index c.host-item.result) c.args.entry.now) (sym c.deref_mut-host-items.ensures.value)
    (c.requires.tellable c.loop-host.host-index c.host-item.result (subst (λ hs. c.loop-host.host-index < length hs) c.deref_mut-host-items.ensures.value c.loop-host-test.true)))

pub loop-host-preserved : goal.loop-host-preserved
loop-host-preserved c = grind (arith, common_steps, map_over_more (recorded_at c.args.entry.now))
