use Rattle.std.proofs.Common.{sym, ap, ◌∙◌}
use Rattle.broker_store.specs.Queues.{ready_in}
use Rattle.mini_broker.specs.Record.{with_handed}
use Rattle.broker_view.proofs.RecordLemmas.{ready-at, handed-as}
use Rattle.broker_view.proofs.host.record_consumed.Goals as goal

pub hand-requires : goal.hand-requires
hand-requires c = ap (λ q. ready_in q c.args.host.now.vhost.queues) c.as_str-in-Delivered-2.ensures ∙ ready-at c.args.host.now c.args.entry.now c.requires c.in-Delivered.place c.in-Delivered.client c.in-Delivered.tag c.in-Delivered.queue c.in-Delivered.copy c.in-Delivered.no_ack (sym c.in-Delivered.is) (sym c.if-is_at-3.ensures)

pub returns-in_ok-hand-in-Delivered : goal.returns-in_ok-hand-in-Delivered
returns-in_ok-hand-in-Delivered c = λ consuming. handed-as c.args.entry.now c.args.host.now c.hand.new.self c.in-Delivered.place c.in-Delivered.client c.in-Delivered.tag c.in-Delivered.queue c.in-Delivered.copy c.in-Delivered.no_ack (sym c.in-Delivered.is) (sym c.if-is_at-3.ensures) (c.in_ok-hand-in-Delivered.ensures.ok ∙ ap (λ t. with_handed c.in-Delivered.client t c.as_str-in-Delivered-2.result.now c.in-Delivered.copy c.in-Delivered.no_ack c.args.host.now.vhost) c.as_str-in-Delivered.ensures ∙ ap (λ q. with_handed c.in-Delivered.client c.in-Delivered.tag q c.in-Delivered.copy c.in-Delivered.no_ack c.args.host.now.vhost) c.as_str-in-Delivered-2.ensures)
