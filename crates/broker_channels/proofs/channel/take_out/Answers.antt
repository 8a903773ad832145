use Rattle.std.proofs.Common.{◌≡◌, ◌∙◌, ◌<◌, ◌≤◌, ◌++◌, None, length, get_or, drop, ap, sym, append_assoc, arith, length-drop, add-one}
use Rattle.broker_channels.specs.declared.delivery.Delivery.{Delivery}
use Rattle.broker_channels.proofs.SpanLemmas.{remove-front, get-front, copies-more}
use Rattle.broker_channels.proofs.channel.take_out.Goals as goal

pub returns-clause-copies : goal.returns-clause-copies
returns-clause-copies c =
    let e : c.loop-taken._taken ≡ c.args.count = omega arith in
    rw e at c.loop-taken.invariant.copies

pub loop-taken-preserved : goal.loop-taken-preserved
loop-taken-preserved c =
    let ds = c.args.deliveries.now.items in
    let start = c.args.start in
    let k = c.loop-taken._taken in
    let old = c.loop-taken.invariant in
    let rest = drop start ds in
    let x : Delivery = record { tag = 0; copy = 0; consumer = None } in
    let within : start ≤ length ds = omega arith in
    let in_list : k < length rest = omega (arith, length-drop start ds) in
    let same : get_or c.loop-taken.deliveries.items start x ≡ get_or rest k x = rw old.stay (get-front start ds k x within) in
    let one : c.take_one-copy.result ≡ (get_or rest k x).copy = c.take_one-copy.ensures.copy x ∙ ap (λ (d : Delivery). d.copy) same in
    record {
      copies = c.push_reserved.ensures.items ∙ rw (old.copies, one, append_assoc) (ap (λ more. c.args.copies.now.items ++ more) (sym (copies-more rest k x in_list)));
      stay = c.take_one-copy.ensures.stay ∙ rw (old.stay, add-one) (remove-front start ds k within);
      consumers = c.take_one-copy.ensures.consumers ∙ old.consumers;
      counted = c.take_one-copy.ensures.counted;
      pushed = c.take_one-copy.ensures.pushed;
      spare = c.take_one-copy.ensures.spare ∙ old.spare;
      len = omega arith;
      capacity = c.take_one-copy.ensures.capacity ∙ old.capacity;
      room = omega arith;
    }
