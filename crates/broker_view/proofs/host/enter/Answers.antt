use Rattle.std.proofs.Common.{length, sym, ap, ◌∙◌}
use Rattle.std.proofs.lemmas.Bool.{true≢false, eq-eqb}
use Rattle.broker_view.proofs.RecordLemmas.{above-at}
use Rattle.broker_view.proofs.host.enter.Goals as goal

pub enter-requires-clause-above : goal.enter-requires-clause-above
enter-requires-clause-above c = above-at c.args.host.now c.args.publication.now c.requires.recordable
    (λ none. true≢false (sym (eq-eqb (length c.as_slice-queues.result.now) 0 (ap length c.as_slice-queues.ensures ∙ none)) ∙ sym c.is_empty.ensures ∙ c.if-is_empty.false))
