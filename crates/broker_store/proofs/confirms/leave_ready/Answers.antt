use Rattle.std.proofs.Common.{ℕ, ap, ◌∙◌, map}
use Rattle.std.specs.Prelude.{filter}
use Rattle.queue_core.specs.Rows.{is_ready_hold}
use Rattle.queue_core.specs.declared.rows.Hold.{Hold}
use Rattle.broker_store.specs.Confirms.{all_left}
use Rattle.broker_store.proofs.ConfirmLemmas.{ready_copies}
use Rattle.broker_store.proofs.confirms.leave_ready.Goals as goal

pub loop-copy-init : goal.loop-copy-init
loop-copy-init c = ap (λ copies. all_left copies c.args.accounts.now.items) (ap (λ es. map (λ (e : ℕ × Hold). e.0) (filter (λ (e : ℕ × Hold). is_ready_hold e.1) es)) (c.into_iter-copy-iterator.ensures.into_iter_gives ∙ c.iter-copy-items.ensures) ∙ ready_copies c.args.queue.now)
