use Rattle.std.proofs.Common.{ℕ, ap, ◌∙◌, map}
use Rattle.queue_core.specs.declared.rows.Hold.{Hold}
use Rattle.broker_store.specs.Confirms.{all_left}
use Rattle.broker_store.proofs.ConfirmLemmas.{all_copies}
use Rattle.broker_store.proofs.confirms.leave_all.Goals as goal

pub loop-copy-init : goal.loop-copy-init
loop-copy-init c = ap (λ copies. all_left copies c.args.accounts.now.items) (ap (map (λ (e : ℕ × Hold). e.0)) (c.into_iter-copy-iterator.ensures.into_iter_gives ∙ c.iter-copy-items.ensures) ∙ all_copies c.args.queue.now)
