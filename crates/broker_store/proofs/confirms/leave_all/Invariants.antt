-- The copies that are left lead to what all of them lead to.
use Rattle.std.proofs.Common.{ℕ, ◌≡◌, map}
use Rattle.queue_core.specs.declared.rows.Hold.{Hold}
use Rattle.broker_store.specs.Confirms.{all_left}
use Rattle.broker_store.proofs.confirms.leave_all.Given as goal

abbrev pub invariant-loop-copy : goal.invariant-loop-copy
invariant-loop-copy l = all_left (map (λ (e : ℕ × Hold). e.0) l.copy-iterator) l.accounts.items ≡ all_left (map (λ row. row.copy) l.queue) l.fn.accounts.items
