-- The copies that are left lead to what all of them lead to.
use Rattle.std.proofs.Common.{ℕ, ◌≡◌, map}
use Rattle.std.specs.Prelude.{filter}
use Rattle.queue_core.specs.Rows.{is_ready, is_ready_hold}
use Rattle.queue_core.specs.declared.rows.Hold.{Hold}
use Rattle.broker_store.specs.Confirms.{all_left}
use Rattle.broker_store.proofs.confirms.leave_ready.Given as goal

abbrev pub invariant-loop-copy : goal.invariant-loop-copy
invariant-loop-copy l =
    all_left (map (λ (e : ℕ × Hold). e.0) (filter (λ (e : ℕ × Hold). is_ready_hold e.1) l.copy-iterator)) l.accounts.items ≡ all_left (map (λ row. row.copy) (filter is_ready l.queue)) l.fn.accounts.items
