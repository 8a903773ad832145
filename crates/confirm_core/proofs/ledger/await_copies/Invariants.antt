use Rattle.std.proofs.Common.{◌≡◌, ℕ, true, take}
use Rattle.confirm_core.specs.Openings.{has, openings_of}
use Rattle.confirm_core.proofs.ledger.await_copies.Given as goal

abbrev pub invariant-loop-copy : goal.invariant-loop-copy
invariant-loop-copy l = record {
  kept : (copy other : ℕ) → has other (openings_of copy l.initial.by_copy) ≡ true → has other (openings_of copy l.by_copy) ≡ true;
  awaited : (copy : ℕ) → has copy (take l.copy-index l.waits) ≡ true → has l.opening (openings_of copy l.by_copy) ≡ true;
}
