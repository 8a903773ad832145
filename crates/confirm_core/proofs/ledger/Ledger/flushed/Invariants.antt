use Rattle.std.proofs.Common.{◌≡◌}
use Rattle.std.specs.BTreeMap.{btree_map_len}
use Rattle.confirm_core.specs.Waits.{all_stored}
use Rattle.confirm_core.specs.Openings.{unconfirmed}
use Rattle.confirm_core.specs.contracts.ledger.Ledger.{the_invariant}
use Rattle.confirm_core.proofs.ledger.Ledger.flushed.Given as goal

abbrev pub invariant-loop-copy : goal.invariant-loop-copy
invariant-loop-copy l = the_invariant l.self-inside × (all_stored (unconfirmed l.self-inside.openings) ≡ all_stored (unconfirmed l.initial.self-inside.openings))

abbrev pub decreases-loop-copy : goal.decreases-loop-copy
decreases-loop-copy l = btree_map_len l.self-inside.by_copy
