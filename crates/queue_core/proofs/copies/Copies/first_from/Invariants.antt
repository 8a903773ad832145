-- The entries that are left have the first ready one of all.
use Rattle.std.proofs.Common.{◌≡◌}
use Rattle.std.specs.Prelude.{find, filter}
use Rattle.std.specs.Option.{option_map}
use Rattle.std.specs.declared.ops.Bound.TheVariants.{Included, Unbounded}
use Rattle.std.specs.Ordering.{nat_cmp}
use Rattle.std.specs.BTreeMap.Range.{range_contains}
use Rattle.queue_core.specs.Rows.{first_ready, is_ready_hold}
use Rattle.queue_core.specs.Copies.{rows_from}
use Rattle.queue_core.proofs.copies.Copies.first_from.Given as goal

abbrev pub invariant-loop-found : goal.invariant-loop-found
invariant-loop-found l = option_map (λ e. e.0) (find (λ e. is_ready_hold e.1) l.found-iterator) ≡ first_ready (rows_from l.copy l.self)
