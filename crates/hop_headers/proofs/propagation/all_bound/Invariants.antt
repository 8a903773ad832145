use Rattle.std.proofs.Common.{◌≡◌, drop}
use Rattle.std.specs.List.{list_all}
use Rattle.field_tables.specs.View.{fields_view}
use Rattle.hop_headers.specs.Propagation.{is_bound}
use Rattle.hop_headers.proofs.propagation.all_bound.Given as goal

abbrev pub invariant-loop-value : goal.invariant-loop-value
invariant-loop-value l = list_all is_bound (fields_view (drop l.value-index l.values)) ≡ list_all is_bound (fields_view l.values)
