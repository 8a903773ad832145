use Rattle.std.proofs.Common.{◌≡◌, ◌++◌, drop}
use Rattle.std.specs.List.{filter_map}
use Rattle.field_tables.specs.View.{fields_view}
use Rattle.hop_headers.specs.Hops.{entry_of}
use Rattle.hop_headers.proofs.hops.entries_of.Given as goal

abbrev pub invariant-loop-value : goal.invariant-loop-value
invariant-loop-value l = l.entries.items ++ filter_map entry_of (fields_view (drop l.value-index l.values)) ≡ filter_map entry_of (fields_view l.values)
