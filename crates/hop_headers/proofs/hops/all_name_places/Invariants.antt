use Rattle.std.proofs.Common.{◌≡◌, drop}
use Rattle.std.specs.List.{list_all}
use Rattle.field_tables.specs.View.{fields_view}
use Rattle.hop_headers.specs.Hops.{names_place}
use Rattle.hop_headers.proofs.hops.all_name_places.Given as goal

abbrev pub invariant-loop-value : goal.invariant-loop-value
invariant-loop-value l = list_all names_place (fields_view (drop l.value-index l.values)) ≡ list_all names_place (fields_view l.values)
