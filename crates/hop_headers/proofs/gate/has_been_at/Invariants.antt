use Rattle.std.proofs.Common.{◌≡◌, drop}
use Rattle.std.specs.List.{list_any}
use Rattle.field_tables.specs.View.{fields_view}
use Rattle.hop_headers.specs.Gate.{place, is_at}
use Rattle.hop_headers.proofs.gate.has_been_at.Given as goal

abbrev pub invariant-loop-value : goal.invariant-loop-value
invariant-loop-value l =
    list_any (is_at (place l.fn.wanted.cluster.now l.fn.wanted.vhost.now)) (fields_view (drop l.value-index l.values)) ≡ list_any (is_at (place l.fn.wanted.cluster.now l.fn.wanted.vhost.now)) (fields_view l.values)
