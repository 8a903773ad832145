use Rattle.std.proofs.Common.{◌≡◌, ◌++◌, drop, not}
use Rattle.std.specs.Prelude.{filter}
use Rattle.field_tables.specs.View.{fields_view}
use Rattle.hop_headers.specs.Stamps.{is_own_hop}
use Rattle.hop_headers.proofs.stamps.copy_others.Given as goal

abbrev pub invariant-loop-value : goal.invariant-loop-value
invariant-loop-value l =
    fields_view l.to.items ++ filter (λ v. not (is_own_hop l.place l.queue v)) (fields_view (drop l.value-index l.values)) ≡ fields_view l.fn.to.items ++ filter (λ v. not (is_own_hop l.place l.queue v)) (fields_view l.values)
