use Rattle.std.proofs.Common.{◌≡◌, drop}
use Rattle.field_tables.specs.View.{pairs_of, pairs_view, table_view}
use Rattle.binding_match.specs.Headers.{all_agree}
use Rattle.binding_match.proofs.headers.all_agree.Given as goal

abbrev pub invariant-loop-name : goal.invariant-loop-name
invariant-loop-name l = all_agree (pairs_of (pairs_view (drop l.name-index l.name-items))) (table_view l.headers) ≡ all_agree (table_view l.args) (table_view l.headers)
