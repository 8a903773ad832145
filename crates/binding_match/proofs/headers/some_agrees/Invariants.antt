use Rattle.std.proofs.Common.{◌≡◌, drop}
use Rattle.field_tables.specs.View.{pairs_of, pairs_view, table_view}
use Rattle.binding_match.specs.Headers.{some_agrees}
use Rattle.binding_match.proofs.headers.some_agrees.Given as goal

abbrev pub invariant-loop-name : goal.invariant-loop-name
invariant-loop-name l = some_agrees (pairs_of (pairs_view (drop l.name-index l.name-items))) (table_view l.headers) ≡ some_agrees (table_view l.args) (table_view l.headers)
