use Rattle.std.proofs.Common.{drop, ap, sym, ◌∙◌, arith, rules}
use Rattle.std.proofs.lemmas.List.{drop_all}
use Rattle.field_tables.specs.View.{field_view}
use Rattle.field_tables.proofs.Lists.{from_item}
use Rattle.field_tables.proofs.Views.{view-Table}
use Rattle.field_tables.proofs.SameLoops.{tables_same, fields_differ, fields_go, fields_stop, fields_end, pairs_differ, pairs_go, pairs_stop_name, pairs_stop_value, pairs_end}
use Rattle.field_tables.proofs.same.+same.Goals.{same_pairs-then-ne-via-then-ne, same_pairs-then-ne-via-else-ne+then-not-same_field}
use Rattle.field_tables.proofs.same.+same.Goals as goal

pub same_field-returns-in-Table-Table : goal.same_field-returns-in-Table-Table
same_field-returns-in-Table-Table t c =
    tables_same _ _ _ _ (ap field_view c.in-Table-Table.is-0 ∙ view-Table c.in-Table-Table.a.pairs) (ap field_view c.in-Table-Table.is-1 ∙ view-Table c.in-Table-Table.b.pairs) c.same_pairs.ensures

pub same_fields-returns-then-len : goal.same_fields-returns-then-len
same_fields-returns-then-len t c =
    sym (fields_differ c.args.one.now.items c.args.other.now.items (λ e. absurd (omega (arith, e))))

pub same_fields-returns-then-not-same_field : goal.same_fields-returns-then-not-same_field
same_fields-returns-then-not-same_field t c =
    let xs = c.deref-value-items.result.now in
    let ys = c.args.other.now.items in
    fields_stop _ _ _ _ c.value-item.result c.index.result.now
    (from_item xs c.loop-i.i c.value-item.result (omega arith) c.value-item.is)
    (from_item ys c.loop-i.i c.index.result.now (omega arith) (search rules)) (search rules) ∙ c.loop-i.invariant

pub same_fields-loop-i-preserved : goal.same_fields-loop-i-preserved
same_fields-loop-i-preserved t c =
    let xs = c.deref-value-items.result.now in
    let ys = c.args.other.now.items in
    fields_go _ _ _ _ c.value-item.result c.index.result.now
    (from_item xs c.loop-i.i c.value-item.result (omega arith) c.value-item.is)
    (from_item ys c.loop-i.i c.index.result.now (omega arith) (search rules)) (search rules) ∙ c.loop-i.invariant

pub same_fields-returns : goal.same_fields-returns
same_fields-returns t c =
    let xs = c.deref-value-items.result.now in
    let ys = c.args.other.now.items in
    fields_end (drop c.loop-i.i xs) (drop c.loop-i.i ys) (drop_all c.loop-i.i xs (omega arith)) (drop_all c.loop-i.i ys (omega arith)) ∙ c.loop-i.invariant

pub same_pairs-returns-then-len : goal.same_pairs-returns-then-len
same_pairs-returns-then-len t c =
    sym (pairs_differ c.args.one.now.items c.args.other.now.items (λ e. absurd (omega (arith, e))))

pub same_pairs-returns-then-ne : goal.same_pairs-returns-then-ne
same_pairs-returns-then-ne t c =
    let xs = c.deref-pair-items.result.now in
    let ys = c.args.other.now.items in
    let at-xs = from_item xs c.loop-i.i c.pair-item.result (omega arith) c.pair-item.is in
    let at-ys = from_item ys c.loop-i.i c.index.result.now (omega arith) (search rules) in
    elim c.then-ne.branch [
      | same_pairs-then-ne-via-then-ne w ↦ pairs_stop_name _ _ _ _ c.pair-item.result c.index.result.now at-xs at-ys (search rules) ∙ c.loop-i.invariant
      | same_pairs-then-ne-via-else-ne+then-not-same_field w ↦ pairs_stop_value _ _ _ _ c.pair-item.result c.index.result.now at-xs at-ys (search rules) ∙ c.loop-i.invariant
    ]

pub same_pairs-loop-i-preserved : goal.same_pairs-loop-i-preserved
same_pairs-loop-i-preserved t c =
    let xs = c.deref-pair-items.result.now in
    let ys = c.args.other.now.items in
    pairs_go _ _ _ _ c.pair-item.result c.index.result.now
    (from_item xs c.loop-i.i c.pair-item.result (omega arith) c.pair-item.is)
    (from_item ys c.loop-i.i c.index.result.now (omega arith) (search rules)) (search rules) (search rules) ∙ c.loop-i.invariant

pub same_pairs-returns : goal.same_pairs-returns
same_pairs-returns t c =
    let xs = c.deref-pair-items.result.now in
    let ys = c.args.other.now.items in
    pairs_end (drop c.loop-i.i xs) (drop c.loop-i.i ys) (drop_all c.loop-i.i xs (omega arith)) (drop_all c.loop-i.i ys (omega arith)) ∙ c.loop-i.invariant
