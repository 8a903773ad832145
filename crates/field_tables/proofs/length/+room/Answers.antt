use Rattle.std.proofs.Common.{◌≡◌, drop, None, sym, ap, ◌∙◌, arith, rules}
use Rattle.std.proofs.lemmas.List.{drop_all}
use Rattle.field_tables.specs.View.{field_view}
use Rattle.field_tables.specs.Lengths.{room_after, value_length}
use Rattle.field_tables.proofs.Lists.{from_item}
use Rattle.field_tables.proofs.LengthLemmas.{inner_table, taken_some, taken_none, flat_none, flat_some, values_none, values_some, values_end, pairs_none, pairs_some, pairs_end}
use Rattle.field_tables.proofs.length.+room.Goals as goal

pub after_inner-returns-in-Table : goal.after_inner-returns-in-Table
after_inner-returns-in-Table t c = c.after_pairs.ensures ∙ ap (room_after c.args.room) (inner_table c.args.value.now c.in-Table.table.pairs c.in-Table.is)

pub after_value-returns-in-Some : goal.after_value-returns-in-Some
after_value-returns-in-Some t c = c.after_inner.ensures ∙ flat_some c.args.room c.in-Some.left (field_view c.args.value.now) (sym c.in-Some.ensures)

pub after_value-returns-in-None : goal.after_value-returns-in-None
after_value-returns-in-None t c = flat_none c.args.room (field_view c.args.value.now) (sym c.in-None.ensures)

pub after_pair-returns-in-Some : goal.after_pair-returns-in-Some
after_pair-returns-in-Some t c = c.after_value.ensures ∙ taken_some c.args.room _ (value_length (field_view c.args.value.now)) c.in-Some.left (sym c.in-Some.ensures)

pub after_pair-returns-in-None : goal.after_pair-returns-in-None
after_pair-returns-in-None t c = taken_none c.args.room _ (value_length (field_view c.args.value.now)) (sym c.in-None.ensures)

pub after_values-returns-in_err-left : goal.after_values-returns-in_err-left
after_values-returns-in_err-left t c =
    let xs = c.deref-value-items.result.now in
    let none : c.from_residual.result ≡ None = search rules in
    none ∙ values_none c.loop-value.left _ _ c.value-item.result (from_item xs c.loop-value.value-index c.value-item.result (omega arith) c.value-item.is) (search rules) ∙ c.loop-value.invariant

pub after_values-loop-value-preserved : goal.after_values-loop-value-preserved
after_values-loop-value-preserved t c =
    let xs = c.deref-value-items.result.now in
    values_some c.loop-value.left c.in_ok-left.left _ _ c.value-item.result (from_item xs c.loop-value.value-index c.value-item.result (omega arith) c.value-item.is) (search rules) ∙ c.loop-value.invariant

pub after_values-returns : goal.after_values-returns
after_values-returns t c =
    let xs = c.deref-value-items.result.now in
    values_end c.loop-value.left (drop c.loop-value.value-index xs) (drop_all c.loop-value.value-index xs (omega arith)) ∙ c.loop-value.invariant

pub after_pairs-returns-in_err-left : goal.after_pairs-returns-in_err-left
after_pairs-returns-in_err-left t c =
    let xs = c.deref-name-items.result.now in
    let none : c.from_residual.result ≡ None = search rules in
    none ∙ pairs_none c.loop-name.left _ _ c.loop-name-item.result (from_item xs c.loop-name.name-index c.loop-name-item.result (omega arith) c.loop-name-item.is) (search rules) ∙ c.loop-name.invariant

pub after_pairs-loop-name-preserved : goal.after_pairs-loop-name-preserved
after_pairs-loop-name-preserved t c =
    let xs = c.deref-name-items.result.now in
    pairs_some c.loop-name.left c.in_ok-left.left _ _ c.loop-name-item.result (from_item xs c.loop-name.name-index c.loop-name-item.result (omega arith) c.loop-name-item.is) (search rules) ∙ c.loop-name.invariant

pub after_pairs-returns : goal.after_pairs-returns
after_pairs-returns t c =
    let xs = c.deref-name-items.result.now in
    pairs_end c.loop-name.left (drop c.loop-name.name-index xs) (drop_all c.loop-name.name-index xs (omega arith)) ∙ c.loop-name.invariant
