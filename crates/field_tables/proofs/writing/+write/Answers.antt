use Rattle.std.proofs.Common.{◌≡◌, ◌+◌, [], ◌∷◌, ◌++◌, length, take, drop, sym, ap, subst, ◌∙◌, arith, rules}
use Rattle.std.proofs.lemmas.List.{drop_more, drop_all}
use Rattle.field_tables.specs.declared.value.FieldValue.{the_lemmas}
use Rattle.field_tables.specs.Fields.{table}
use Rattle.field_tables.specs.Tables.{counted_spelling, HasSpelling, fields_spelling, pairs_spelling}
use Rattle.field_tables.specs.View.{fields_of, pairs_of, field_view, fields_view, pairs_view}
use Rattle.field_tables.proofs.Patches.{filled, no_value, no_pair, first_pair}
use Rattle.field_tables.proofs.Kept.{kept_appended, kept_on}
use Rattle.field_tables.proofs.Views.{view-Table}
use Rattle.field_tables.proofs.writing.+write.Goals as goal

pub put_content-put_pairs-requires : goal.put_content-put_pairs-requires
put_content-put_pairs-requires t c =
    let seen : HasSpelling (table (pairs_of (pairs_view c.in-Table.table.pairs.items))) = subst HasSpelling (ap field_view c.in-Table.is ∙ view-Table c.in-Table.table.pairs) c.requires in
    (search (rules, the_lemmas), (seen.1, seen.0))

pub put_content-returns-in-Table : goal.put_content-returns-in-Table
put_content-returns-in-Table t c = rw (ap field_view c.in-Table.is ∙ view-Table c.in-Table.table.pairs) c.put_pairs.ensures

pub put_fields-returns : goal.put_fields-returns
put_fields-returns t c =
    let xs = c.deref-value-items.result.now in
    let none : drop c.loop-value.value-index xs ≡ [] = drop_all c.loop-value.value-index xs (omega arith) in
    let at : c.len-start.result ≡ length c.args.out.now.items = search rules in
    let made : c.set_count.new.out.items ≡ c.args.out.now.items ++ counted_spelling (fields_spelling (fields_of (fields_view xs))) =
    filled c.args.out.now.items (fields_spelling (fields_of (fields_view xs))) c.loop-value.out.items c.set_count.new.out.items c.len-start.result at
    (no_value c.loop-value.out.items _ (drop c.loop-value.value-index xs) none c.loop-value.invariant.0) c.set_count.ensures in
    made ∙ ap (λ ys. c.args.out.now.items ++ counted_spelling (fields_spelling (fields_of (fields_view ys)))) c.deref-value-items.ensures.value

pub put_pairs-put_value-requires : goal.put_pairs-put_value-requires
unfolding Rattle.field_tables.specs.declared.value.FieldValue.TheBlock.the_depth
put_pairs-put_value-requires t c =
    let xs = c.deref-name-items.result.now in
    let x = c.loop-name-item.result in
    let here : drop c.loop-name.name-index xs ≡ x ∷ drop (c.loop-name.name-index + 1) xs = drop_more xs c.loop-name.name-index x (omega arith) ∙ ap (λ y. y ∷ drop (c.loop-name.name-index + 1) xs) (sym c.loop-name-item.is) in
    let first = first_pair (drop c.loop-name.name-index xs) (drop (c.loop-name.name-index + 1) xs) x.0 x.1 here c.loop-name.invariant.1 in
    (search (rules, the_lemmas), first.1)

pub put_pairs-returns : goal.put_pairs-returns
put_pairs-returns t c =
    let xs = c.deref-name-items.result.now in
    let none : drop c.loop-name.name-index xs ≡ [] = drop_all c.loop-name.name-index xs (omega arith) in
    let at : c.len-start.result ≡ length c.args.out.now.items = search rules in
    let made : c.set_count.new.out.items ≡ c.args.out.now.items ++ counted_spelling (pairs_spelling (pairs_of (pairs_view xs))) =
    filled c.args.out.now.items (pairs_spelling (pairs_of (pairs_view xs))) c.loop-name.out.items c.set_count.new.out.items c.len-start.result at
    (no_pair c.loop-name.out.items _ (drop c.loop-name.name-index xs) none c.loop-name.invariant.0) c.set_count.ensures in
    made ∙ ap (λ ys. c.args.out.now.items ++ counted_spelling (pairs_spelling (pairs_of (pairs_view ys)))) c.deref-name-items.ensures.value

pub put_pairs-returns-in_err-put_value : goal.put_pairs-returns-in_err-put_value
put_pairs-returns-in_err-put_value t c =
    let named = kept_appended c.loop-name.out.items _ c.put_name.new.out.items c.in_ok-put_name.ensures in
    let both = kept_on _ _ _ c.loop-name.invariant.2 named in
    let all : take (length c.args.out.now.items) c.put_value.new.out.items ≡ c.args.out.now.items = kept_on _ _ _ both c.in_err-put_value.ensures in
    grind (arith, all, c.from_residual-in_err-put_value.ensures)
