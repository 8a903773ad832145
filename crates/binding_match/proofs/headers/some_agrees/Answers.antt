use Rattle.std.proofs.Common.{drop, ◌∙◌, arith, rules}
use Rattle.std.proofs.lemmas.List.{drop_all}
use Rattle.field_tables.specs.View.{table_view}
use Rattle.field_tables.proofs.Lists.{from_item}
use Rattle.binding_match.proofs.HeaderLemmas.{some_go, some_stop, some_end}
use Rattle.binding_match.proofs.headers.some_agrees.Goals as goal

pub returns-then-fits : goal.returns-then-fits
returns-then-fits c =
    let xs = c.deref-name-items.result.now in
    some_stop _ _ c.loop-name-item.result _ (from_item xs c.loop-name.name-index c.loop-name-item.result (omega arith) c.loop-name-item.is) (search rules) ∙ c.loop-name.invariant

pub loop-name-preserved : goal.loop-name-preserved
loop-name-preserved c =
    let xs = c.deref-name-items.result.now in
    some_go _ _ c.loop-name-item.result _ (from_item xs c.loop-name.name-index c.loop-name-item.result (omega arith) c.loop-name-item.is) (search rules) ∙ c.loop-name.invariant

pub returns : goal.returns
returns c =
    let xs = c.deref-name-items.result.now in
    some_end (drop c.loop-name.name-index xs) (table_view c.args.headers.now) (drop_all c.loop-name.name-index xs (omega arith)) ∙ c.loop-name.invariant
