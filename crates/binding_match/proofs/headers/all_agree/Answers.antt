use Rattle.std.proofs.Common.{drop, ◌∙◌, arith, rules}
use Rattle.std.proofs.lemmas.List.{drop_all}
use Rattle.field_tables.specs.View.{table_view}
use Rattle.field_tables.proofs.Lists.{from_item}
use Rattle.binding_match.proofs.HeaderLemmas.{all_go, all_stop, all_end}
use Rattle.binding_match.proofs.headers.all_agree.Goals as goal

pub returns-then-misses : goal.returns-then-misses
returns-then-misses c =
    let xs = c.deref-name-items.result.now in
    all_stop _ _ c.loop-name-item.result _ (from_item xs c.loop-name.name-index c.loop-name-item.result (omega arith) c.loop-name-item.is) (search rules) ∙ c.loop-name.invariant

pub loop-name-preserved : goal.loop-name-preserved
loop-name-preserved c =
    let xs = c.deref-name-items.result.now in
    all_go _ _ c.loop-name-item.result _ (from_item xs c.loop-name.name-index c.loop-name-item.result (omega arith) c.loop-name-item.is) (search rules) ∙ c.loop-name.invariant

pub returns : goal.returns
returns c =
    let xs = c.deref-name-items.result.now in
    all_end (drop c.loop-name.name-index xs) (table_view c.args.headers.now) (drop_all c.loop-name.name-index xs (omega arith)) ∙ c.loop-name.invariant
