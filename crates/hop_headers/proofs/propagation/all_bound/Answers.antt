use Rattle.std.proofs.Common.{drop, ◌∙◌, arith, rules}
use Rattle.std.proofs.lemmas.List.{drop_all}
use Rattle.hop_headers.specs.Propagation.{is_bound}
use Rattle.field_tables.proofs.Lists.{from_item}
use Rattle.hop_headers.proofs.Loops.{all_go, all_stop, all_end}
use Rattle.hop_headers.proofs.propagation.all_bound.Goals as goal

pub returns-then-not-is_bound : goal.returns-then-not-is_bound
returns-then-not-is_bound c =
    all_stop is_bound _ _ c.value-item.result (from_item c.args.values.now c.loop-value.value-index c.value-item.result (omega arith) c.value-item.is) (search rules) ∙ c.loop-value.invariant

pub loop-value-preserved : goal.loop-value-preserved
loop-value-preserved c =
    all_go is_bound _ _ c.value-item.result (from_item c.args.values.now c.loop-value.value-index c.value-item.result (omega arith) c.value-item.is) (search rules) ∙ c.loop-value.invariant

pub returns : goal.returns
returns c = all_end is_bound (drop c.loop-value.value-index c.args.values.now) (drop_all c.loop-value.value-index c.args.values.now (omega arith)) ∙ c.loop-value.invariant
