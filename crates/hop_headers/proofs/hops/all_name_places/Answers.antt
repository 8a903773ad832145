use Rattle.std.proofs.Common.{drop, ◌∙◌, arith, rules}
use Rattle.std.proofs.lemmas.List.{drop_all}
use Rattle.hop_headers.specs.Hops.{names_place}
use Rattle.field_tables.proofs.Lists.{from_item}
use Rattle.hop_headers.proofs.Loops.{all_go, all_stop, all_end}
use Rattle.hop_headers.proofs.hops.all_name_places.Goals as goal

pub returns-then-not-names_place : goal.returns-then-not-names_place
returns-then-not-names_place c =
    all_stop names_place _ _ c.value-item.result (from_item c.args.values.now c.loop-value.value-index c.value-item.result (omega arith) c.value-item.is) (search rules) ∙ c.loop-value.invariant

pub loop-value-preserved : goal.loop-value-preserved
loop-value-preserved c =
    all_go names_place _ _ c.value-item.result (from_item c.args.values.now c.loop-value.value-index c.value-item.result (omega arith) c.value-item.is) (search rules) ∙ c.loop-value.invariant

pub returns : goal.returns
returns c = all_end names_place (drop c.loop-value.value-index c.args.values.now) (drop_all c.loop-value.value-index c.args.values.now (omega arith)) ∙ c.loop-value.invariant
