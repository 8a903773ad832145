use Rattle.std.proofs.Common.{drop, ◌∙◌, arith, rules}
use Rattle.std.proofs.lemmas.List.{drop_all}
use Rattle.hop_headers.specs.Hops.{entry_of}
use Rattle.field_tables.proofs.Lists.{from_item}
use Rattle.hop_headers.proofs.Loops.{map_go, map_end}
use Rattle.hop_headers.proofs.hops.entries_of.Goals as goal

pub loop-value-preserved : goal.loop-value-preserved
loop-value-preserved c =
    map_go entry_of _ _ _ _ c.value-item.result (from_item c.args.values.now c.loop-value.value-index c.value-item.result (omega arith) c.value-item.is) (search rules) ∙ c.loop-value.invariant

pub returns : goal.returns
returns c = map_end entry_of _ (drop c.loop-value.value-index c.args.values.now) (drop_all c.loop-value.value-index c.args.values.now (omega arith)) ∙ c.loop-value.invariant
