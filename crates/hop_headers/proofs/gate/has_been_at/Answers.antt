use Rattle.std.proofs.Common.{drop, ◌∙◌, arith, rules}
use Rattle.std.proofs.lemmas.List.{drop_all}
use Rattle.hop_headers.specs.Gate.{place, is_at}
use Rattle.field_tables.proofs.Lists.{from_item}
use Rattle.hop_headers.proofs.Loops.{any_go, any_stop, any_end}
use Rattle.hop_headers.proofs.gate.has_been_at.Goals as goal

pub returns-then-is_at : goal.returns-then-is_at
returns-then-is_at c =
    any_stop (is_at (place c.args.wanted.cluster.now c.args.wanted.vhost.now)) _ _ c.value-item.result (from_item c.args.values.now c.loop-value.value-index c.value-item.result (omega arith) c.value-item.is) (search rules) ∙ c.loop-value.invariant

pub loop-value-preserved : goal.loop-value-preserved
loop-value-preserved c =
    any_go (is_at (place c.args.wanted.cluster.now c.args.wanted.vhost.now)) _ _ c.value-item.result (from_item c.args.values.now c.loop-value.value-index c.value-item.result (omega arith) c.value-item.is) (search rules) ∙ c.loop-value.invariant

pub returns : goal.returns
returns c = any_end (is_at (place c.args.wanted.cluster.now c.args.wanted.vhost.now)) (drop c.loop-value.value-index c.args.values.now) (drop_all c.loop-value.value-index c.args.values.now (omega arith)) ∙ c.loop-value.invariant
