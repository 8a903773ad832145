use Rattle.std.proofs.Common.{◌+◌, ◌∙◌, drop, sym, ap, arith}
use Rattle.std.specs.Prelude.{filter, slice_get}
use Rattle.route_core.specs.declared.binding.Binding.{Binding}
use Rattle.route_core.specs.Bindings.{leaves}
use Rattle.route_core.proofs.Lists.{from_item, at_here, at_more, at_skip, at_end}
use Rattle.route_core.proofs.binding.binding_at.Goals as goal
use Rattle.route_core.proofs.binding.binding_at.Goals.{then-leaves+else-left-eq0, else-leaves}

pub returns-then-left-eq0 : goal.returns-then-left-eq0
returns-then-left-eq0 c =
    let p = λ (b : Binding). leaves c.args.exchange.now b in
    let xs = c.args.bindings.now in
    let i = c.loop-binding.binding-index in
    let item = from_item xs i c.binding-item.result c.loop-binding-test.true c.binding-item.is in
    sym (at_here p c.binding-item.result (drop i xs) (drop (i + 1) xs) item (sym c.leaves.ensures ∙ c.if-leaves.true))
    ∙ ap (λ n. slice_get (filter p (drop i xs)) n) (sym c.if-left-eq0.true)
    ∙ c.loop-binding.invariant

pub loop-binding-preserved : goal.loop-binding-preserved
loop-binding-preserved c =
    let p = λ (b : Binding). leaves c.args.exchange.now b in
    let xs = c.args.bindings.now in
    let i = c.loop-binding.binding-index in
    let item = from_item xs i c.binding-item.result c.loop-binding-test.true c.binding-item.is in
    elim c.if-leaves.branch [
      | then-leaves+else-left-eq0 w ↦ at_more p c.binding-item.result (drop i xs) (drop (i + 1) xs) c.if-leaves.left c.loop-binding.left item (sym c.leaves.ensures ∙ w.if-leaves.true) (omega arith) ∙ c.loop-binding.invariant
      | else-leaves w ↦ ap (λ n. slice_get (filter p (drop (i + 1) xs)) n) w.left-is ∙ sym (at_skip p c.binding-item.result (drop i xs) (drop (i + 1) xs) c.loop-binding.left item (sym c.leaves.ensures ∙ w.if-leaves.false)) ∙ c.loop-binding.invariant
    ]

pub returns : goal.returns
returns c =
    at_end (λ (b : Binding). leaves c.args.exchange.now b) c.loop-binding.binding-index c.args.bindings.now c.loop-binding.left c.loop-binding-test.false
    ∙ c.loop-binding.invariant
