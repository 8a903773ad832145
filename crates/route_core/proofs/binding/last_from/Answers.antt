use Rattle.std.proofs.Common.{◌≡◌, ◌-◌, ◌<◌, ◌≤◌, List, ℕ, true, length, ap, sym, ◌∙◌, arith}
use Rattle.std.specs.Prelude.{slice_index_or}
use Rattle.std.proofs.lemmas.Slice.Eq.{bytes_eq-Decides}
use Rattle.route_core.specs.declared.binding.Binding.{Binding}
use Rattle.route_core.specs.Bindings.{leaves}
use Rattle.route_core.specs.Sources.{source_code}
use Rattle.route_core.proofs.ChainLemmas.{none_last, none_next, none_any}
use Rattle.route_core.proofs.SpreadLemmas.{codes_length}
use Rattle.route_core.proofs.binding.last_from.Goals as goal

same : (name : List ℕ) (b : Binding) → leaves name b ≡ true → source_code b.source ≡ source_code name
same name b h = ap source_code ((bytes_eq-Decides b.source name).0 h)

pub loop-at-init : goal.loop-at-init
loop-at-init c =
    let last = rw c.source_code.ensures at c.last-at.ensures in
    let long = codes_length c.args.bindings.now c.args.sources.now.codes c.requires in
    (omega (arith, last.within, long), last.here, none_last (λ (b : Binding). source_code b.source) (leaves c.args.exchange.now) (source_code c.args.exchange.now) (same c.args.exchange.now) c.args.bindings.now c.args.sources.now.codes _ c.requires last)

pub loop-at-preserved : goal.loop-at-preserved
loop-at-preserved c =
    let at = c.loop-at.at in
    let pos : 0 < at = omega (arith, c.loop-at-test.true) in
    let code : slice_index_or c.args.sources.now.codes (at - 1) 0 ≡ source_code c.args.exchange.now = c.loop-at.invariant.1 pos in
    let last = c.before-at.ensures in (
      omega (arith, last.within, c.loop-at.invariant.0),
      λ lt. last.here lt ∙ code,
      none_next (λ (b : Binding). source_code b.source) (leaves c.args.exchange.now) (source_code c.args.exchange.now) (same c.args.exchange.now) c.args.bindings.now c.args.sources.now.codes at _ c.index-bindings-at.result c.requires pos c.loop-at.invariant.0 code c.index-bindings-at.is (sym c.leaves.ensures ∙ c.if-leaves.false) last c.loop-at.invariant.2,
    )

pub returns-clause-none : goal.returns-clause-none
returns-clause-none c = none_any (leaves c.args.exchange.now) c.args.bindings.now c.loop-at.at (omega (arith, c.loop-at-test.false)) c.loop-at.invariant.2
