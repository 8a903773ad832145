use Rattle.std.proofs.Common.{rules, ◌≡◌, ◌-◌, ◌<◌, ◌≤◌, List, [], ◌∷◌, ◌++◌, ℕ, None, Some, length, ap, ◌∙◌, arith}
use Rattle.std.specs.Prelude.{slice_index_or}
use Rattle.field_tables.specs.View.{table_view}
use Rattle.route_core.specs.Sources.{source_code}
use Rattle.route_core.specs.Walks.{publish, dest_of, stop, exchange_node}
use Rattle.route_core.proofs.SpreadLemmas.{SpreadsFrom, codes_length, from_last, from_skip, from_push, from_next, spreads_nowhere}
use Rattle.route_core.proofs.walking.spread.Goals as goal
use Rattle.route_core.proofs.walking.spread.Goals.{then-leads_on+in_ok-push, else-leads_on}

pub returns-in_default : goal.returns-in_default
returns-in_default c =
    let nowhere : exchange_node c.args.from.now c.args.objects.now ≡ None = search rules in
    spreads_nowhere _ _ _ _ nowhere

pub loop-at-init : goal.loop-at-init
loop-at-init c =
    let code = c.source_code.ensures in
    let last = rw code at c.last-at.ensures in
    let long = codes_length c.args.bindings.now c.args.sources.now.codes c.requires in
    (omega (arith, last.within, long), last.here, from_last _ _ _ _ c.args.sources.now.codes _ c.requires last)

pub loop-at-preserved : goal.loop-at-preserved
loop-at-preserved c =
    let b = c.index-bindings-at.result in
    let at = c.loop-at.at in
    let pos : 0 < at = omega (arith, c.loop-at-test.true) in
    let within : at ≤ length c.args.bindings.now = c.loop-at.invariant.0 in
    let node : exchange_node c.args.from.now c.args.objects.now ≡ Some c.in-Some.node.now = search rules in
    let code : slice_index_or c.args.sources.now.codes (at - 1) 0 ≡ source_code c.args.from.now = c.loop-at.invariant.1 pos in
    let from : SpreadsFrom (record { objects = c.args.objects.now; bindings = c.args.bindings.now }) (publish c.args.publication.exchange.now c.args.publication.key.now (table_view c.args.publication.headers.now)) c.args.from.now (at - 1) c.args.stops.items c.if-leads_on.stops.items =
    elim c.if-leads_on.branch [
      | then-leads_on+in_ok-push w ↦
          let items : c.if-leads_on.stops.items ≡ c.loop-at.stops.items ++ dest_of b ∷ [] = rw w.stops-is (w.in_ok-push.ensures.items ∙ ap (λ (n : List ℕ). c.loop-at.stops.items ++ stop b.sort n ∷ []) w.as_str.ensures) in
          let on = rw c.deref.ensures.value at (c.leads_on.ensures.yes w.if-leads_on.true c.args.objects.now node) in
          rw items (from_push _ _ _ _ _ _ b c.loop-at.invariant.2 pos within c.index-bindings-at.is on)
      | else-leads_on w ↦
          let off = rw c.deref.ensures.value at (c.leads_on.ensures.no w.if-leads_on.false c.args.objects.now node) in
          rw w.stops-is (from_skip _ _ _ _ _ _ b c.loop-at.invariant.2 pos within c.index-bindings-at.is off)
    ] in
    let last = c.before-at.ensures in
    (omega (arith, last.within, within), λ lt. last.here lt ∙ code, from_next _ _ _ _ _ _ _ c.args.sources.now.codes c.requires code last from)
