use Rattle.std.proofs.Common.{◌≡◌, ◌∙◌, sym}
use Rattle.field_tables.specs.View.{table_view}
use Rattle.hop_headers.specs.Gate.{gate_passes}
use Rattle.hop_headers.proofs.HopLemmas.{gate_is, gate_yes, gate_back}
use Rattle.hop_headers.proofs.gate.gate_passes.Goals as goal

pub returns-clause-value : goal.returns-clause-value
returns-clause-value c =
    c.passes_hops.ensures ∙ gate_is c.args.limit c.args.cluster.now c.args.vhost.now (table_view c.args.headers.now) c.kept_hops.result.now c.kept_hops.ensures

pub returns-clause-relation : goal.returns-clause-relation
returns-clause-relation c =
    let is : c.passes_hops.result ≡ gate_passes c.args.limit c.args.cluster.now c.args.vhost.now (table_view c.args.headers.now) =
    c.passes_hops.ensures ∙ gate_is c.args.limit c.args.cluster.now c.args.vhost.now (table_view c.args.headers.now) c.kept_hops.result.now c.kept_hops.ensures in
    (λ h. gate_yes _ _ _ _ (sym is ∙ h), λ h. is ∙ gate_back _ _ _ _ h)
