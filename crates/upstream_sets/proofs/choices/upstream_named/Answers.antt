use Rattle.std.proofs.Common.{sym, ap, ◌∙◌}
use Rattle.std.specs.Prelude.{option_and_then}
use Rattle.std.specs.Map.{lookup}
use Rattle.std.specs.Str.{bytes_eq}
use Rattle.fed_defs.specs.Choices.{upstream_value}
use Rattle.upstream_sets.proofs.ParameterTableLemmas.{upstream_found}
use Rattle.upstream_sets.proofs.choices.upstream_named.Goals as goal

pub returns-in-Some : goal.returns-in-Some
returns-in-Some c =
    let scope = c.args.scope.now in
    c.upstream_in.ensures
    ∙ ap (option_and_then (λ p. upstream_value p.value)) (c.in-Some.ensures ∙ ap (λ name. lookup (bytes_eq name) scope.upstreams) c.as_str.ensures)
    ∙ sym (upstream_found scope.upstreams scope.vhost.now c.args.name.now scope.tabled)

pub returns-in-None : goal.returns-in-None
returns-in-None c =
    let scope = c.args.scope.now in
    ap (option_and_then (λ p. upstream_value p.value)) (c.in-None.ensures ∙ ap (λ name. lookup (bytes_eq name) scope.upstreams) c.as_str.ensures)
    ∙ sym (upstream_found scope.upstreams scope.vhost.now c.args.name.now scope.tabled)
