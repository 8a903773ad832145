use Rattle.std.proofs.Common.{[], sym, ap, ◌∙◌}
use Rattle.std.specs.Prelude.{option_and_then, unwrap_or}
use Rattle.std.specs.Map.{lookup}
use Rattle.std.specs.Str.{bytes_eq}
use Rattle.fed_defs.specs.Choices.{set_value}
use Rattle.upstream_sets.proofs.ParameterTableLemmas.{members_found}
use Rattle.upstream_sets.proofs.choices.members_of.Goals as goal

pub returns-in-Some : goal.returns-in-Some
returns-in-Some c =
    let scope = c.args.scope.now in
    c.members_in.ensures
    ∙ ap (λ found. unwrap_or (option_and_then (λ p. set_value p.value) found) []) (c.in-Some.ensures ∙ ap (λ name. lookup (bytes_eq name) scope.sets) c.as_str.ensures)
    ∙ sym (members_found scope.sets scope.vhost.now c.args.name.now scope.tabled_sets)

pub returns-in-None : goal.returns-in-None
returns-in-None c =
    let scope = c.args.scope.now in
    ap (λ found. unwrap_or (option_and_then (λ p. set_value p.value) found) []) (c.in-None.ensures ∙ ap (λ name. lookup (bytes_eq name) scope.sets) c.as_str.ensures)
    ∙ sym (members_found scope.sets scope.vhost.now c.args.name.now scope.tabled_sets)
