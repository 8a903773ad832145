use Rattle.std.proofs.Common.{ap, sym, ◌∙◌}
use Rattle.std.specs.Map.{lookup}
use Rattle.std.specs.Option.{option_map}
use Rattle.std.specs.Str.{bytes_eq}
use Rattle.upstream_sets.proofs.ParameterTableLemmas.{lookup_seen}
use Rattle.upstream_sets.proofs.table.ParameterTable.find.Goals as goal

pub returns-in-Some : goal.returns-in-Some
returns-in-Some c =
    ap (option_map (λ p. p.now)) c.in-Some.ensures.value
    ∙ sym (lookup_seen c.args.name.now c.self.inside.table.entries)
    ∙ ap (lookup (bytes_eq c.args.name.now)) c.self.view_is

pub returns-in-None : goal.returns-in-None
returns-in-None c =
    ap (option_map (λ p. p.now)) c.in-None.ensures.value
    ∙ sym (lookup_seen c.args.name.now c.self.inside.table.entries)
    ∙ ap (lookup (bytes_eq c.args.name.now)) c.self.view_is
