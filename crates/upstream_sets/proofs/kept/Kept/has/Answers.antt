use Rattle.std.proofs.Common.{ap, ◌∙◌, is_some, string_bytes}
use Rattle.std.specs.Map.{lookup}
use Rattle.std.specs.Str.{bytes_eq}
use Rattle.fed_defs.specs.Links.{is_kept}
use Rattle.upstream_sets.proofs.LinkTableLemmas.{found}
use Rattle.upstream_sets.proofs.kept.Kept.has.Goals as goal

pub returns : goal.returns
returns c =
    let table = c.self.inside.table in
    c.contains_key.ensures
    ∙ ap (λ name. is_some (lookup (λ key. bytes_eq name (string_bytes key)) table.entries)) c.as_str.ensures
    ∙ found table.entries c.args.link.now c.self.invariant.named
    ∙ ap (λ kept. is_kept kept c.args.link.now) c.self.view_is
