use Rattle.std.proofs.Common.{◌≡◌, [], ◌∷◌, ◌++◌, false, true, is_some, ap, sym, ◌∙◌}
use Rattle.std.specs.Map.{lookup}
use Rattle.std.specs.Str.{bytes_eq}
use Rattle.indexmap.proofs.CallerLemmas.{insert_entry-new}
use Rattle.upstream_sets.proofs.ParameterTableLemmas.{seen, seen_pushed, is_some_seen, nothing, with_known, with_new}
use Rattle.upstream_sets.proofs.table.ParameterTable.add.Goals as goal

pub returns-then-contains_key : goal.returns-then-contains_key
returns-then-contains_key c =
    let es = c.self.inside.table.entries in
    let at = ap (λ name. is_some (lookup (λ key. bytes_eq name key.now) es)) c.as_str-name.ensures in
    let there : is_some (lookup (bytes_eq c.args.parameter.now.name) c.args.self.now) ≡ true =
    ap (λ t. is_some (lookup (bytes_eq c.args.parameter.now.name) t)) (sym c.self.view_is) ∙ is_some_seen c.args.parameter.now.name es ∙ sym at ∙ sym c.contains_key.ensures ∙ c.if-contains_key.true in
    sym (with_known c.args.self.now c.args.parameter.now there)

pub returns : goal.returns
returns c =
    let table = c.self.inside.table in
    let at = ap (λ name. is_some (lookup (λ key. bytes_eq name key.now) table.entries)) c.as_str-name.ensures in
    let absent = sym c.contains_key.ensures ∙ c.if-contains_key.false in
    let free : is_some (lookup (bytes_eq c.args.parameter.now.name) c.args.self.now) ≡ false =
    ap (λ t. is_some (lookup (bytes_eq c.args.parameter.now.name) t)) (sym c.self.view_is) ∙ is_some_seen c.args.parameter.now.name table.entries ∙ sym at ∙ absent in
    ap seen (c.in_ok-insert.ensures.entries ∙ insert_entry-new (λ a b. bytes_eq a.now b.now) table c.as_str-name.result c.args.parameter (nothing (lookup (λ key. bytes_eq c.as_str-name.result.now key.now) table.entries) absent))
    ∙ seen_pushed table.entries c.as_str-name.result c.args.parameter
    ∙ ap (λ name. seen table.entries ++ (name, c.args.parameter.now) ∷ []) c.as_str-name.ensures
    ∙ ap (λ t. t ++ (c.args.parameter.now.name, c.args.parameter.now) ∷ []) c.self.view_is
    ∙ sym (with_new c.args.self.now c.args.parameter.now free)
