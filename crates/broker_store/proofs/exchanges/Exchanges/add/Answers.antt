use Rattle.std.proofs.Common.{◌≡◌, [], ◌∷◌, ◌++◌, None, sym, ap, ◌∙◌, string_bytes}
use Rattle.std.proofs.lemmas.List.{map-append}
use Rattle.std.specs.String.{string_eq}
use Rattle.indexmap.proofs.CallerLemmas.{insert_entry-new}
use Rattle.broker_store.specs.Exchanges.{declared_shape}
use Rattle.broker_store.proofs.NameLemmas.{under, lookup_under}
use Rattle.broker_store.proofs.exchanges.Exchanges.add.Goals as goal

pub returns-clause-ok : goal.returns-clause-ok
returns-clause-ok c =
    let free : declared_shape (string_bytes c.args.name) (under c.self.inside.table.entries) ≡ None = ap (declared_shape (string_bytes c.args.name)) c.self.view_is ∙ c.requires in
    ap under (c.in_ok-insert.ensures.entries ∙ insert_entry-new string_eq c.self.inside.table c.args.name c.args.shape (sym (lookup_under (string_bytes c.args.name) c.self.inside.table.entries) ∙ free))
    ∙ map-append (λ e. (string_bytes e.0, e.1)) c.self.inside.table.entries ((c.args.name, c.args.shape) ∷ [])
    ∙ ap (λ xs. xs ++ (string_bytes c.args.name, c.args.shape) ∷ []) c.self.view_is
