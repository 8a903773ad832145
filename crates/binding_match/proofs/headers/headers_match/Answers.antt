use Rattle.std.proofs.Common.{◌≡◌, ◌∙◌, sym, rules}
use Rattle.field_tables.specs.View.{table_view}
use Rattle.binding_match.specs.Headers.{headers_agree}
use Rattle.binding_match.proofs.HeaderLemmas.{headers_yes, headers_back}
use Rattle.binding_match.proofs.headers.headers_match.Goals as goal

pub returns-then-asks_any-clause-relation : goal.returns-then-asks_any-clause-relation
returns-then-asks_any-clause-relation c =
    let is : c.some_agrees.result ≡ headers_agree (table_view c.args.args.now) (table_view c.args.headers.now) = search rules in
    (λ h. headers_yes (table_view c.args.args.now) (table_view c.args.headers.now) (sym is ∙ h), λ h. is ∙ headers_back (table_view c.args.args.now) (table_view c.args.headers.now) h)

pub returns-else-asks_any-clause-relation : goal.returns-else-asks_any-clause-relation
returns-else-asks_any-clause-relation c =
    let is : c.all_agree.result ≡ headers_agree (table_view c.args.args.now) (table_view c.args.headers.now) = search rules in
    (λ h. headers_yes (table_view c.args.args.now) (table_view c.args.headers.now) (sym is ∙ h), λ h. is ∙ headers_back (table_view c.args.args.now) (table_view c.args.headers.now) h)
