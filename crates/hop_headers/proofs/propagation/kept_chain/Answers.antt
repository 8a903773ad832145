use Rattle.std.proofs.Common.{List, [], Option, ap, ◌∙◌}
use Rattle.std.specs.Prelude.{unwrap_or}
use Rattle.std.specs.List.{list_all}
use Rattle.field_tables.specs.Fields.{Field}
use Rattle.field_tables.specs.View.{table_view}
use Rattle.hop_headers.specs.Propagation.{is_bound}
use Rattle.hop_headers.proofs.PropagationLemmas.{kept_bound}
use Rattle.hop_headers.proofs.propagation.kept_chain.Goals as goal

pub returns-in-Some-clause-entries : goal.returns-in-Some-clause-entries
returns-in-Some-clause-entries c =
    ap (λ (o : Option (List Field)). list_all is_bound (unwrap_or o [])) c.in-Some.ensures ∙ kept_bound (table_view c.args.args.now)
