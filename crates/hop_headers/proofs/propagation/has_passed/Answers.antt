use Rattle.std.proofs.Common.{◌≡◌, ◌∙◌, rules}
use Rattle.std.specs.List.{list_any}
use Rattle.field_tables.specs.View.{fields_view}
use Rattle.hop_headers.specs.Gate.{is_at}
use Rattle.hop_headers.proofs.PropagationLemmas.{passed_is}
use Rattle.hop_headers.proofs.propagation.has_passed.Goals as goal

pub returns : goal.returns
returns c =
    let any : c.has_been_at.result ≡ list_any (is_at c.args.upstream.now) (fields_view c.args.values.now) = search rules in
    any ∙ passed_is c.args.upstream.now (fields_view c.args.values.now) c.requires
