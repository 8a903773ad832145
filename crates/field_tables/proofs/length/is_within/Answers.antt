use Rattle.std.proofs.Common.{◌≡◌, ◌∙◌, rules}
use Rattle.std.specs.Prelude.{is_some}
use Rattle.field_tables.specs.View.{table_view}
use Rattle.field_tables.specs.Lengths.{room_after, table_length}
use Rattle.field_tables.proofs.LengthLemmas.{within_is}
use Rattle.field_tables.proofs.length.is_within.Goals as goal

pub returns : goal.returns
returns c =
    let left : c.is_some.result ≡ is_some (room_after c.args.most (table_length (table_view c.args.table.now))) = search rules in
    left ∙ within_is (table_view c.args.table.now) c.args.most
