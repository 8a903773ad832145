use Rattle.std.proofs.Common.{List, Some, ap, ◌∙◌}
use Rattle.field_tables.specs.View.{fields_view}
use Rattle.field_tables.specs.declared.value.FieldValue.{FieldValue}
use Rattle.hop_headers.proofs.Views.{array_is}
use Rattle.hop_headers.proofs.values.array_of.Goals as goal

pub returns-in-Array : goal.returns-in-Array
returns-in-Array c =
    ap (λ (vs : List FieldValue). Some (fields_view vs)) c.as_slice.ensures.value ∙ array_is c.args.value.now c.in-Array.values c.in-Array.is
