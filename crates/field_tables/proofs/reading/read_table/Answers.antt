use Rattle.std.proofs.Common.{ap, subst, ◌∙◌, arith}
use Rattle.field_tables.specs.View.{table_view}
use Rattle.field_tables.specs.Reading.{Gives, table_at}
use Rattle.field_tables.proofs.Values.{table_again, is_found}
use Rattle.field_tables.proofs.reading.read_table.Goals as goal

pub returns-clause-found : goal.returns-clause-found
returns-clause-found c = is_found c.args.bytes.now c.table_of.result (λ i. omega (arith, c.type_inv.bytes i)) c.table_of.ensures

pub returns-clause-only : goal.returns-clause-only
returns-clause-only c = λ ps rest fits e. subst (λ f. Gives (λ x. (table_view x.0, x.1)) c.table_of.result f) (ap table_at e ∙ table_again ps rest fits) c.table_of.ensures
