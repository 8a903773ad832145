use Rattle.std.proofs.Common.{ap, sym, ◌∙◌}
use Rattle.std.specs.Prelude.{find, filter}
use Rattle.std.specs.Option.{option_map}
use Rattle.std.specs.declared.ops.Bound.TheVariants.{Included, Unbounded}
use Rattle.std.specs.Ordering.{nat_cmp}
use Rattle.std.specs.BTreeMap.Range.{range_contains}
use Rattle.queue_core.specs.Rows.{first_ready, is_ready_hold}
use Rattle.queue_core.specs.Copies.{rows_from}
use Rattle.queue_core.proofs.EntryLemmas.{first_entry, ranged}
use Rattle.queue_core.proofs.copies.Copies.first_from.Goals as goal

pub loop-found-init : goal.loop-found-init
loop-found-init c =
    let part = filter (λ e. range_contains nat_cmp (Included c.args.copy) Unbounded e.0) c.self.inside.holds.entries in
    ap (λ es. option_map (λ e. e.0) (find (λ e. is_ready_hold e.1) es)) (c.into_iter-found-iterator.ensures.into_iter_gives ∙ c.range-found-items.ensures.between tt)
    ∙ sym (first_entry c.self.inside.stored part) ∙ ap first_ready (ranged c.self.inside.stored c.args.copy c.self.inside.holds.entries)
    ∙ ap (λ rows. first_ready (rows_from c.args.copy rows)) c.self.view_is
