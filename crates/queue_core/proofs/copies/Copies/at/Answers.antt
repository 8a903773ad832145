use Rattle.std.proofs.Common.{ap, sym, ◌∙◌}
use Rattle.std.specs.Prelude.{slice_get}
use Rattle.queue_core.specs.Rows.{copy_at}
use Rattle.queue_core.proofs.EntryLemmas.{place_of_key}
use Rattle.queue_core.proofs.copies.Copies.at.Goals as goal

pub loop-copy-init : goal.loop-copy-init
loop-copy-init c =
    ap (λ keys. slice_get keys c.args.place) (c.into_iter-copy-iterator.ensures.into_iter_gives ∙ c.keys-copy-items.ensures.rest)
    ∙ place_of_key c.self.inside.stored c.self.inside.holds.entries c.args.place ∙ ap (λ rows. copy_at rows c.args.place) c.self.view_is
