use Rattle.std.proofs.Common.{ap, sym, ◌∙◌, ◌&&◌}
use Rattle.std.specs.Option.{is_some}
use Rattle.std.specs.Map.{lookup}
use Rattle.std.specs.BTreeMap.{is_at}
use Rattle.std.specs.Ordering.{nat_cmp}
use Rattle.queue_core.specs.Rows.{has_stored}
use Rattle.queue_core.proofs.EntryLemmas.{stored_there}
use Rattle.queue_core.proofs.copies.Copies.is_stored.Goals as goal

pub returns-then-covers : goal.returns-then-covers
returns-then-covers c =
    c.contains_key.ensures
    ∙ ap (λ b. b && is_some (lookup (is_at (nat_cmp c.args.copy)) c.self.inside.holds.entries)) (sym (sym c.covers.ensures ∙ c.if-covers.true))
    ∙ sym (stored_there c.self.inside.stored c.args.copy c.self.inside.holds.entries) ∙ ap (has_stored c.args.copy) c.self.view_is

pub returns-else-covers : goal.returns-else-covers
returns-else-covers c =
    c.if-covers.false
    ∙ ap (λ b. b && is_some (lookup (is_at (nat_cmp c.args.copy)) c.self.inside.holds.entries)) (sym (sym c.covers.ensures ∙ c.if-covers.false))
    ∙ sym (stored_there c.self.inside.stored c.args.copy c.self.inside.holds.entries) ∙ ap (has_stored c.args.copy) c.self.view_is
