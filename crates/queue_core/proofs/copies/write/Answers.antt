use Rattle.std.proofs.Common.{sym, ap, ◌∙◌}
use Rattle.std.specs.Option.{option_copied_mut}
use Rattle.std.specs.BTreeMap.{is_at}
use Rattle.std.specs.Ordering.{nat_cmp}
use Rattle.queue_core.proofs.EntryLemmas.{written_nowhere}
use Rattle.queue_core.proofs.copies.write.Goals as goal

pub returns-in_default : goal.returns-in_default
returns-in_default c = ap (λ held. held.entries) c.get_mut.follows.holds-at-none ∙ sym (written_nowhere (is_at (nat_cmp c.args.copy)) c.args.hold c.args.holds.now.entries (sym c.get_mut.ensures.value ∙ ap option_copied_mut c.in_default.is))
