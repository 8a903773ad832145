use Rattle.std.proofs.Common.{ap, sym, ◌∙◌}
use Rattle.queue_core.proofs.EntryLemmas.{looked_up}
use Rattle.queue_core.proofs.TallyLemmas.{hold_of}
use Rattle.queue_core.proofs.copies.Copies.hold.Goals as goal

pub returns : goal.returns
returns c = c.copied.ensures ∙ c.get.ensures.value ∙ sym (looked_up c.self.inside.stored c.args.copy c.self.inside.holds.entries) ∙ ap (hold_of c.args.copy) c.self.view_is
