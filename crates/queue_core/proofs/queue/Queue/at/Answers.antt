use Rattle.std.proofs.Common.{◌≡◌, ◌≤◌, false, length, ap, sym, subst, ◌∙◌}
use Rattle.std.specs.Prelude.{◌↔◌}
use Rattle.std.specs.Option.{is_some}
use Rattle.queue_core.specs.Rows.{copy_at}
use Rattle.queue_core.proofs.RowLemmas.{past_end}
use Rattle.queue_core.proofs.queue.Queue.at.Goals as goal

pub returns-clause-end : goal.returns-clause-end
returns-clause-end c = subst (λ found. (is_some found ≡ false) ↔ (length c.args.self.now ≤ c.args.place)) (sym (c.at.ensures ∙ ap (λ rows. copy_at rows c.args.place) c.self.view_is)) (past_end c.args.self.now c.args.place)
