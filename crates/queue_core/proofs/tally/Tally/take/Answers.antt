use Rattle.std.proofs.Common.{◌≤◌, ap, sym, refl, subst, ◌∙◌, arith}
use Rattle.queue_core.specs.declared.rows.Hold.TheVariants.{Ready}
use Rattle.queue_core.specs.Rows.{is_ready_hold}
use Rattle.queue_core.specs.Copies.{tally_of, held_in}
use Rattle.queue_core.proofs.TallyLemmas.{ready_alone, one_ready_less}
use Rattle.queue_core.proofs.tally.Tally.take.Goals as goal

pub overflow_sub-self : goal.overflow_sub-self
overflow_sub-self c =
    let some : 1 ≤ tally_of is_ready_hold c.args.self.now = c.requires.ready (ap is_ready_hold c.in-Ready.is) in
    let alone = ready_alone c.self.inside.ready c.self.inside.counts.items ∙ ap (tally_of is_ready_hold) c.self.view_is in
    omega (arith, some, alone)

pub returns-in-Ready-clause-counts : goal.returns-in-Ready-clause-counts
returns-in-Ready-clause-counts c = λ test.
    let some : 1 ≤ tally_of is_ready_hold c.args.self.now = c.requires.ready (ap is_ready_hold c.in-Ready.is) in
    let alone = ready_alone c.self.inside.ready c.self.inside.counts.items ∙ ap (tally_of is_ready_hold) c.self.view_is in
    rw c.in-Ready.is (one_ready_less (test Ready) c.self.inside.ready (held_in test c.self.inside.counts.items) (omega (arith, some, alone))) ∙ ap (tally_of test) c.self.view_is
