use Rattle.std.proofs.Common.{◌≡◌, ◌≤◌, ◌==◌, cond, not, Some, None, ap, sym, subst, ◌∙◌, arith}
use Rattle.std.specs.Prelude.{nat_eq}
use Rattle.std.specs.Option.{is_some, option_eq}
use Rattle.queue_core.specs.declared.rows.Row.{Row}
use Rattle.queue_core.specs.declared.rows.Hold.TheVariants.{Ready}
use Rattle.queue_core.specs.Rows.{has, without, first_ready}
use Rattle.queue_core.specs.Copies.{AgreesWith, rows_from}
use Rattle.queue_core.proofs.RowLemmas.{Ascends-filter, left_first}
use Rattle.queue_core.proofs.TallyLemmas.{hold_of, has-by_hold, absent, counted_hold, left, shorter}
use Rattle.queue_core.proofs.queue.Queue.leave.Goals as goal

pub returns-in_default-clause-there : goal.returns-in_default-clause-there
returns-in_default-clause-there c =
    let none : hold_of c.args.copy c.self.inside.copies ≡ None = sym c.hold.ensures ∙ c.in_default.is in
    sym (ap is_some none) ∙ sym (has-by_hold c.args.copy c.self.inside.copies) ∙ ap (has c.args.copy) c.self.view_is

pub returns-in_default-clause-left : goal.returns-in_default-clause-left
returns-in_default-clause-left c =
    let none : hold_of c.args.copy c.self.inside.copies ≡ None = sym c.hold.ensures ∙ c.in_default.is in
    subst (λ rows. rows ≡ without c.args.copy rows) c.self.view_is (sym (absent c.args.copy Ready c.self.inside.copies none).1)

pub take-requires-clause-ready : goal.take-requires-clause-ready
take-requires-clause-ready c =
    let there : hold_of c.args.copy c.self.inside.copies ≡ Some c.in-Some.hold = sym c.hold.ensures ∙ c.in-Some.is in
    (counted_hold c.args.copy c.in-Some.hold c.self.inside.copies c.self.inside.first c.self.inside.tally c.self.invariant there).0

pub take-requires-clause-held : goal.take-requires-clause-held
take-requires-clause-held c =
    let there : hold_of c.args.copy c.self.inside.copies ≡ Some c.in-Some.hold = sym c.hold.ensures ∙ c.in-Some.is in
    (counted_hold c.args.copy c.in-Some.hold c.self.inside.copies c.self.inside.first c.self.inside.tally c.self.invariant there).1

pub invariant_of-self : goal.invariant_of-self
invariant_of-self c =
    let there : hold_of c.args.copy c.self.inside.copies ≡ Some c.in-Some.hold = sym c.hold.ensures ∙ c.in-Some.is in
    let was = c.self.invariant in let rows = c.self.inside.copies in
    let fewer = shorter (λ row. not (row.copy == c.args.copy)) rows in
    let room = was.room in let fits = was.fits in let same = c.take.ensures.room in
    subst (λ rows. AgreesWith rows c.first_left-self-inside.result c.take.new.self) (sym c.remove.ensures) (record {
      rising = Ascends-filter (λ row. not (row.copy == c.args.copy)) rows was.rising;
      first = c.first_left-self-inside.ensures
          ∙ ap (λ new. cond (option_eq nat_eq c.self.inside.first (Some c.args.copy)) (first_ready (rows_from c.args.copy new)) c.self.inside.first) c.remove.ensures
          ∙ ap (λ first. cond (option_eq nat_eq first (Some c.args.copy)) (first_ready (rows_from c.args.copy (without c.args.copy rows))) first) was.first
          ∙ left_first c.args.copy rows was.rising;
      counts = λ test. let less = c.take.ensures.counts test in let all = was.counts test in let one = left test c.args.copy c.in-Some.hold rows was.rising there in omega (arith, less, all, one);
      room = omega (arith, fewer, room, same);
      fits = omega (arith, fewer, fits);
    })

pub returns-clause-there : goal.returns-clause-there
returns-clause-there c =
    let there : hold_of c.args.copy c.self.inside.copies ≡ Some c.in-Some.hold = sym c.hold.ensures ∙ c.in-Some.is in
    sym (ap is_some there) ∙ sym (has-by_hold c.args.copy c.self.inside.copies) ∙ ap (has c.args.copy) c.self.view_is
