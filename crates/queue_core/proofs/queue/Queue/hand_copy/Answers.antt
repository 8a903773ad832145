use Rattle.std.proofs.Common.{◌≡◌, ◌≤◌, cond, Some, None, refl, ap, sym, subst, ◌∙◌, arith}
use Rattle.std.specs.Prelude.{map, nat_eq}
use Rattle.std.specs.Option.{option_eq}
use Rattle.std.proofs.lemmas.List.{length-map}
use Rattle.queue_core.specs.declared.rows.Hold.TheVariants.{Held}
use Rattle.queue_core.specs.Rows.{with_hold, handed, first_ready}
use Rattle.queue_core.specs.Copies.{AgreesWith, rows_from}
use Rattle.queue_core.proofs.RowLemmas.{Ascends-map, held_first}
use Rattle.queue_core.proofs.TallyLemmas.{hold_of, absent, counted_hold, room_left, counts_reheld}
use Rattle.queue_core.proofs.queue.Queue.hand_copy.Goals as goal

pub take-requires-clause-ready : goal.take-requires-clause-ready
take-requires-clause-ready c =
    let there : hold_of c.args.copy c.self.inside.copies ≡ Some c.in-Some.hold = sym c.hold.ensures ∙ c.in-Some.is in
    (counted_hold c.args.copy c.in-Some.hold c.self.inside.copies c.self.inside.first c.self.inside.tally c.self.invariant there).0

pub take-requires-clause-held : goal.take-requires-clause-held
take-requires-clause-held c =
    let there : hold_of c.args.copy c.self.inside.copies ≡ Some c.in-Some.hold = sym c.hold.ensures ∙ c.in-Some.is in
    (counted_hold c.args.copy c.in-Some.hold c.self.inside.copies c.self.inside.first c.self.inside.tally c.self.invariant there).1

pub put-requires-clause-room : goal.put-requires-clause-room
put-requires-clause-room c = (room_left c.in-Some.hold c.self.inside.copies c.self.inside.first c.self.inside.tally c.take.new.self c.self.invariant c.take.ensures.counts c.take.ensures.room).1

pub invariant_of-self : goal.invariant_of-self
invariant_of-self c =
    let there : hold_of c.args.copy c.self.inside.copies ≡ Some c.in-Some.hold = sym c.hold.ensures ∙ c.in-Some.is in
    let was = c.self.invariant in let rows = c.self.inside.copies in
    let now = map (with_hold c.args.copy (Held c.args.holder)) rows in
    let size = length-map rows (with_hold c.args.copy (Held c.args.holder)) in
    let room = was.room in let fits = was.fits in let same = c.take.ensures.room in let more = c.put.ensures.room in
    subst (λ rows. AgreesWith rows c.first_left-self-inside.result c.put.new.self) (sym c.set_hold.ensures) (record {
      rising = Ascends-map (with_hold c.args.copy (Held c.args.holder)) (λ _. refl) rows was.rising;
      first = c.first_left-self-inside.ensures
          ∙ ap (λ new. cond (option_eq nat_eq c.self.inside.first (Some c.args.copy)) (first_ready (rows_from c.args.copy new)) c.self.inside.first) c.set_hold.ensures
          ∙ ap (λ first. cond (option_eq nat_eq first (Some c.args.copy)) (first_ready (rows_from c.args.copy now)) first) was.first
          ∙ held_first c.args.copy (Held c.args.holder) rows refl was.rising;
      counts = counts_reheld c.args.copy c.in-Some.hold (Held c.args.holder) rows c.self.inside.first c.self.inside.tally c.take.new.self c.put.new.self was there c.take.ensures.counts c.put.ensures.counts;
      room = omega (arith, size, room, same, more);
      fits = omega (arith, size, fits);
    })

pub returns-in_default : goal.returns-in_default
returns-in_default c =
    let none : hold_of c.args.copy c.self.inside.copies ≡ None = sym c.hold.ensures ∙ c.in_default.is in
    subst (λ rows. rows ≡ handed c.args.copy c.args.holder rows) c.self.view_is (sym (absent c.args.copy (Held c.args.holder) c.self.inside.copies none).0)
