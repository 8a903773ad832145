use Rattle.std.proofs.Common.{◌≡◌, ◌≤◌, true, false, Some, None, refl, ap, sym, subst, ◌∙◌, arith}
use Rattle.std.specs.Prelude.{map, min}
use Rattle.std.specs.Option.{is_some, option_map_or}
use Rattle.std.proofs.lemmas.List.{length-map}
use Rattle.queue_core.specs.declared.rows.Hold.TheVariants.{Ready, Held}
use Rattle.queue_core.specs.Rows.{with_hold, released, first_ready, holder_of, has_held}
use Rattle.queue_core.specs.Copies.{AgreesWith, is_held_hold}
use Rattle.queue_core.proofs.RowLemmas.{Ascends-map, ready_again}
use Rattle.queue_core.proofs.TallyLemmas.{hold_of, counted_hold, room_left, counts_reheld, held_there, not_held, held-by_hold, found-by_hold}
use Rattle.queue_core.proofs.queue.Queue.release.Goals as goal

pub returns-in_default-clause-held : goal.returns-in_default-clause-held
returns-in_default-clause-held c =
    let none : holder_of c.args.copy c.self.inside.copies ≡ None = ap (holder_of c.args.copy) c.self.view_is ∙ sym c.holder.ensures ∙ c.in_default.is in
    sym (not_held c.args.copy c.self.inside.copies c.self.invariant.rising none).0 ∙ ap (has_held c.args.copy) c.self.view_is

pub returns-in_default-clause-ready : goal.returns-in_default-clause-ready
returns-in_default-clause-ready c =
    let none : holder_of c.args.copy c.self.inside.copies ≡ None = ap (holder_of c.args.copy) c.self.view_is ∙ sym c.holder.ensures ∙ c.in_default.is in
    subst (λ rows. rows ≡ released c.args.copy rows) c.self.view_is (sym (not_held c.args.copy c.self.inside.copies c.self.invariant.rising none).1)

pub take-requires-clause-held : goal.take-requires-clause-held
take-requires-clause-held c =
    let held : holder_of c.args.copy c.self.inside.copies ≡ Some c.in-Some.holder = ap (holder_of c.args.copy) c.self.view_is ∙ sym c.holder.ensures ∙ c.in-Some.is in
    let there = held_there c.args.copy c.in-Some.holder c.self.inside.copies held in
    (counted_hold c.args.copy (Held c.in-Some.holder) c.self.inside.copies c.self.inside.first c.self.inside.tally c.self.invariant there).1

pub put-requires-clause-room : goal.put-requires-clause-room
put-requires-clause-room c = (room_left (Held c.in-Some.holder) c.self.inside.copies c.self.inside.first c.self.inside.tally c.take.new.self c.self.invariant c.take.ensures.counts c.take.ensures.room).1

pub invariant_of-self : goal.invariant_of-self
invariant_of-self c =
    let held : holder_of c.args.copy c.self.inside.copies ≡ Some c.in-Some.holder = ap (holder_of c.args.copy) c.self.view_is ∙ sym c.holder.ensures ∙ c.in-Some.is in
    let there = held_there c.args.copy c.in-Some.holder c.self.inside.copies held in
    let was = c.self.invariant in let rows = c.self.inside.copies in
    let now = map (with_hold c.args.copy Ready) rows in
    let size = length-map rows (with_hold c.args.copy Ready) in
    let room = was.room in let fits = was.fits in let same = c.take.ensures.room in let more = c.put.ensures.room in
    subst (λ rows. AgreesWith rows c.lesser-self-inside.result c.put.new.self) (sym c.set_hold.ensures) (record {
      rising = Ascends-map (with_hold c.args.copy Ready) (λ _. refl) rows was.rising;
      first = c.lesser-self-inside.ensures ∙ ap (λ first. Some (option_map_or (min c.args.copy) first c.args.copy)) was.first ∙ sym (ready_again c.args.copy rows was.rising (found-by_hold c.args.copy rows ∙ ap is_some there));
      counts = counts_reheld c.args.copy (Held c.in-Some.holder) Ready rows c.self.inside.first c.self.inside.tally c.take.new.self c.put.new.self was there c.take.ensures.counts c.put.ensures.counts;
      room = omega (arith, size, room, same, more);
      fits = omega (arith, size, fits);
    })

pub returns-clause-held : goal.returns-clause-held
returns-clause-held c =
    let held : holder_of c.args.copy c.self.inside.copies ≡ Some c.in-Some.holder = ap (holder_of c.args.copy) c.self.view_is ∙ sym c.holder.ensures ∙ c.in-Some.is in
    let there = held_there c.args.copy c.in-Some.holder c.self.inside.copies held in
    sym (held-by_hold c.args.copy c.self.inside.copies c.self.invariant.rising ∙ ap (λ hold. option_map_or is_held_hold hold false) there) ∙ ap (has_held c.args.copy) c.self.view_is
